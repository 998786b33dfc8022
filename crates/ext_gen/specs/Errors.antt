-- Errors of the crates below, as errors of a store.
use Rattle.ext_index_reader.specs.declared.err.IndexErr.{IndexErr}
use Rattle.ext_index_reader.specs.declared.err.IndexErr.TheVariants as index_errors
use Rattle.ext_store_files.specs.declared.errors.ReadErr.{ReadErr}
use Rattle.ext_store_files.specs.declared.errors.ReadErr.TheVariants as read_errors
use Rattle.ext_store_files.specs.declared.fault.StoreFault.TheVariants.{OutOfMemory, DiskFault}
use Rattle.ext_gen.specs.declared.errors.StoreErr.{StoreErr}
use Rattle.ext_gen.specs.declared.errors.StoreErr.TheVariants.{Fault, Broken}

-- why a file of the store is not read, as an error of the store
abbrev pub store_err_of_read : ReadErr → StoreErr
store_err_of_read read_errors.DiskFault = Fault DiskFault
store_err_of_read read_errors.OutOfMemory = Fault OutOfMemory

-- why an index is not read, as an error of the store
abbrev pub store_err_of_index : IndexErr → StoreErr
store_err_of_index index_errors.OutOfMemory = Fault OutOfMemory
store_err_of_index (index_errors.Broken line) = Broken line
