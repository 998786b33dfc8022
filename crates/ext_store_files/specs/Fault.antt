-- What may go wrong in whatever reads or writes a store.
use Rattle.ext_host.specs.declared.shelf.ShelfErr.{ShelfErr}
use Rattle.ext_host.specs.declared.shelf.ShelfErr.TheVariants as shelf_errors
use Rattle.ext_store_files.specs.declared.fault.StoreFault.{StoreFault}
use Rattle.ext_store_files.specs.declared.fault.StoreFault.TheVariants.{OutOfMemory, DiskFault, Damaged}

-- why a shelf over the store does not give a file; what fails below it is the disk
abbrev pub fault_of_shelf : ShelfErr → StoreFault
fault_of_shelf shelf_errors.OutOfMemory = OutOfMemory
fault_of_shelf shelf_errors.Fault = DiskFault
fault_of_shelf (shelf_errors.Damaged damage) = Damaged damage
