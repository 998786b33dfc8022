-- Errors of the crates below, as reasons why a run stops.
use Rattle.ext_text.specs.Causes.{Rose}
use Rattle.ext_disk.specs.Disk.{DiskState}
use Rattle.ext_gen.specs.declared.errors.StoreErr.{StoreErr}
use Rattle.ext_gen.specs.declared.errors.StoreErr.TheVariants as store_errors
use Rattle.ext_host.specs.declared.shelf.ShelfErr.{ShelfErr}
use Rattle.ext_host.specs.declared.shelf.ShelfErr.TheVariants as shelf_errors
use Rattle.ext_store_files.specs.declared.errors.CleanErr.{CleanErr}
use Rattle.ext_store_files.specs.declared.errors.CleanErr.TheVariants as clean_errors
use Rattle.ext_store_files.specs.declared.fault.StoreFault.TheVariants as faults
use Rattle.ext_gen.specs.declared.bad_store.BadStore.TheVariants as bad_stores
use Rattle.ext_publish.specs.declared.stop.Stop.{Stop}
use Rattle.ext_publish.specs.declared.stop.Stop.TheVariants.{OutOfMemory, Refused, DiskFault, OutFault, BadStore, Unfinished}

-- why a kept file is not given
abbrev pub pub_stop_of_shelf : ShelfErr → Stop
pub_stop_of_shelf shelf_errors.OutOfMemory = OutOfMemory
pub_stop_of_shelf shelf_errors.Fault = DiskFault
pub_stop_of_shelf (shelf_errors.Damaged damage) = BadStore (bad_stores.Damaged damage)

-- why the store is not opened; what comes of preparing a change does not come of opening
abbrev pub stop_of_store : StoreErr → Stop
stop_of_store (store_errors.Fault faults.OutOfMemory) = OutOfMemory
stop_of_store (store_errors.Fault faults.DiskFault) = DiskFault
stop_of_store (store_errors.Fault faults.DepotFault) = DiskFault
stop_of_store (store_errors.Fault (faults.Damaged damage)) = BadStore (bad_stores.Damaged damage)
stop_of_store (store_errors.Broken line) = BadStore (bad_stores.Broken line)
stop_of_store (store_errors.Mismatch path listed found) = DiskFault
stop_of_store (store_errors.NotInDepot path) = DiskFault
stop_of_store store_errors.Unfinished = DiskFault
stop_of_store (store_errors.Limit which) = DiskFault

-- why left-overs are not removed from it
abbrev pub stop_of_clean : CleanErr → Stop
stop_of_clean clean_errors.DiskFault = OutFault
stop_of_clean clean_errors.OutOfMemory = OutOfMemory
stop_of_clean clean_errors.Unfinished = Unfinished

-- why work in the depot's folder stopped: no memory, or a fault of its disk, which counted one
abbrev pub OutCause : DiskState → DiskState → Stop → Type 0
OutCause old new OutOfMemory = Unit {0}
OutCause old new (Refused refusal) = ⊥
OutCause old new DiskFault = ⊥
OutCause old new OutFault = Rose old.faults new.faults
OutCause old new (BadStore why) = ⊥
OutCause old new Unfinished = ⊥
