-- Why a store was not opened, as how a run ends.
use Rattle.ext_store_files.specs.declared.fault.StoreFault.TheVariants as faults
use Rattle.ext_gen.specs.declared.errors.StoreErr.{StoreErr}
use Rattle.ext_gen.specs.declared.errors.StoreErr.TheVariants.{Fault, Broken, Mismatch, NotInDepot, Unfinished, Limit}
use Rattle.ext_mount.specs.declared.status.ImageStatus.{ImageStatus}
use Rattle.ext_mount.specs.declared.status.ImageStatus.TheVariants as statuses

-- no store is refused for what only a change of it may be refused for
abbrev pub status_of_store : StoreErr → ImageStatus
status_of_store (Fault faults.OutOfMemory) = statuses.OutOfMemory
status_of_store (Fault faults.DiskFault) = statuses.DiskFault
status_of_store (Fault faults.DepotFault) = statuses.DiskFault
status_of_store (Fault (faults.Damaged damage)) = statuses.DiskFault
status_of_store (Broken line) = statuses.BadStore line
status_of_store (Mismatch path listed found) = statuses.DiskFault
status_of_store (NotInDepot path) = statuses.DiskFault
status_of_store Unfinished = statuses.DiskFault
status_of_store (Limit which) = statuses.DiskFault
