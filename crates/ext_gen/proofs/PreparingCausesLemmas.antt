-- The causes of parts of a change, as those of the whole.
use Rattle.std.proofs.Common.{ℕ, ◌≤◌}
use Rattle.ext_depot.specs.Depot.{DepotState}
use Rattle.ext_disk.specs.Disk.{DiskState}
use Rattle.ext_tree.specs.Tree.{Entries}
use Rattle.ext_host.specs.Held.{HeldFile}
use Rattle.ext_store_files.proofs.ForCallers.{rose_since}
use Rattle.ext_homes.specs.Placed.{Stored}
use Rattle.ext_homes.specs.Refused.{HomesCause}
use Rattle.ext_homes.specs.declared.errors.HomesErr.{HomesErr}
use Rattle.ext_store_files.specs.declared.fault.StoreFault.TheVariants as store_faults
use Rattle.ext_store_files.specs.declared.fault.StoreFault.TheVariants.{OutOfMemory, DiskFault, DepotFault, Damaged}
use Rattle.ext_homes.specs.declared.errors.HomesErr.TheVariants as homes_errors
use Rattle.ext_gen.specs.PreparingCauses.{FillCause, MoveCause, store_err_of_homes}
use Rattle.ext_gen.specs.declared.errors.StoreErr.{StoreErr}
use Rattle.ext_gen.specs.declared.errors.StoreErr.TheVariants.{Fault, Broken, Mismatch, NotInDepot, Unfinished, Limit}

pub fill_cause_homes : (e : HomesErr) (old new : DiskState) (before after : DepotState) (stored : Stored) (n : ℕ) (es : Entries HeldFile) → HomesCause old new before after stored n es 0 e
    → FillCause old new before after stored n es (store_err_of_homes e)
fill_cause_homes (homes_errors.Fault store_faults.OutOfMemory) old new before after stored n es cause = tt
fill_cause_homes (homes_errors.Fault store_faults.DiskFault) old new before after stored n es cause = cause
fill_cause_homes (homes_errors.Fault store_faults.DepotFault) old new before after stored n es cause = cause
fill_cause_homes (homes_errors.Fault (store_faults.Damaged damage)) old new before after stored n es cause = cause
fill_cause_homes (homes_errors.Mismatch path listed found) old new before after stored n es cause = cause
fill_cause_homes (homes_errors.NotInDepot path) old new before after stored n es cause = cause

pub fill_cause_write : (e : StoreErr) (old mid new : DiskState) (before after : DepotState) (stored : Stored) (n : ℕ) (es : Entries HeldFile) → old.faults ≤ mid.faults → MoveCause mid.faults new.faults e
    → FillCause old new before after stored n es e
fill_cause_write (Fault OutOfMemory) old mid new before after stored n es earlier cause = tt
fill_cause_write (Fault DiskFault) old mid new before after stored n es earlier cause = rose_since old.faults mid.faults new.faults earlier cause
fill_cause_write (Fault DepotFault) old mid new before after stored n es earlier cause = absurd cause
fill_cause_write (Broken line) old mid new before after stored n es earlier cause = absurd cause
fill_cause_write (Fault (Damaged damage)) old mid new before after stored n es earlier cause = absurd cause
fill_cause_write (Mismatch path listed found) old mid new before after stored n es earlier cause = absurd cause
fill_cause_write (NotInDepot path) old mid new before after stored n es earlier cause = absurd cause
fill_cause_write Unfinished old mid new before after stored n es earlier cause = absurd cause
fill_cause_write (Limit which) old mid new before after stored n es earlier cause = absurd cause
