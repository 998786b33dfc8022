-- Why a part of a change was not done.
use Rattle.std.specs.Prelude.{ℕ}
use Rattle.ext_text.specs.Causes.{Rose}
use Rattle.ext_depot.specs.Depot.{DepotState}
use Rattle.ext_disk.specs.Disk.{DiskState}
use Rattle.ext_tree.specs.Tree.{Entries}
use Rattle.ext_host.specs.Held.{HeldFile}
use Rattle.ext_store_files.specs.declared.errors.CleanErr.{CleanErr}
use Rattle.ext_store_files.specs.declared.errors.CleanErr.TheVariants as clean_errors
use Rattle.ext_homes.specs.Placed.{Stored}
use Rattle.ext_homes.specs.Refused.{HomesCause}
use Rattle.ext_homes.specs.declared.errors.HomesErr.{HomesErr}
use Rattle.ext_store_files.specs.declared.fault.StoreFault.TheVariants as store_faults
use Rattle.ext_store_files.specs.declared.fault.StoreFault.TheVariants.{OutOfMemory, DiskFault, DepotFault, Damaged}
use Rattle.ext_homes.specs.declared.errors.HomesErr.TheVariants as homes_errors
use Rattle.ext_gen.specs.declared.errors.StoreErr.{StoreErr}
use Rattle.ext_gen.specs.declared.errors.StoreErr.TheVariants.{Fault, Broken, Mismatch, NotInDepot, Unfinished, Limit}

-- why left-overs were not removed, as an error of the store
abbrev pub store_err_of_clean : CleanErr → StoreErr
store_err_of_clean clean_errors.DiskFault = Fault DiskFault
store_err_of_clean clean_errors.OutOfMemory = Fault OutOfMemory
store_err_of_clean clean_errors.Unfinished = Unfinished

-- why files got no homes, as an error of the store
abbrev pub store_err_of_homes : HomesErr → StoreErr
store_err_of_homes (homes_errors.Fault fault) = Fault fault
store_err_of_homes (homes_errors.Mismatch path listed found) = Mismatch path listed found
store_err_of_homes (homes_errors.NotInDepot path) = NotInDepot path

-- of one that makes, writes or syncs: no memory, or a fault of the disk
abbrev pub MoveCause : ℕ → ℕ → StoreErr → Type 0
MoveCause before after (Fault OutOfMemory) = Unit {0}
MoveCause before after (Fault DiskFault) = Rose before after
MoveCause before after (Fault DepotFault) = ⊥
MoveCause before after (Broken line) = ⊥
MoveCause before after (Fault (Damaged damage)) = ⊥
MoveCause before after (Mismatch path listed found) = ⊥
MoveCause before after (NotInDepot path) = ⊥
MoveCause before after Unfinished = ⊥
MoveCause before after (Limit which) = ⊥

-- of one that removes left-overs first
abbrev pub ClearCause : ℕ → ℕ → StoreErr → Type 0
ClearCause before after (Fault OutOfMemory) = Unit {0}
ClearCause before after (Fault DiskFault) = Rose before after
ClearCause before after (Fault DepotFault) = ⊥
ClearCause before after (Broken line) = ⊥
ClearCause before after (Fault (Damaged damage)) = ⊥
ClearCause before after (Mismatch path listed found) = ⊥
ClearCause before after (NotInDepot path) = ⊥
ClearCause before after Unfinished = Unit {0}
ClearCause before after (Limit which) = ⊥

-- of one that gives files their homes: also a fault of the depot, and the first file that got none
abbrev pub FillCause : DiskState → DiskState → DepotState → DepotState → Stored → ℕ → Entries HeldFile → StoreErr → Type 0
FillCause old new before after stored n es (Fault OutOfMemory) = Unit {0}
FillCause old new before after stored n es (Fault DiskFault) = Rose old.faults new.faults
FillCause old new before after stored n es (Fault DepotFault) = Rose before.faults after.faults
FillCause old new before after stored n es (Broken line) = ⊥
FillCause old new before after stored n es (Fault (Damaged damage)) = HomesCause old new before after stored n es 0 (homes_errors.Fault (store_faults.Damaged damage))
FillCause old new before after stored n es (Mismatch path listed found) = HomesCause old new before after stored n es 0 (homes_errors.Mismatch path listed found)
FillCause old new before after stored n es (NotInDepot path) = HomesCause old new before after stored n es 0 (homes_errors.NotInDepot path)
FillCause old new before after stored n es Unfinished = ⊥
FillCause old new before after stored n es (Limit which) = ⊥

-- of one that removes left-overs, and then gives homes
abbrev pub ChangeCause : DiskState → DiskState → DepotState → DepotState → Stored → ℕ → Entries HeldFile → StoreErr → Type 0
ChangeCause old new before after stored n es (Fault OutOfMemory) = Unit {0}
ChangeCause old new before after stored n es (Fault DiskFault) = Rose old.faults new.faults
ChangeCause old new before after stored n es (Fault DepotFault) = Rose before.faults after.faults
ChangeCause old new before after stored n es (Broken line) = ⊥
ChangeCause old new before after stored n es (Fault (Damaged damage)) = HomesCause old new before after stored n es 0 (homes_errors.Fault (store_faults.Damaged damage))
ChangeCause old new before after stored n es (Mismatch path listed found) = HomesCause old new before after stored n es 0 (homes_errors.Mismatch path listed found)
ChangeCause old new before after stored n es (NotInDepot path) = HomesCause old new before after stored n es 0 (homes_errors.NotInDepot path)
ChangeCause old new before after stored n es Unfinished = Unit {0}
ChangeCause old new before after stored n es (Limit which) = ⊥
