-- The steps in which a brought file is written.
use Rattle.std.specs.Prelude.{◌≡◌, ℕ, ◌+◌, ◌<◌, List, [], ◌∷◌, length, None, Some}
use Rattle.ext_text.specs.Causes.{Rose}
use Rattle.ext_depot.specs.Depot.{DepotState}
use Rattle.ext_disk.specs.Disk.{folder, Places, Told, DiskState, BothTold}
use Rattle.ext_tree.specs.declared.stamp.Stamp.{Stamp}
use Rattle.ext_host.specs.Held.{HeldFile, IsStampOf}
use Rattle.ext_host.specs.Shelf as shelf
use Rattle.ext_host.specs.Shelf.{IsTold}
use Rattle.ext_host.specs.declared.body.Body.TheVariants.{Depot}
use Rattle.ext_store_files.specs.Appended.{Raises}
use Rattle.ext_store_files.specs.Copying.{IsMissing, IsReadStamp}
use Rattle.ext_store_files.specs.Names.{generation_path, home_folder, home_path}
use Rattle.ext_store_files.specs.declared.errors.CopyErr.{CopyErr}
use Rattle.ext_store_files.specs.declared.errors.CopyErr.TheVariants as copy_errors
use Rattle.ext_store_files.specs.Writing.{Holds, IsWritten}
use Rattle.ext_homes.specs.Placed.{brought_told}
use Rattle.ext_homes.specs.Written.{HasOnlyHomes, Writes}
use Rattle.ext_homes.specs.declared.errors.HomesErr.{HomesErr}
use Rattle.ext_store_files.specs.declared.fault.StoreFault.TheVariants.{OutOfMemory, DiskFault, DepotFault, Damaged}
use Rattle.ext_homes.specs.declared.errors.HomesErr.TheVariants.{Fault, Mismatch, NotInDepot}

-- the files before this number are there as they were
abbrev pub KeepsEarlier : ℕ → ℕ → Told → Told → Type 0
KeepsEarlier generation number d e = (k : ℕ) (bytes : List ℕ) → k < number → IsWritten (home_path generation k) bytes d.places → IsWritten (home_path generation k) bytes e.places

-- the folder of the file of this number is there, as those of the files before, and the file is not
pub record IsNumberOpen (generation number : ℕ) (e : Places) : Type 0 where
  pub root : (e (generation_path generation)).node ≡ Some folder
  pub folders : (k : ℕ) → k < number + 1 → (e (home_folder generation k)).node ≡ Some folder
  pub free : (e (home_path generation number)).node ≡ None
  pub only : HasOnlyHomes generation (number + 1) e

-- there is room for the file of this number, and the files before it stay
pub record Opens (generation number : ℕ) (d e : Told) : Type 0 where
  pub open' : IsNumberOpen generation number e.places
  pub earlier : KeepsEarlier generation number d e

-- the brought bytes, which have the stamp, stand at the path, synced, and no others were appended
abbrev pub IsPut : shelf.Told → Stamp → List (List ℕ) → DiskState → DiskState → Type 0
IsPut brought stamp path old new =
    (bytes : List ℕ) × IsTold brought bytes × IsStampOf bytes stamp × Holds (IsWritten path bytes) new × Raises (length bytes) old new

-- the brought bytes, which have the stamp, were written as the file of this number
abbrev pub WritesBrought : ℕ → ℕ → shelf.Told → Stamp → DiskState → DiskState → Type 0
WritesBrought generation number brought stamp old new =
    (bytes : List ℕ) × IsTold brought bytes × IsStampOf bytes stamp × BothTold (Writes generation number (bytes ∷ [])) old.told new.told

-- a copy that fails gives no home, for the same reason, with the path of the depot's file
abbrev pub homes_err_of_copy : CopyErr → List (List ℕ) → HomesErr
homes_err_of_copy copy_errors.OutOfMemory path = Fault OutOfMemory
homes_err_of_copy copy_errors.DiskFault path = Fault DiskFault
homes_err_of_copy copy_errors.DepotFault path = Fault DepotFault
homes_err_of_copy copy_errors.NotInDepot path = NotInDepot path
homes_err_of_copy (copy_errors.Mismatch listed found) path = Mismatch path listed found

-- why the folder of a file was not made
abbrev pub FolderCause : DiskState → DiskState → HomesErr → Type 0
FolderCause disk new (Fault OutOfMemory) = Unit {0}
FolderCause disk new (Fault DiskFault) = Rose disk.faults new.faults
FolderCause disk new (Fault DepotFault) = ⊥
FolderCause disk new (Fault (Damaged damage)) = ⊥
FolderCause disk new (Mismatch path listed found) = ⊥
FolderCause disk new (NotInDepot path) = ⊥

-- why a brought file was not written
abbrev pub WriteCause : DiskState → DiskState → DepotState → DepotState → HeldFile → HomesErr → Type 0
WriteCause disk new depot after held (Fault OutOfMemory) = Unit {0}
WriteCause disk new depot after held (Fault DiskFault) = Rose disk.faults new.faults
WriteCause disk new depot after held (Fault DepotFault) = Rose depot.faults after.faults
WriteCause disk new depot after held (Fault (Damaged damage)) = ⊥
WriteCause disk new depot after held (Mismatch path listed found) =
    (held.body ≡ Depot path) × (listed ≡ held.stamp) × IsReadStamp (brought_told depot held.body) listed found
WriteCause disk new depot after held (NotInDepot path) = (held.body ≡ Depot path) × IsMissing (brought_told depot held.body)
