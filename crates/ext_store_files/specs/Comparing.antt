-- A file of the depot compared with one that the store keeps.
use Rattle.std.specs.Prelude.{◌≡◌, ◌≢◌, ℕ, Bool, List, length, MatchBool, IsSome}
use Rattle.ext_text.specs.Causes.{Rose}
use Rattle.ext_tree.specs.declared.stamp.Stamp.{Stamp}
use Rattle.ext_disk.specs.Disk.{DiskState}
use Rattle.ext_depot.specs.Depot.{DepotState}
use Rattle.ext_host.specs.Shelf as shelf
use Rattle.ext_host.specs.Shelf.{untold, missing, stored, IsFound, IsTold}
use Rattle.ext_host.specs.declared.home.Home.{Home}
use Rattle.ext_store_files.specs.HeldFiles.{IsListed, IsDigestAt}
use Rattle.ext_store_files.specs.Copying.{IsReadStamp, IsMissing}
use Rattle.ext_store_files.specs.Beside.{IsFollowed}
use Rattle.ext_store_files.specs.declared.comparing.Pass.{Pass}
use Rattle.ext_store_files.specs.declared.comparing.TextPass.{TextPass}
use Rattle.ext_store_files.specs.declared.errors.CopyErr.{CopyErr}
use Rattle.ext_store_files.specs.declared.errors.CopyErr.TheVariants as copy_errors
use Rattle.ext_store_files.specs.declared.errors.CompareErr.{CompareErr}
use Rattle.ext_store_files.specs.declared.fault.StoreFault.TheVariants.{OutOfMemory, DiskFault, DepotFault, Damaged}
use Rattle.ext_store_files.specs.declared.errors.CompareErr.TheVariants.{Fault, NotInDepot, Mismatch}

-- both files, where they are told, have the same bytes, or not
abbrev pub IsSame : shelf.Told → shelf.Told → Bool → Type 0
IsSame (stored xs) (stored ys) same = MatchBool same (xs ≡ ys) (xs ≢ ys)
IsSame (stored xs) missing same = Unit {0}
IsSame (stored xs) untold same = Unit {0}
IsSame missing theirs same = Unit {0}
IsSame untold theirs same = Unit {0}

-- both have the listed stamp, and are the same or not
abbrev pub IsCompared : shelf.Told → shelf.Told → Stamp → Bool → Type 0
IsCompared ours theirs listed same = IsListed ours listed × IsListed theirs listed × IsSame ours theirs same

-- why they were not compared: damage of the kept file before all that is said of the depot's
abbrev pub CompareCause : DiskState → DiskState → DepotState → DepotState → shelf.Told → shelf.Told → Home → Stamp → CompareErr → Type 0
CompareCause old new before after ours theirs home listed (Fault OutOfMemory) = Unit {0}
CompareCause old new before after ours theirs home listed (Fault DiskFault) = Rose old.faults new.faults
CompareCause old new before after ours theirs home listed (Fault DepotFault) = Rose before.faults after.faults
CompareCause old new before after ours theirs home listed (Fault (Damaged damage)) = (damage.home ≡ home) × (damage.listed ≡ listed) × IsFound listed ours damage.found
CompareCause old new before after ours theirs home listed NotInDepot = IsListed ours listed × IsMissing theirs
CompareCause old new before after ours theirs home listed (Mismatch stamp found) = IsListed ours listed × (stamp ≡ listed) × IsReadStamp theirs listed found

-- an error of reading the depot's file, as one of the comparison
abbrev pub compare_err_of_copy : CopyErr → CompareErr
compare_err_of_copy copy_errors.OutOfMemory = Fault OutOfMemory
compare_err_of_copy copy_errors.DiskFault = Fault DiskFault
compare_err_of_copy copy_errors.DepotFault = Fault DepotFault
compare_err_of_copy copy_errors.NotInDepot = NotInDepot
compare_err_of_copy (copy_errors.Mismatch listed found) = Mismatch listed found

-- what a pass over both gave, where it came to the end of ours: whether the other is as listed so far, and the same
abbrev pub IsPass : DepotState → DepotState → shelf.Told → shelf.Told → Stamp → Pass → Type 0
IsPass before after ours theirs listed pass = IsSome pass.digest → (xs : List ℕ) × IsTold ours xs × (length xs ≡ listed.size) × IsFollowed before after theirs listed xs pass.brought

-- what a pass beside a text gave: the digest of what is told, where it has the size of the text, and then whether it is the text
abbrev pub IsTextPass : shelf.Told → List ℕ → TextPass → Type 0
IsTextPass told text pass = IsDigestAt told (length text) pass.digest × (IsSome pass.digest → IsSame told (stored text) pass.same)
