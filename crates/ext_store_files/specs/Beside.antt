-- A file of the depot that is read beside the bytes of another.
use Rattle.std.specs.Prelude.{◌≡◌, ◌↔◌, ℕ, IsTrue, List, length, Result, Ok, Err}
use Rattle.sha2.specs.Hashers.{Holds256}
use Rattle.ext_text.specs.Causes.{Rose}
use Rattle.ext_tree.specs.declared.stamp.Stamp.{Stamp}
use Rattle.ext_depot.specs.Depot.{DepotState}
use Rattle.ext_host.specs.Shelf as shelf
use Rattle.ext_store_files.specs.Copying.{BeginsTold, IsMissing, IsReadStamp}
use Rattle.ext_store_files.specs.declared.beside.Beside.{Beside}
use Rattle.ext_store_files.specs.declared.errors.CopyErr.{CopyErr}
use Rattle.ext_store_files.specs.declared.errors.CopyErr.TheVariants.{OutOfMemory, DiskFault, DepotFault, NotInDepot, Mismatch}

-- why a file of the depot is not the listed one
abbrev pub DepotCause : DepotState → DepotState → shelf.Told → Stamp → CopyErr → Type 0
DepotCause before after told listed OutOfMemory = ⊥
DepotCause before after told listed DiskFault = ⊥
DepotCause before after told listed DepotFault = Rose before.faults after.faults
DepotCause before after told listed NotInDepot = IsMissing told
DepotCause before after told listed (Mismatch stamp found) = (stamp ≡ listed) × IsReadStamp told listed found

-- as many bytes as these were read of the depot's file, and hashed, and they are the same or not
abbrev pub IsBeside : shelf.Told → List ℕ → Beside → Type 0
IsBeside theirs xs beside = (ys : List ℕ) × (length ys ≡ length xs) × BeginsTold theirs ys × Holds256 beside.hasher ys × (IsTrue beside.same ↔ (xs ≡ ys))

-- so it is, or the depot's file is not the listed one
abbrev pub IsFollowed : DepotState → DepotState → shelf.Told → Stamp → List ℕ → Result Beside CopyErr → Type 0
IsFollowed before after theirs listed xs (Ok beside) = IsBeside theirs xs beside
IsFollowed before after theirs listed xs (Err e) = DepotCause before after theirs listed e
