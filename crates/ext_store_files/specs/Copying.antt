-- A file of the depot that is copied into the store: what was read of it, and why it was not copied.
use Rattle.std.specs.Prelude.{◌≡◌, ◌≢◌, ℕ, ◌+◌, ◌≤◌, true, List, ◌++◌, length, take, drop, Option, Some, None, IfSome, IsSome}
use Rattle.ext_text.specs.Causes.{Rose}
use Rattle.ext_text.specs.Path.{is_prefix}
use Rattle.ext_tree.specs.declared.stamp.Stamp.{Stamp}
use Rattle.ext_disk.specs.Disk.{DiskState, is_no_folder}
use Rattle.ext_depot.specs.Depot.{DepotState, Files, IsKept}
use Rattle.ext_host.specs.Held.{IsStampOf}
use Rattle.ext_host.specs.Shelf as shelf
use Rattle.ext_host.specs.Shelf.{untold, missing, stored, IsTold}
use Rattle.ext_io.specs.Pieces.{IsPieceAt}
use Rattle.ext_store_files.specs.Appended.{Raises}
use Rattle.ext_store_files.specs.Writing.{is_at, Works, IsWritten, IsFileWith, Holds}
use Rattle.ext_store_files.specs.declared.errors.CopyErr.{CopyErr}
use Rattle.ext_store_files.specs.declared.errors.CopyErr.TheVariants.{OutOfMemory, DiskFault, DepotFault, NotInDepot, Mismatch}

-- what is told of bytes that are there, or missing
abbrev pub bytes_told : Option (List ℕ) → shelf.Told
bytes_told None = missing
bytes_told (Some bytes) = stored bytes

-- what a depot tells of a path
abbrev pub contents_told : Option Files → List (List ℕ) → shelf.Told
contents_told None path = untold
contents_told (Some files) path = bytes_told (files path)

-- what is told of the file at a path of the depot
abbrev pub depot_told : DepotState → List (List ℕ) → shelf.Told
depot_told state path = contents_told state.contents path

-- these are the file's bytes, up to one more than so many
abbrev pub IsReadUpTo : shelf.Told → ℕ → List ℕ → Type 0
IsReadUpTo untold size bytes = Unit {0}
IsReadUpTo missing size bytes = ⊥
IsReadUpTo (stored all) size bytes = bytes ≡ take (size + 1) all

-- a stamp of what was read, which is another than the listed one: of the file's bytes, up to one more than are listed
abbrev pub IsReadStamp : shelf.Told → Stamp → Stamp → Type 0
IsReadStamp told listed found = (found ≢ listed) × ((bytes : List ℕ) × IsStampOf bytes found × IsReadUpTo told listed.size bytes)

-- no file stands there, where that is told
abbrev pub IsMissing : shelf.Told → Type 0
IsMissing untold = Unit {0}
IsMissing missing = Unit {0}
IsMissing (stored bytes) = ⊥

-- the file at the path has the bytes of the depot's, which have the listed stamp, and they are synced; no others were appended
abbrev pub IsCopied : shelf.Told → Stamp → List (List ℕ) → DiskState → DiskState → Type 0
IsCopied told listed path old new =
    (bytes : List ℕ) × IsStampOf bytes listed × IsTold told bytes × Holds (IsWritten path bytes) new × Raises (length bytes) old new

-- the file at the path has the bytes that were read of the depot's, if they are no more than so many, and no others were appended;
-- they have this stamp
abbrev pub IsFed : shelf.Told → ℕ → List (List ℕ) → DiskState → DiskState → Stamp → Type 0
IsFed told size path old new found =
    (bytes : List ℕ) × IsStampOf bytes found × IsReadUpTo told size bytes
    × (found.size ≤ size → Holds (IsFileWith path bytes) new × Raises (length bytes) old new)

-- what a copy leaves, however it ends: on the disk it made and wrote at the path alone, where no folder stands, and the depot
-- has what it had
pub record CopyKeeps (path : List (List ℕ)) (size : ℕ) (old new : DiskState) (before after : DepotState) : Type 0 where
  pub works : Works (is_prefix path) (is_at path) size old new
  pub stands : Holds (λ e. is_no_folder (e path).node ≡ true) new
  pub kept : IsKept before after

-- why a file was not copied: no memory, a fault of the disk or of the depot, or that the depot has no such file, or another
abbrev pub CopyCause : DiskState → DiskState → DepotState → DepotState → shelf.Told → Stamp → CopyErr → Type 0
CopyCause old new before after told listed OutOfMemory = Unit {0}
CopyCause old new before after told listed DiskFault = Rose old.faults new.faults
CopyCause old new before after told listed DepotFault = Rose before.faults after.faults
CopyCause old new before after told listed NotInDepot = IsMissing told
CopyCause old new before after told listed (Mismatch stamp found) = (stamp ≡ listed) × IsReadStamp told listed found

-- the same while it reads and writes, before it compares
abbrev pub FeedCause : DiskState → DiskState → DepotState → DepotState → CopyErr → Type 0
FeedCause old new before after OutOfMemory = ⊥
FeedCause old new before after DiskFault = Rose old.faults new.faults
FeedCause old new before after DepotFault = Rose before.faults after.faults
FeedCause old new before after NotInDepot = ⊥
FeedCause old new before after (Mismatch stamp found) = ⊥

-- these are bytes of the file from the byte `at` on, none exactly at or past its end, where that is told
abbrev pub IsPieceTold : shelf.Told → ℕ → List ℕ → Type 0
IsPieceTold untold at piece = Unit {0}
IsPieceTold missing at piece = ⊥
IsPieceTold (stored all) at piece = IsPieceAt all at piece

-- the file begins with these bytes, where it is told
abbrev pub BeginsTold : shelf.Told → List ℕ → Type 0
BeginsTold untold bytes = Unit {0}
BeginsTold missing bytes = ⊥
BeginsTold (stored all) bytes = all ≡ bytes ++ drop (length bytes) all

-- a file stands there, where that is told
abbrev pub IsThere : DepotState → List (List ℕ) → Type 0
IsThere state path = IfSome state.contents (λ files. IsSome (files path))

-- why nothing was read of it
abbrev pub ReadDepotCause : DepotState → DepotState → CopyErr → Type 0
ReadDepotCause before after OutOfMemory = ⊥
ReadDepotCause before after DiskFault = ⊥
ReadDepotCause before after DepotFault = Rose before.faults after.faults
ReadDepotCause before after NotInDepot = ⊥
ReadDepotCause before after (Mismatch stamp found) = ⊥
