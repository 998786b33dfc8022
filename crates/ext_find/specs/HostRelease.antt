-- The host's own release file, after os-release(5): `/etc/os-release`, or else `/usr/lib/os-release`.
use Rattle.std.specs.Prelude.{◌≡◌, ◌⊎◌, ℕ, false, List, codes, Option, Some, None, Result, Ok, Err}
use Rattle.std.specs.Borrow.{Bor}
use Rattle.std.specs.FinMap.{FinMap}
use Rattle.ext_attributes.specs.Attributes.{OfFile}
use Rattle.ext_lines.specs.ByteOrder.{bytes_cmp}
use Rattle.ext_tree.specs.declared.entry.Entry.{Entry}
use Rattle.ext_tree.specs.declared.entry.Entry.TheVariants.{File}
use Rattle.ext_tree.specs.Tree.{Entries, lookup}
use Rattle.ext_walk.specs.Leads.{LeadsTo}
use Rattle.ext_walk.specs.Walk.{Ends, parts}
use Rattle.ext_host.specs.Held.{HeldFile, IsStampOf}
use Rattle.ext_host.specs.Shelf.{IsTold, ShelfCause, Told}
use Rattle.ext_host.specs.declared.shelf.ShelfErr.{ShelfErr}
use Rattle.ext_host.specs.declared.shelf.ShelfErr.TheVariants as shelf_errors
use Rattle.ext_release.specs.Release.{IsFirstFault, IsRelease}
use Rattle.ext_release.specs.declared.reading.ReleaseErr.{ReleaseErr}
use Rattle.ext_release.specs.declared.reading.ReleaseErr.TheVariants as unread
use Rattle.ext_find.specs.Content.{is_file_at}
use Rattle.ext_find.specs.declared.release.FindErr.{FindErr}
use Rattle.ext_find.specs.declared.release.FindErr.TheVariants as errors

-- the names of the host's own file, and of the one that comes with its system
abbrev pub own_release : List (List ℕ)
own_release = parts (codes "etc/os-release")

-- the path of the release file that the vendor brings
abbrev pub vendor_release : List (List ℕ)
vendor_release = parts (codes "usr/lib/os-release")

-- the entry is a file of this content, or it is none
abbrev pub IsContent : {C : Type 0} → Option (Entry C) → Option (Bor C) → Type 0
IsContent entry None = is_file_at entry ≡ false
IsContent entry (Some content) = (attributes : OfFile) × (entry ≡ Some (File attributes content.now))

-- names lead to a file of this content
abbrev pub LeadsToContent : {C : Type 0} → Entries C → List (List ℕ) → C → Type 0
LeadsToContent es names content = (end : List (List ℕ)) × (attributes : OfFile) × Ends es names end × (lookup es end ≡ Some (File attributes content))

-- the file to which names lead, or that they lead to none
abbrev pub ContentAt : {C : Type 0} → Entries C → List (List ℕ) → Option (Bor C) → Type 0
ContentAt es names None = ¬ LeadsTo is_file_at es names
ContentAt es names (Some content) = LeadsToContent es names content.now

-- the first of both that leads to a file
abbrev pub IsReleaseFile : {C : Type 0} → Entries C → C → Type 0
IsReleaseFile es content =
    LeadsToContent es own_release content
    ⊎ ((¬ LeadsTo is_file_at es own_release) × LeadsToContent es vendor_release content)

-- that file, or that neither leads to one
abbrev pub ReleaseFileAt : {C : Type 0} → Entries C → Option (Bor C) → Type 0
ReleaseFileAt es None = (¬ LeadsTo is_file_at es own_release) × (¬ LeadsTo is_file_at es vendor_release)
ReleaseFileAt es (Some content) = IsReleaseFile es content.now

-- bytes that a shelf gives of a file: those that it tells, and of its stamp
pub record IsGiven (told : Told) (held : HeldFile) (bytes : List ℕ) : Type 0 where
  pub as_told : IsTold told bytes
  pub stamped : IsStampOf bytes held.stamp

-- an error of the shelf by its cause; never one of memory
abbrev pub ShelfFault : ℕ → ℕ → Told → HeldFile → ShelfErr → Type 0
ShelfFault old new told held shelf_errors.OutOfMemory = ⊥
ShelfFault old new told held shelf_errors.Fault = ShelfCause old new told held shelf_errors.Fault
ShelfFault old new told held (shelf_errors.Damaged damage) = ShelfCause old new told held (shelf_errors.Damaged damage)

-- what reading a held file as a release file gives; the numbers count the faults of the shelf before and after
abbrev pub ReadsHeld : Told → HeldFile → ℕ → ℕ → Result (FinMap bytes_cmp (List ℕ)) FindErr → Type 0
ReadsHeld told held old new (Ok release) = (bytes : List ℕ) × IsGiven told held bytes × IsRelease bytes release
ReadsHeld told held old new (Err errors.OutOfMemory) = Unit {0}
ReadsHeld told held old new (Err (errors.BadHostRelease line)) = (bytes : List ℕ) × IsGiven told held bytes × IsFirstFault bytes line
ReadsHeld told held old new (Err (errors.Shelf e)) = ShelfFault old new told held e

-- what reading the host's release file gives: none exactly where there is no such file
abbrev pub ReadsHost : Entries HeldFile → (HeldFile → Told) → ℕ → ℕ → Result (Option (FinMap bytes_cmp (List ℕ))) FindErr → Type 0
ReadsHost es told old new (Ok None) = ReleaseFileAt es None
ReadsHost es told old new (Ok (Some release)) = (held : HeldFile) × IsReleaseFile es held × ReadsHeld (told held) held old new (Ok release)
ReadsHost es told old new (Err errors.OutOfMemory) = Unit {0}
ReadsHost es told old new (Err (errors.BadHostRelease line)) =
    (held : HeldFile) × IsReleaseFile es held × ReadsHeld (told held) held old new (Err (errors.BadHostRelease line))
ReadsHost es told old new (Err (errors.Shelf e)) =
    (held : HeldFile) × IsReleaseFile es held × ReadsHeld (told held) held old new (Err (errors.Shelf e))

-- how an error of a shelf, and one of the reader, is told
abbrev pub find_err_of_shelf : ShelfErr → FindErr
find_err_of_shelf shelf_errors.OutOfMemory = errors.OutOfMemory
find_err_of_shelf shelf_errors.Fault = errors.Shelf shelf_errors.Fault
find_err_of_shelf (shelf_errors.Damaged damage) = errors.Shelf (shelf_errors.Damaged damage)

-- why a release file is not read, as an error of the search
abbrev pub of_reader : ReleaseErr → FindErr
of_reader unread.OutOfMemory = errors.OutOfMemory
of_reader (unread.BadRelease line) = errors.BadHostRelease line
