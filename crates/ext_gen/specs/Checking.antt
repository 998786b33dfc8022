-- Checking the files of a host against their stamps, in the order in which an index lists them: those of what is seen, of what
-- lies under the view, and of each past tree in the same way. This project's own.
use Rattle.std.specs.Prelude.{◌≡◌, ℕ, ◌+◌, ◌≤◌, List, [], ◌∷◌, ◌++◌, length, IsTrue}
use Rattle.std.specs.List.{AllByRecursion, flat_map, sum_by}
use Rattle.ext_disk.specs.Disk.{DiskState}
use Rattle.ext_tree.specs.Tree.{Entries, most_entries}
use Rattle.ext_tree.specs.declared.entry.Entry.{Entry}
use Rattle.ext_tree.specs.declared.entry.Entry.TheVariants.{Dir, Opaque, File, Link, Hide}
use Rattle.ext_host.specs.Drawn.{IsFileOf}
use Rattle.ext_host.specs.Held.{HeldFile}
use Rattle.ext_host.specs.Shelf.{ShelfCause}
use Rattle.ext_host.specs.Valid.{all_bytes, most_bytes}
use Rattle.ext_host.specs.declared.host.Host.{Host}
use Rattle.ext_host.specs.declared.past.Past.{Past}
use Rattle.ext_host.specs.declared.shelf.ShelfErr.{ShelfErr}
use Rattle.ext_store_files.specs.HeldFiles.{is_served, body_told, IsListed}

-- the file of an entry, if it is one
abbrev pub files_in : Entry HeldFile → List HeldFile
files_in (Dir attributes) = []
files_in (Opaque attributes) = []
files_in (File attributes held) = held ∷ []
files_in (Link owner target) = []
files_in Hide = []

-- the files of entries in path order; two that are kept at one home count twice
abbrev pub files_of : Entries HeldFile → List HeldFile
files_of es = flat_map (λ e. files_in e.1) es

-- those of what is seen, and of what lies under the view
abbrev pub files_of_both : Entries HeldFile → Entries HeldFile → List HeldFile
files_of_both root lower = files_of root ++ files_of lower

-- the files of a past tree, those that are seen first
abbrev pub files_of_past : Past → List HeldFile
files_of_past past = files_of_both past.root past.lower

-- the files of a host, and then those of its past trees
abbrev pub files_of_host : Host → List HeldFile
files_of_host host = files_of_both host.root host.lower ++ flat_map files_of_past host.past

-- the bytes of files together
abbrev pub sizes_of : List HeldFile → ℕ
sizes_of files = sum_by (λ held. held.stamp.size) files

-- the file is here, or kept under the number of a file
abbrev pub IsServed : HeldFile → Type 0
IsServed held = IsTrue (is_served held.body)

-- so is each file of the trees
abbrev pub AreServed : List (Entries HeldFile) → Type 0
AreServed trees = (held : HeldFile) → IsFileOf trees held → IsServed held

-- the file has its stamp, where its bytes are told
abbrev pub IsAsListed : DiskState → HeldFile → Type 0
IsAsListed disk held = IsListed (body_told disk held.body) held.stamp

-- all files have their stamps; how many they are, and how many bytes
pub record AreChecked (disk : DiskState) (files : List HeldFile) (counts : ℕ × ℕ) : Type 0 where
  pub listed : AllByRecursion (IsAsListed disk) files
  pub number : counts.0 ≡ length files
  pub bytes : counts.1 ≡ sizes_of files

-- at the first file that was not verified: those before it have their stamps, and it was not for this reason
pub record StopsAtFile (old new : DiskState) (files : List HeldFile) (e : ShelfErr) : Type 0 where
  pub before : List HeldFile
  pub held : HeldFile
  pub after : List HeldFile
  pub is : files ≡ before ++ held ∷ after
  pub listed : AllByRecursion (IsAsListed old) before
  pub cause : ShelfCause old.faults new.faults (body_told old held.body) held e

-- two trees are within the limits of a host
pub record AreCounted (root lower : Entries HeldFile) : Type 0 where
  pub entries : length root + length lower ≤ most_entries
  pub bytes : all_bytes root + all_bytes lower ≤ most_bytes

-- a past tree is, and its files can be checked
pub record MayCheckPast (past : Past) : Type 0 where
  pub counted : AreCounted past.root past.lower
  pub served : AreServed (past.root ∷ past.lower ∷ [])
