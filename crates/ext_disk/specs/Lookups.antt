-- What the calls that read give, where contents are told and where they are not.
use Rattle.std.specs.Prelude.{◌≡◌, ℕ, ◌<◌, true, List, [], ◌∷◌, ◌++◌, length, Option, Some, None, IfSome}
use Rattle.std.specs.List.{AllByRecursion, list_any}
use Rattle.std.specs.List.Sorted.{IsStrictlySortedBy}
use Rattle.std.specs.Option.{is_some}
use Rattle.std.specs.Ordering.{eq_by_cmp}
use Rattle.ext_io.specs.Device.{IsReadAt}
use Rattle.ext_text.specs.Causes.{Rose}
use Rattle.ext_text.specs.Name.{bytes_cmp}
use Rattle.ext_text.specs.Path.{IsPath}
use Rattle.ext_disk.specs.Disk.{Node, folder, file, Places, DiskState, is_folder, is_file}
use Rattle.ext_disk.specs.declared.kind.Kind.{Kind}
use Rattle.ext_disk.specs.declared.kind.Kind.TheVariants.{Dir, File}
use Rattle.ext_disk.specs.declared.list_err.ListErr.{ListErr}
use Rattle.ext_disk.specs.declared.list_err.ListErr.TheVariants.{Failed, OutOfMemory}

-- a folder stands at the path
abbrev pub MayList : DiskState → List (List ℕ) → Type 0
MayList disk dir = IfSome disk.told (λ d. is_folder (d.places dir).node ≡ true)

-- a file stands at the path, and the buffer has room for a byte
abbrev pub MayRead : DiskState → List (List ℕ) → ℕ → Type 0
MayRead disk path room = IfSome disk.told (λ d. (is_file (d.places path).node ≡ true) × (0 < room))

-- the names that stand directly in a folder, in byte order, each once
pub record IsListing (d : Places) (dir : List (List ℕ)) (names : List (List ℕ)) : Type 0 where
  pub has : (n : List ℕ) → list_any (eq_by_cmp bytes_cmp n) names ≡ is_some (d (dir ++ n ∷ [])).node

-- told or not, the names are in byte order, each once, and each makes a path with the folder
pub record Lists (disk : DiskState) (dir : List (List ℕ)) (names : List (List ℕ)) : Type 0 where
  pub sorted : IsStrictlySortedBy bytes_cmp names
  pub paths : AllByRecursion (λ n. IsPath (dir ++ n ∷ [])) names
  pub told : IfSome disk.told (λ d. IsListing d.places dir names)

-- why a folder was not listed: the disk had a fault, or the names found no memory
abbrev pub ListCause : ℕ → ℕ → ListErr → Type 0
ListCause before after Failed = Rose before after
ListCause before after OutOfMemory = Unit {0}

-- the kind of what stands at a path, and the size of a file
abbrev pub kind_of : Option Node → Option Kind
kind_of None = None
kind_of (Some folder) = Some Dir
kind_of (Some (file bytes)) = Some (File (length bytes))

-- what stands at the path, where it is told
abbrev pub IsKindAt : DiskState → List (List ℕ) → Option Kind → Type 0
IsKindAt disk path kind = IfSome disk.told (λ d. kind ≡ kind_of (d.places path).node)

-- what a read of the file at the path gave, where it is told
abbrev pub IsReadOf : DiskState → List (List ℕ) → ℕ → List ℕ → ℕ → Type 0
IsReadOf disk path at buf count = IfSome disk.told (λ d. (bytes : List ℕ) → (d.places path).node ≡ Some (file bytes) → IsReadAt bytes at buf count)
