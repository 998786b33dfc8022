-- Instances: the resources of versions that the targets of transfers have, after sysupdate.d(5). That a target isn't followed
-- through links, and that the first pattern that matches a name decides, is this project's own.
use Rattle.std.specs.Prelude.{◌≡◌, ℕ, Bool, true, List, [], ◌∷◌, ◌++◌, Option, Some}
use Rattle.std.specs.List.{AllByRecursion, slice_get}
use Rattle.ext_tree.specs.Tree.{Entries, is_directory, is_file, lookup}
use Rattle.ext_tree.specs.declared.entry.Entry.{Entry}
use Rattle.ext_pattern.specs.First.{IsFirstMatch}
use Rattle.ext_transfer.specs.declared.transfer.ResourceType.{ResourceType}
use Rattle.ext_transfer.specs.declared.transfer.ResourceType.TheVariants.{File, Directory}
use Rattle.ext_transfer.specs.declared.transfer.Transfer.{Transfer}
use Rattle.ext_installed.specs.declared.instance.Instance.{Instance}

-- what resources of this type are: files, or directories
abbrev pub is_of_type : {C : Type 0} → ResourceType → Entry C → Bool
is_of_type File entry = is_file entry
is_of_type Directory entry = is_directory entry

-- the entry at this path is a resource of the version: it stands directly in the target and is of the transfer's type, and the
-- first of the target's patterns that matches its name reads it as the version
pub record IsResourceOf {C : Type 0} (transfer : Transfer) (version : List ℕ) (path : List (List ℕ)) (entry : Entry C) : Type 0 where
  pub name : List ℕ
  pub digest : Option (List ℕ)
  pub below : path ≡ transfer.target.path ++ name ∷ []
  pub kind : is_of_type transfer.resources entry ≡ true
  pub read : IsFirstMatch transfer.target.patterns name version digest

-- the tree has a resource of the version at the path
pub record IsInstance {C : Type 0} (es : Entries C) (transfer : Transfer) (version : List ℕ) (path : List (List ℕ)) : Type 0 where
  pub entry : Entry C
  pub there : lookup es path ≡ Some entry
  pub resource : IsResourceOf transfer version path entry

-- it has one at some path
abbrev pub HasInstance : {C : Type 0} → Entries C → List ℕ → Transfer → Type 0
HasInstance es version transfer = (path : List (List ℕ)) × IsInstance es transfer version path

-- each of the transfers has an instance of the version
abbrev pub IsInstalled : {C : Type 0} → Entries C → List Transfer → List ℕ → Type 0
IsInstalled es transfers version = AllByRecursion (HasInstance es version) transfers

-- an item is an instance of the transfer at its place in the list
abbrev pub IsItem : {C : Type 0} → Entries C → List Transfer → Instance → Type 0
IsItem es transfers item =
    (transfer : Transfer) × (slice_get transfers item.transfer ≡ Some transfer) × IsInstance es transfer item.version item.path
