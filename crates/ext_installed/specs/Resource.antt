-- What the code finds out of one entry, and of one transfer.
use Rattle.std.specs.Prelude.{◌≡◌, ℕ, List, [], ◌∷◌, ◌++◌, Option, Some, None}
use Rattle.std.specs.List.{Contains}
use Rattle.std.specs.List.Sorted.{IsStrictlySortedBy}
use Rattle.ext_tree.specs.Tree.{Entries}
use Rattle.ext_tree.specs.declared.entry.Entry.{Entry}
use Rattle.ext_vers.specs.Version.{IsVersion}
use Rattle.ext_transfer.specs.declared.transfer.Transfer.{Transfer}
use Rattle.ext_installed.specs.declared.instance.Instance.{Instance}
use Rattle.ext_installed.specs.Instance.{IsInstance, IsResourceOf}
use Rattle.ext_installed.specs.Installed.{instance_cmp}

-- the name of a path directly in a directory, or that the path isn't directly in it
abbrev pub IsNameIn : List (List ℕ) → List (List ℕ) → Option (List ℕ) → Type 0
IsNameIn directory path None = (name : List ℕ) → ¬ (path ≡ directory ++ name ∷ [])
IsNameIn directory path (Some name) = path ≡ directory ++ name ∷ []

-- the entry is a resource of the version and of no other, and the version is one
pub record IsOnlyResource {C : Type 0} (transfer : Transfer) (v : List ℕ) (path : List (List ℕ)) (entry : Entry C) : Type 0 where
  pub version : IsVersion v
  pub resource : IsResourceOf transfer v path entry
  pub one : (w : List ℕ) → IsResourceOf transfer w path entry → w ≡ v

-- the version of which the entry is a resource, or that it is a resource of none
abbrev pub VersionAt : {C : Type 0} → Transfer → List (List ℕ) → Entry C → Option (List ℕ) → Type 0
VersionAt transfer path entry None = (v : List ℕ) → ¬ IsResourceOf transfer v path entry
VersionAt transfer path entry (Some v) = IsOnlyResource transfer v path entry

-- the instance that the entry is, or that it is none
abbrev pub InstanceAt : {C : Type 0} → ℕ → Transfer → List (List ℕ) → Entry C → Option Instance → Type 0
InstanceAt place transfer path entry None = (v : List ℕ) → ¬ IsResourceOf transfer v path entry
InstanceAt place transfer path entry (Some item) =
    (item.transfer ≡ place) × (item.path ≡ path) × IsOnlyResource transfer item.version path entry

-- the item at the end, if there is one
abbrev pub with_item : List Instance → Option Instance → List Instance
with_item items None = items
with_item items (Some item) = items ++ item ∷ []

-- an instance of the transfer, which stands at this place
abbrev pub IsItemOf : {C : Type 0} → Entries C → ℕ → Transfer → Instance → Type 0
IsItemOf es place transfer item = (item.transfer ≡ place) × IsInstance es transfer item.version item.path

-- all instances of the transfer, in the order of their paths. The version of each is one
pub record AreItemsOf {C : Type 0} (es : Entries C) (place : ℕ) (transfer : Transfer) (items : List Instance) : Type 0 where
  pub order : IsStrictlySortedBy instance_cmp items
  pub each : (item : Instance) → Contains items item → IsItemOf es place transfer item
  pub whole : (item : Instance) → IsItemOf es place transfer item → Contains items item
  pub sound : (item : Instance) → Contains items item → IsVersion item.version
