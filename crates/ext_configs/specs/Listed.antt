-- What the search for components lists, visit by visit.
use Rattle.std.specs.Prelude.{◌≡◌, ◌⊎◌, ℕ, ◌<◌, List, [], ◌∷◌, ◌++◌, Option, Some, None}
use Rattle.std.specs.List.{Contains}
use Rattle.ext_text.specs.Name.{IsName}
use Rattle.ext_tree.specs.Tree.{Entries, lookup}
use Rattle.ext_transfer.specs.Component.{component_folder}
use Rattle.ext_configs.specs.Components.{HasFolderAt, HasFolderIn, IsComponentIn}

-- the name of these bytes, or that they are none
abbrev pub IsNameOf : List ℕ → Option (List ℕ) → Type 0
IsNameOf bytes None = ¬ IsName bytes
IsNameOf bytes (Some name) = IsName name × (name ≡ bytes)

-- the name whose folders have this one, or that it is no name's
abbrev pub NamesComponent : List ℕ → Option (List ℕ) → Type 0
NamesComponent folder None = (name : List ℕ) → IsName name → ¬ (folder ≡ component_folder name)
NamesComponent folder (Some name) = IsName name × (folder ≡ component_folder name)

-- the component that has this folder in the directory, or that none has
abbrev pub ComponentAt : {C : Type 0} → Entries C → List (List ℕ) → List ℕ → Option (List ℕ) → Type 0
ComponentAt es directory folder None = (name : List ℕ) → folder ≡ component_folder name → ¬ HasFolderIn es directory name
ComponentAt es directory folder (Some name) = (folder ≡ component_folder name) × HasFolderIn es directory name

-- the directories before one
abbrev pub in_roots_before : ℕ → ℕ → List ℕ → Type 0
in_roots_before index visited name = visited < index

-- and the folders of this one that are not left
abbrev pub in_folders_passed : {C : Type 0} → ℕ → List (List ℕ) → Entries C → ℕ → List ℕ → Type 0
in_folders_passed index directory rest visited name =
    (visited < index) ⊎ ((visited ≡ index) × (lookup rest (directory ++ component_folder name ∷ []) ≡ None))

-- after the visits that were made
pub record ListsComponents {C : Type 0} (es : Entries C) (made : ℕ → List ℕ → Type 0) (names : List (List ℕ)) : Type 0 where
  pub each : (name : List ℕ) → Contains names name → IsComponentIn es name
  pub all : (index : ℕ) (name : List ℕ) → made index name → HasFolderAt es index name → Contains names name
