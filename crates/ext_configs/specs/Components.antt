-- The components that have a folder, after sysupdate.d(5): `sysupdate.NAME.d` in one of the four directories. That the folder may
-- be empty is this project's own.
use Rattle.std.specs.Prelude.{ℕ, List, [], ◌∷◌, ◌++◌, ◌↔◌, IsTrue, is_some}
use Rattle.std.specs.List.{Contains}
use Rattle.std.specs.List.Sorted.{IsStrictlySortedBy}
use Rattle.ext_lines.specs.ByteOrder.{bytes_cmp}
use Rattle.ext_text.specs.Name.{IsName}
use Rattle.ext_tree.specs.Tree.{Entries, lookup}
use Rattle.ext_transfer.specs.Component.{component_folder}
use Rattle.ext_walk.specs.Leads.{LeadsToDirectory}
use Rattle.ext_configs.specs.Folders.{OpensRoot}

-- the component has a folder in the directory: an entry that leads to a directory
pub record HasFolderIn {C : Type 0} (es : Entries C) (directory : List (List ℕ)) (name : List ℕ) : Type 0 where
  pub is_name : IsName name
  pub there : IsTrue (is_some (lookup es (directory ++ component_folder name ∷ [])))
  pub leads : LeadsToDirectory es (directory ++ component_folder name ∷ [])

-- it has one in the directory to which the one with this index leads
pub record HasFolderAt {C : Type 0} (es : Entries C) (index : ℕ) (name : List ℕ) : Type 0 where
  pub directory : List (List ℕ)
  pub opens : OpensRoot es index directory
  pub folder : HasFolderIn es directory name

-- a component of a base: it has one in one of the directories
abbrev pub IsComponentIn : {C : Type 0} → Entries C → List ℕ → Type 0
IsComponentIn es name = (index : ℕ) × HasFolderAt es index name

-- the names of the components, each once, by their bytes
pub record AreComponents {C : Type 0} (es : Entries C) (names : List (List ℕ)) : Type 0 where
  pub sorted : IsStrictlySortedBy bytes_cmp names
  pub whole : (name : List ℕ) → Contains names name ↔ IsComponentIn es name
