-- The folders in which configuration files of updates are looked for, and where they lead, after sysupdate.d(5). The order in which
-- they count is the manual's.
use Rattle.std.specs.Prelude.{◌≡◌, ℕ, List, [], ◌∷◌, ◌++◌, codes, map, IsTrue, Option, Some, None, slice_get}
use Rattle.std.specs.Borrow.{Bor}
use Rattle.ext_tree.specs.Tree.{Entries, is_directory_or_root}
use Rattle.ext_transfer.specs.Component.{component_folder}
use Rattle.ext_walk.specs.Walk.{Ends, parts}

-- the directories that hold the folders, the first of which counts most
abbrev pub config_roots : List (List (List ℕ))
config_roots =
    (codes "etc" ∷ []) ∷ (codes "run" ∷ []) ∷ (codes "usr" ∷ codes "local" ∷ codes "lib" ∷ []) ∷ (codes "usr" ∷ codes "lib" ∷ []) ∷ []

-- the name of the folders of a component, or of none
abbrev pub config_folder : Option (List ℕ) → List ℕ
config_folder None = codes "sysupdate.d"
config_folder (Some component) = component_folder component

-- the paths of the folders
abbrev pub config_folders : Option (List ℕ) → List (List (List ℕ))
config_folders component = map (λ root. root ++ config_folder component ∷ []) config_roots

-- the path with this index, counted from 0, leads there, to a directory
pub record OpensAmong {C : Type 0} (es : Entries C) (paths : List (List (List ℕ))) (index : ℕ) (directory : List (List ℕ)) : Type 0 where
  pub path : List (List ℕ)
  pub searched : slice_get paths index ≡ Some path
  pub leads : Ends es path directory
  pub open_ : IsTrue (is_directory_or_root es directory)

-- the folder with this index leads there
abbrev pub OpensFolder : {C : Type 0} → Entries C → Option (List ℕ) → ℕ → List (List ℕ) → Type 0
OpensFolder es component index directory = OpensAmong es (config_folders component) index directory

-- the directory with this index that holds folders leads there
abbrev pub OpensRoot : {C : Type 0} → Entries C → ℕ → List (List ℕ) → Type 0
OpensRoot es index directory = OpensAmong es config_roots index directory

-- the text of the directory with this index, or that there is none
abbrev pub IsRootText : ℕ → Option (Bor (List ℕ)) → Type 0
IsRootText index None = slice_get config_roots index ≡ None
IsRootText index (Some text) = slice_get config_roots index ≡ Some (parts text.now)

-- the text of the folder with this index, or that there is none
abbrev pub IsFolderText : Option (List ℕ) → ℕ → Option (List ℕ) → Type 0
IsFolderText component index None = slice_get (config_folders component) index ≡ None
IsFolderText component index (Some text) = slice_get (config_folders component) index ≡ Some (parts text)
