-- Trees in the depot. Where their texts and their files stand is this project's own.
use Rattle.std.specs.Prelude.{◌≢◌, ℕ, List, [], ◌∷◌, ◌++◌, codes}
use Rattle.ext_text.specs.Path.{IsPath}

-- the path of the tree text: `.tree` after the last name
abbrev pub tree_path : List (List ℕ) → List (List ℕ)
tree_path [] = []
tree_path (name ∷ []) = (name ++ codes ".tree") ∷ []
tree_path (name ∷ next ∷ names) = name ∷ tree_path (next ∷ names)

-- a path other than the root that stays one with `.tree` after its last name
pub record IsResource (path : List (List ℕ)) : Type 0 where
  pub within : IsPath path
  pub below_root : path ≢ []
  pub text : IsPath (tree_path path)
