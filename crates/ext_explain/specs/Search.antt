-- Where entries of a list in path order stand, by their indexes: what a search for one of them goes by.
use Rattle.std.specs.Prelude.{◌≡◌, ℕ, ◌≤◌, List, [], ◌∷◌, ◌++◌, length, Some, None}
use Rattle.ext_text.specs.Path.{path_cmp}
use Rattle.ext_tree.specs.InsertionPoint.{insertion_point}
use Rattle.ext_tree.specs.Tree.{Entries, lookup}
use Rattle.ext_host.specs.Held.{HeldFile}
use Rattle.ext_explain.specs.declared.searching.Spot.{Spot}

-- all that is directly in the directory stands at this index or at a later one
abbrev pub StandsFrom : {C : Type 0} → Entries C → List (List ℕ) → ℕ → Type 0
StandsFrom es directory from = (name : List ℕ) → from ≤ insertion_point path_cmp (directory ++ name ∷ []) es

-- an entry at the path, if there is one, stands at the first index or at a later one, and before the second
pub record StandsWithin {C : Type 0} (es : Entries C) (path : List (List ℕ)) (from to : ℕ) : Type 0 where
  pub first : from ≤ insertion_point path_cmp path es
  pub last : insertion_point path_cmp path es ≤ to
  pub bound : to ≤ length es
  pub open_ : insertion_point path_cmp path es ≡ to → lookup es path ≡ None

-- the entry at the path, and where what is directly in it stands
abbrev pub IsSpot : Entries HeldFile → List (List ℕ) → Spot → Type 0
IsSpot es path spot = (spot.pair.now.0 ≡ path) × (lookup es path ≡ Some spot.pair.now.1) × StandsFrom es path spot.inside
