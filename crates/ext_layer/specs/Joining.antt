-- Lists of layers joined: at each path the first layer that says something decides.
use Rattle.std.specs.Prelude.{◌≡◌, ℕ, List, [], ◌∷◌, IsTrue}
use Rattle.std.specs.FinMap.{is_sorted}
use Rattle.std.specs.List.{AllByRecursion}
use Rattle.ext_text.specs.Path.{path_cmp}
use Rattle.ext_tree.specs.Tree.{Entries, IsTree}
use Rattle.ext_layer.specs.Overlay.{MarkedEntries, Overlay, absent, first_of_two, marked, overlay_at, visible_in}

-- what a list of layers says at a path
abbrev pub layers_overlay : {C : Type 0} → List (Entries C) → List (List ℕ) → Overlay C
layers_overlay [] p = absent
layers_overlay (es ∷ layers) p = first_of_two (overlay_at (marked es) p) (layers_overlay layers p)

-- two lists of layers say the same at each path: where one shows an entry the other does, and where one hides what lies under it
abbrev pub SayTheSame : {C : Type 0} → List (Entries C) → List (Entries C) → Type 0
SayTheSame layers others = (p : List (List ℕ)) → layers_overlay layers p ≡ layers_overlay others p

-- the marked list of a list of trees
pub record Joins {C : Type 0} (layers : List (Entries C)) (ms : MarkedEntries C) : Type 0 where
  pub trees : AllByRecursion IsTree layers
  pub sorted : IsTrue (is_sorted path_cmp ms)
  pub says : (p : List (List ℕ)) → overlay_at ms p ≡ layers_overlay layers p

-- the entries are what is visible of a list of trees
pub record Shows {C : Type 0} (layers : List (Entries C)) (es : Entries C) : Type 0 where
  pub marks : MarkedEntries C
  pub joins : Joins layers marks
  pub seen : es ≡ visible_in marks
