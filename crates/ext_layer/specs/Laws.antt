-- Laws of layered trees.
use Rattle.std.specs.Prelude.{◌≡◌, ℕ, ◌≤◌, ◌↔◌, not, List, ◌∷◌, ◌++◌, length, IsTrue, Some}
use Rattle.std.specs.List.{AllByRecursion, Contains}
use Rattle.ext_tree.specs.Tree.{Entries, as_shown, is_file, is_hide, is_opaque, lookup, most_entries}
use Rattle.ext_tree.specs.TreeText.{HasText}
use Rattle.ext_tree.specs.declared.entry.Entry.{Entry}
use Rattle.ext_tree.specs.declared.stamp.Stamp.{Stamp}
use Rattle.ext_layer.specs.Layered.{IsLayered}

-- layers have one layered tree
abbrev pub OneLayeredTree : Type 0 → Type 0
OneLayeredTree C = (layers : List (Entries C)) (a b : Entries C) → IsLayered layers a → IsLayered layers b → a ≡ b

-- one of the layers has the entry at the path
pub record IsOfLayer {C : Type 0} (layers : List (Entries C)) (p : List (List ℕ)) (e : Entry C) : Type 0 where
  pub layer : Entries C
  pub among : Contains layers layer
  pub stands : lookup layer p ≡ Some e

-- each entry of a layered tree is one of the layers' entries at the same path, as it shows
abbrev pub EntriesAreOfLayers : Type 0 → Type 0
EntriesAreOfLayers C = (layers : List (Entries C)) (es : Entries C) (p : List (List ℕ)) (e : Entry C) → IsLayered layers es → lookup es p ≡ Some e → (stored : Entry C) × IsOfLayer layers p stored × (e ≡ as_shown stored)

-- each file of a layered tree is a file of one of the layers at the same path
abbrev pub FilesAreOfLayers : Type 0 → Type 0
FilesAreOfLayers C = (layers : List (Entries C)) (es : Entries C) (p : List (List ℕ)) (e : Entry C) → IsLayered layers es → lookup es p ≡ Some e → IsTrue (is_file e) → IsOfLayer layers p e

-- a layered tree has no whiteout and no opaque directory
abbrev pub NothingHides : Type 0 → Type 0
NothingHides C = (layers : List (Entries C)) (es : Entries C) (p : List (List ℕ)) (e : Entry C) → IsLayered layers es → lookup es p ≡ Some e → IsTrue (not (is_hide e)) × IsTrue (not (is_opaque e))

-- the layered tree of trees that have texts has one, where it is within the limit
abbrev pub LayeredHasText : Type 0
LayeredHasText = (layers : List (Entries Stamp)) (es : Entries Stamp) → AllByRecursion HasText layers → IsLayered layers es → length es ≤ most_entries → HasText es

-- of two layers with equal entries the lower one shows nothing and hides nothing more: without it the layered tree is the same
abbrev pub LowerEqualShowsNothing : Type 0 → Type 0
LowerEqualShowsNothing C =
    (uppers between lowers : List (Entries C)) (layer es : Entries C)
    → IsLayered (uppers ++ layer ∷ between ++ layer ∷ lowers) es ↔ IsLayered (uppers ++ layer ∷ between ++ lowers) es
