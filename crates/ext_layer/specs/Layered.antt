-- Layers, as systemd-sysext(8) and overlayfs join them, stated of each path by itself. They stand topmost first, and the
-- host is the last of them. A directory that stands in several layers has the attributes of the topmost. Where a file, a
-- link or a whiteout stands, nothing below it comes from lower layers, and nothing below an opaque directory does. A
-- whiteout hides what lower layers have at its own path, and is not visible itself; an opaque directory is visible as a
-- directory.
use Rattle.std.specs.Prelude.{◌≡◌, ℕ, ◌<◌, ◌≤◌, Bool, false, not, ◌||◌, ◌⊎◌, List, ◌∷◌, ◌++◌, length, IsTrue, Option, Some, None, is_some, Result, Ok, Err}
use Rattle.std.specs.List.{AllByRecursion}
use Rattle.ext_text.specs.Path.{is_proper_prefix}
use Rattle.ext_tree.specs.Tree.{Entries, IsTree, as_shown, is_directory, is_hide, is_opaque, lookup, most_entries}
use Rattle.ext_tree.specs.declared.entry.Entry.{Entry}
use Rattle.ext_layer.specs.declared.errors.LayerErr.{LayerErr}
use Rattle.ext_layer.specs.declared.errors.LayerErr.TheVariants.{OutOfMemory, Limit}

-- what stands there lets nothing of lower layers through below it: it is no directory, or an opaque one
abbrev pub cuts_below : {C : Type 0} → Option (Entry C) → Bool
cuts_below None = false
cuts_below (Some e) = not (is_directory e) || is_opaque e

-- a layer cuts off a path: it has an entry there, or what stands at a proper prefix lets nothing through below it
abbrev pub CutsOff : {C : Type 0} → Entries C → List (List ℕ) → Type 0
CutsOff es p = IsTrue (is_some (lookup es p)) ⊎ ((q : List (List ℕ)) × IsTrue (is_proper_prefix q p) × IsTrue (cuts_below (lookup es q)))

-- the entry is visible at the path: some layer has it there, as it shows, it is no whiteout, and no layer above that one
-- cuts off the path
pub record IsVisible {C : Type 0} (layers : List (Entries C)) (p : List (List ℕ)) (e : Entry C) : Type 0 where
  pub above : List (Entries C)
  pub layer : Entries C
  pub below : List (Entries C)
  pub split : layers ≡ above ++ layer ∷ below
  pub stored : Entry C
  pub stands : lookup layer p ≡ Some stored
  pub no_hide : IsTrue (not (is_hide stored))
  pub shown : e ≡ as_shown stored
  pub open_ : AllByRecursion (λ es. ¬ CutsOff es p) above

-- the layered tree: at each path what is visible there, and nothing elsewhere
pub record IsLayered {C : Type 0} (layers : List (Entries C)) (es : Entries C) : Type 0 where
  pub tree : IsTree es
  pub visible : (p : List (List ℕ)) (e : Entry C) → lookup es p ≡ Some e → IsVisible layers p e
  pub whole : (p : List (List ℕ)) (e : Entry C) → IsVisible layers p e → lookup es p ≡ Some e

-- what the layering gives: the layered tree, or that it has too many entries
abbrev pub GivesLayered : {C : Type 0} → List (Entries C) → Result (Entries C) LayerErr → Type 0
GivesLayered layers (Ok es) = IsLayered layers es × (length es ≤ most_entries)
GivesLayered layers (Err OutOfMemory) = Unit {0}
GivesLayered {C} layers (Err Limit) = (es : Entries C) × IsLayered layers es × (most_entries < length es)
