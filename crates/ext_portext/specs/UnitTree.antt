-- The tree in which the units of a portable service with extensions are looked for: the image, and at and below the hierarchies of
-- system extensions what is visible of the extensions, the last that is given on top, over it. Without extensions it is the image.
use Rattle.std.specs.Prelude.{◌≡◌, ℕ, false, not, List, [], ◌∷◌, ◌++◌, map, reverse, IsTrue, Some}
use Rattle.std.specs.FinMap.Entries.{where_key}
use Rattle.ext_text.specs.Path.{path_cmp}
use Rattle.ext_tree.specs.Tree.{Entries, IsTree, lookup}
use Rattle.ext_tree.specs.declared.entry.Entry.{Entry}
use Rattle.ext_layer.specs.Layered.{IsVisible}
use Rattle.ext_host.specs.Held.{HeldFile}
use Rattle.ext_host.specs.Host.{is_in}
use Rattle.ext_portext.specs.declared.extending.Extending.{Extending}

-- the trees of extensions over that of an image, the topmost first
abbrev pub layers_over : Entries HeldFile → List Extending → List (Entries HeldFile)
layers_over image extensions = reverse (map (λ (extending : Extending). extending.tree) extensions) ++ image ∷ []

-- the tree of an image and of extensions of which there is one at least
pub record IsExtended (hierarchies : List (List ℕ)) (image : Entries HeldFile) (extensions : List Extending)
    (tree : Entries HeldFile) : Type 0 where
  pub is_tree : IsTree tree
  pub visible : (path : List (List ℕ)) (e : Entry HeldFile) → IsTrue (is_in hierarchies path) → lookup tree path ≡ Some e
      → IsVisible (layers_over image extensions) path e
  pub whole : (path : List (List ℕ)) (e : Entry HeldFile) → IsTrue (is_in hierarchies path)
      → IsVisible (layers_over image extensions) path e → lookup tree path ≡ Some e
  pub elsewhere : (path : List (List ℕ)) → is_in hierarchies path ≡ false → lookup tree path ≡ lookup image path

-- what a tree has at and below the hierarchies
abbrev pub inside_tree : {C : Type 0} → List (List ℕ) → Entries C → Entries C
inside_tree hierarchies es = where_key path_cmp (is_in hierarchies) es

-- what it has elsewhere
abbrev pub outside_tree : {C : Type 0} → List (List ℕ) → Entries C → Entries C
outside_tree hierarchies es = where_key path_cmp (λ path. not (is_in hierarchies path)) es

-- that tree, or the image itself
abbrev pub IsUnitTree : List (List ℕ) → Entries HeldFile → List Extending → Entries HeldFile → Type 0
IsUnitTree hierarchies image [] tree = tree ≡ image
IsUnitTree hierarchies image (extending ∷ extensions) tree = IsExtended hierarchies image (extending ∷ extensions) tree
