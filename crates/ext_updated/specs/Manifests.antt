-- The manifest of what stands at and below a path: its files with the digests of their bytes. This project's own.
use Rattle.std.specs.Prelude.{◌≡◌, ℕ, List, [], ◌∷◌, ◌++◌, map, Option, Some, None}
use Rattle.ext_text.specs.Path.{path_cmp}
use Rattle.ext_tree.specs.Tree.{Entries, lookup}
use Rattle.ext_host.specs.Held.{HeldFile}
use Rattle.ext_host.specs.Valid.{AreAscending, HasItems}
use Rattle.ext_tree.specs.declared.entry.Entry.{Entry}
use Rattle.ext_tree.specs.declared.entry.Entry.TheVariants.{Dir, Opaque, File, Link, Hide}
use Rattle.ext_host.specs.declared.manifest.Item.{Item}
use Rattle.ext_host.specs.declared.manifest.Manifest.{Manifest}

-- the manifest of a path of a tree, its files in path order
pub record IsManifestAt (es : Entries HeldFile) (path : List (List ℕ)) (manifest : Manifest) : Type 0 where
  pub path_is : manifest.path ≡ path
  pub order : AreAscending path_cmp (map (λ item. item.path) manifest.items)
  pub items : HasItems (λ q. lookup es q) manifest

-- how it is made

-- a file as an item, and nothing for what is none
abbrev pub file_item : List (List ℕ) → Entry HeldFile → List Item
file_item path (Dir attributes) = []
file_item path (Opaque attributes) = []
file_item path (File attributes held) = record { path = path; digest = held.stamp.digest } ∷ []
file_item path (Link owner target) = []
file_item path Hide = []

-- the file at the path, if there is one
abbrev pub top_items : List (List ℕ) → Option (Entry HeldFile) → List Item
top_items path None = []
top_items path (Some e) = file_item path e

-- the files among entries
abbrev pub file_items : Entries HeldFile → List Item
file_items [] = []
file_items (e ∷ es) = file_item e.0 e.1 ++ file_items es
