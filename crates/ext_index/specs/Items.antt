-- The items of files: what a manifest should say of them, in path order.
use Rattle.std.specs.Prelude.{ℕ, List, [], ◌∷◌}
use Rattle.std.specs.List.{flat_map}
use Rattle.ext_tree.specs.Tree.{Entries}
use Rattle.ext_tree.specs.declared.entry.Entry.{Entry}
use Rattle.ext_tree.specs.declared.entry.Entry.TheVariants.{Dir, Opaque, File, Link, Hide}
use Rattle.ext_host.specs.Held.{HeldFile}
use Rattle.ext_host.specs.declared.manifest.Item.{Item}

-- the item of an entry, if it is a file
abbrev pub item_of : List (List ℕ) × Entry HeldFile → List Item
item_of (path, Dir attributes) = []
item_of (path, Opaque attributes) = []
item_of (path, File attributes held) = record { path = path; digest = held.stamp.digest } ∷ []
item_of (path, Link owner target) = []
item_of (path, Hide) = []

-- the items of entries, one for each file
abbrev pub items_of : Entries HeldFile → List Item
items_of es = flat_map item_of es
