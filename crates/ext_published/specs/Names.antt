-- The names of what is published, this project's own, after the layout from which systemd-sysupdate(8) takes resources: a
-- manifest `SHA256SUMS` beside the resources that it lists.
use Rattle.std.specs.Prelude.{ℕ, Bool, List, ◌++◌, ◌||◌, codes, nat_eq}
use Rattle.std.specs.Str.{bytes_eq}
use Rattle.std.specs.List.{ends_with}

-- the name of the manifest
abbrev pub manifest_name : List ℕ
manifest_name = codes "SHA256SUMS"

-- the name of the manifest that is to be renamed to it
abbrev pub coming_manifest_name : List ℕ
coming_manifest_name = codes "SHA256SUMS.next"

-- the name of the tree text of a directory
abbrev pub tree_text_name : List ℕ → List ℕ
tree_text_name name = name ++ codes ".tree"

-- a name that a tree text may have
abbrev pub is_of_tree_text : List ℕ → Bool
is_of_tree_text name = ends_with nat_eq name (codes ".tree")

-- a name of a tree text or of a manifest, which no resource may have
abbrev pub is_reserved_name : List ℕ → Bool
is_reserved_name name = is_of_tree_text name || bytes_eq name manifest_name || bytes_eq name coming_manifest_name
