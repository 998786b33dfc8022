-- Which path may stand after the last entry of a tree.
use Rattle.std.specs.Prelude.{ℕ, Bool, ◌&&◌, ◌||◌, nat_lt, List, [], ◌∷◌, length}
use Rattle.std.specs.Ordering.{is_lt}
use Rattle.ext_text.specs.Name.{bytes_cmp}
use Rattle.ext_text.specs.Path.{path_cmp, parent, is_prefix}
use Rattle.ext_tree.specs.Tree.{is_directory}
use Rattle.ext_tree.specs.declared.entry.Entry.{Entry}

-- The path comes after the entry's, and stands directly at a proper prefix of that path, or in that entry, where it is a
-- directory. No other entry of the tree need be looked at: between a prefix of the path and the path all paths begin with
-- that prefix, and the last entry's is one of them.
abbrev pub stands_after : {C : Type 0} → List (List ℕ) × Entry C → List (List ℕ) → Bool
stands_after last path =
    is_lt (path_cmp last.0 path) && (is_prefix (parent path) last.0 && (nat_lt (length (parent path)) (length last.0) || is_directory last.1))

-- The same by what the entry's path has below the path's parent: a smaller name, or nothing, where the entry is the parent
-- itself, and then a directory.
abbrev pub name_comes_after : {C : Type 0} → List (List ℕ) → Entry C → List ℕ → Bool
name_comes_after [] entry name = is_directory entry
name_comes_after (last ∷ below) entry name = is_lt (bytes_cmp last name)
