-- Slices of a tree: which entries stand one after another in path order because of what their paths begin with.
use Rattle.std.specs.Prelude.{◌≡◌, ℕ, nat_eq, Option, Some, None, Bool, false, not, ◌&&◌, List, [], ◌∷◌, ◌++◌}
use Rattle.std.specs.List.{starts_with}
use Rattle.std.specs.Ordering.{eq_by_cmp, is_lt}
use Rattle.ext_lines.specs.ByteOrder.{bytes_cmp}
use Rattle.std.specs.Borrow.{Bor}
use Rattle.ext_text.specs.Path.{path_cmp, is_prefix}
use Rattle.ext_tree.specs.Tree.{Entries, lookup}
use Rattle.ext_tree.specs.declared.entry.Entry.{Entry}

-- the path is at or below a name of the directory that begins with these bytes
abbrev pub is_named : List (List ℕ) → List ℕ → List (List ℕ) → Bool
is_named [] start [] = false
is_named [] start (n ∷ path) = starts_with nat_eq n start
is_named (d ∷ directory) start [] = false
is_named (d ∷ directory) start (n ∷ path) = eq_by_cmp bytes_cmp d n && is_named directory start path

-- the second path comes after the first one and all that is below that
abbrev pub is_after : List (List ℕ) → List (List ℕ) → Bool
is_after path other = is_lt (path_cmp path other) && not (is_prefix path other)

-- the second path comes before the name of the directory
abbrev pub is_before_name : List (List ℕ) → List ℕ → List (List ℕ) → Bool
is_before_name directory name path = is_lt (path_cmp path (directory ++ name ∷ []))

-- a borrowed entry is the one at the path; none is borrowed where nothing stands there
abbrev pub IsChild : {C : Type 0} → Entries C → List (List ℕ) → Option (Bor (List (List ℕ) × Entry C)) → Type 0
IsChild es path None = lookup es path ≡ None
IsChild es path (Some e) = (e.now.0 ≡ path) × (lookup es path ≡ Some e.now.1)
