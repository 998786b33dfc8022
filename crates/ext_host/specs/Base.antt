-- How the base is made in path order. A hierarchy is a name directly below the root, so what stands at and below it stands
-- together: before it comes what is seen, in its place what lies under the view, and then the rest in the same way.
use Rattle.std.specs.Prelude.{ℕ, Bool, List, [], ◌∷◌, ◌++◌}
use Rattle.std.specs.Ordering.{is_eq, is_gt, is_lt}
use Rattle.std.specs.FinMap.Entries.{where_key}
use Rattle.std.specs.declared.cmp.Ordering.{Ordering}
use Rattle.std.specs.declared.cmp.Ordering.TheVariants.{Greater}
use Rattle.ext_lines.specs.ByteOrder.{bytes_cmp}
use Rattle.ext_text.specs.Path.{path_cmp}
use Rattle.ext_tree.specs.Tree.{Entries}

-- how a name stands to the first name of a path; it comes after the root
abbrev pub first_name_cmp : List ℕ → List (List ℕ) → Ordering
first_name_cmp name [] = Greater
first_name_cmp name (first ∷ path) = bytes_cmp name first

-- the path comes before the name
abbrev pub comes_before : List ℕ → List (List ℕ) → Bool
comes_before name path = is_gt (first_name_cmp name path)

-- the path is at or below the name
abbrev pub stands_at : List ℕ → List (List ℕ) → Bool
stands_at name path = is_eq (first_name_cmp name path)

-- the path comes after the name and all that is below it
abbrev pub comes_after : List ℕ → List (List ℕ) → Bool
comes_after name path = is_lt (first_name_cmp name path)

-- what is seen, with what lies under it in the place of each of the names, which do not fall
abbrev pub base_entries : {C : Type 0} → List (List ℕ) → Entries C → Entries C → Entries C
base_entries [] root lower = root
base_entries (name ∷ names) root lower =
    where_key path_cmp (comes_before name) root ++ (where_key path_cmp (stands_at name) lower ++ base_entries names (where_key path_cmp (comes_after name) root) (where_key path_cmp (comes_after name) lower))
