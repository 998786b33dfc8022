-- What stands below a path of a tree, as a tree.
use Rattle.std.specs.Prelude.{◌≡◌, ℕ, List, ◌++◌, drop, length, map, Option, Some, None, if◌then◌else◌}
use Rattle.std.specs.FinMap.Entries.{where_key}
use Rattle.ext_text.specs.Path.{path_cmp, is_proper_prefix}
use Rattle.ext_tree.specs.Tree.{Entries, lookup, is_directory_or_root}
use Rattle.ext_tree.specs.Refusals.{is_root}
use Rattle.ext_tree.specs.declared.entry.Entry.{Entry}
use Rattle.ext_tree.specs.declared.tree.TreeErr.{TreeErr}
use Rattle.ext_tree.specs.declared.tree.TreeErr.TheVariants.{NotDirectory}

-- the path without its first names
abbrev pub seen_from : {C : Type 0} → List (List ℕ) → List (List ℕ) × Entry C → List (List ℕ) × Entry C
seen_from p e = (drop (length p) e.0, e.1)

-- the entries below the path, with that prefix taken off
abbrev pub part : {C : Type 0} → List (List ℕ) → Entries C → Entries C
part p es = map (seen_from p) (where_key path_cmp (is_proper_prefix p) es)

-- path by path: what stands at a path of the part stands at both paths, one after the other, of the tree
abbrev pub IsPart : {C : Type 0} → Entries C → List (List ℕ) → Entries C → Type 0
IsPart es p u = (q : List (List ℕ)) → lookup u q ≡ (if is_root q then None else lookup es (p ++ q))

-- why there is no part
abbrev pub part_refusal : {C : Type 0} → Entries C → List (List ℕ) → Option TreeErr
part_refusal es p = if is_directory_or_root es p then None else Some NotDirectory
