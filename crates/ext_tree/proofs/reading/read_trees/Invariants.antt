use Rattle.std.proofs.Common.{◌≡◌, ◌+◌, ◌<◌, ◌≤◌, ◌++◌, [], length}
use Rattle.std.specs.Prelude.{◌⊎◌}
use Rattle.std.specs.List.{AllByRecursion, flat_map}
use Rattle.ext_tree.specs.TreeText.{HasText, tree_lines, tree_text}
use Rattle.ext_tree.proofs.reading.read_trees.Given as goal

-- the bytes are the texts of the trees so far, and the rest
abbrev pub invariant-texts : goal.invariant-texts
invariant-texts l = record {
  each : AllByRecursion HasText l.trees.items;
  text : l.fn.bytes ≡ flat_map tree_text l.trees.items ++ l.rest;
  counted : l.line ≡ 1 + length (flat_map tree_lines l.trees.items);
  room : l.line + length l.rest ≤ 1 + length l.fn.bytes;
  unended : (l.trees.items ≡ []) ⊎ (0 < length l.rest);
}

abbrev pub decreases-texts : goal.decreases-texts
decreases-texts l = length l.rest
