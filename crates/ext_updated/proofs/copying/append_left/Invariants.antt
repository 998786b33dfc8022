use Rattle.std.proofs.Common.{◌≡◌, ◌++◌, length}
use Rattle.std.specs.Prelude.{IsTrue}
use Rattle.std.specs.FinMap.{is_sorted}
use Rattle.std.specs.List.Sorted.{IsStrictlySortedBy}
use Rattle.ext_text.specs.Path.{path_cmp}
use Rattle.ext_tree.specs.Cut.{cut_all}
use Rattle.ext_updated.proofs.copying.append_left.Given as goal

-- what is appended by now, and what is left of the rest, is what is left of all
abbrev pub invariant-paths : goal.invariant-paths
invariant-paths g l =
    (l.left.items ++ cut_all l.more l.rest ≡ l.fn.left.items ++ cut_all l.paths l.pairs) × IsTrue (is_sorted path_cmp l.rest) × IsStrictlySortedBy path_cmp l.more

abbrev pub decreases-paths : goal.decreases-paths
decreases-paths g l = length l.more
