use Rattle.std.proofs.Common.{◌<◌, ◌≤◌, ◌-◌, ◌^◌, ◌++◌, ◌∷◌, [], length}
use Rattle.ext_text.specs.Path.{path_cmp}
use Rattle.ext_tree.specs.InsertionPoint.{insertion_point}
use Rattle.ext_explain.proofs.searching.spot_from.Given as goal

abbrev pub invariant-doubling : goal.invariant-doubling
invariant-doubling l = record {
  small : length l.entries < 2 ^ 63;
  from : l.from ≤ l.passed;
  point : l.passed ≤ insertion_point path_cmp (l.directory ++ l.name ∷ []) l.entries;
}

abbrev pub decreases-doubling : goal.decreases-doubling
decreases-doubling l = length l.entries - l.passed
