use Rattle.std.proofs.Common.{◌≡◌, ◌+◌, ◌-◌, ◌≤◌, length, drop, map}
use Rattle.ext_text.specs.Path.{path_cmp}
use Rattle.ext_tree.specs.InsertionPoint.{insertion_point}
use Rattle.ext_layer.specs.Item.{seen}
use Rattle.ext_layer.proofs.overlay.insertion_point.Given as goal

abbrev pub invariant-strides : goal.invariant-strides
invariant-strides g l = record {
  within : l.passed ≤ length l.lower;
  counted : insertion_point path_cmp (seen l.upper).0 (map g.L.Lies.sees l.lower) ≡ l.passed + insertion_point path_cmp (seen l.upper).0 (map g.L.Lies.sees (drop l.passed l.lower));
}

abbrev pub decreases-strides : goal.decreases-strides
decreases-strides g l = length l.lower - l.passed
