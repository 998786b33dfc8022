use Rattle.std.proofs.Common.{◌≡◌, ◌+◌, drop, map}
use Rattle.ext_text.specs.Path.{path_cmp}
use Rattle.ext_tree.specs.InsertionPoint.{insertion_point}
use Rattle.ext_layer.specs.Item.{seen}
use Rattle.ext_layer.proofs.overlay.insertion_near.Given as goal

abbrev pub invariant-near : goal.invariant-near
invariant-near g l = insertion_point path_cmp (seen l.upper).0 (map g.L.Lies.sees l.lower) ≡ l.index + insertion_point path_cmp (seen l.upper).0 (map g.L.Lies.sees (drop l.index l.lower))
