use Rattle.std.proofs.Common.{◌≡◌, ◌+◌, drop, map}
use Rattle.ext_layer.specs.Overlay.{count_hidden}
use Rattle.ext_layer.specs.Item.{seen}
use Rattle.ext_layer.proofs.overlay.count_hidden.Given as goal

abbrev pub invariant-hidden : goal.invariant-hidden
invariant-hidden g l = count_hidden (seen l.upper) (map g.L.Lies.sees l.lower) ≡ l.count + count_hidden (seen l.upper) (map g.L.Lies.sees (drop l.count l.lower))
