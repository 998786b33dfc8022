use Rattle.std.proofs.Common.{◌≡◌, map, take}
use Rattle.ext_view.specs.Inside.{inside, seen_below}
use Rattle.ext_view.proofs.inside.copies_inside.Given as goal

abbrev pub invariant-loop-pair : goal.invariant-loop-pair
invariant-loop-pair l = l.copies.items ≡ inside l.hierarchies (map (seen_below l.depth) (take l.pair-index l.pairs))
