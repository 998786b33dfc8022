use Rattle.std.proofs.Common.{◌≡◌, take}
use Rattle.ext_view.specs.Inside.{outside}
use Rattle.ext_view.proofs.replaced.copies_outside.Given as goal

abbrev pub invariant-loop-pair : goal.invariant-loop-pair
invariant-loop-pair l = l.copies.items ≡ outside l.hierarchies (take l.pair-index l.pairs)
