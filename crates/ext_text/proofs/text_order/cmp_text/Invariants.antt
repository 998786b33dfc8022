use Rattle.std.proofs.Common.{◌≡◌, length}
use Rattle.ext_text.specs.PathText.{text_cmp}
use Rattle.ext_text.proofs.text_order.cmp_text.Given as goal

abbrev pub invariant-strides : goal.invariant-strides
invariant-strides l = text_cmp l.x l.y ≡ text_cmp l.a l.b

abbrev pub decreases-strides : goal.decreases-strides
decreases-strides l = length l.x
