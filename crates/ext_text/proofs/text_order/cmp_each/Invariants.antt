use Rattle.std.proofs.Common.{◌≡◌, length}
use Rattle.ext_text.specs.PathText.{text_cmp}
use Rattle.ext_text.proofs.text_order.cmp_each.Given as goal

abbrev pub invariant-bytes : goal.invariant-bytes
invariant-bytes l = text_cmp l.x l.y ≡ text_cmp l.a l.b

abbrev pub decreases-bytes : goal.decreases-bytes
decreases-bytes l = length l.x
