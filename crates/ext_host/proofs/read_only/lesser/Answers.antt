use Rattle.std.proofs.Common.{refl, inr}
use Rattle.ext_host.proofs.ReadOnlyLemmas.{greater_reversed}
use Rattle.ext_host.proofs.read_only.lesser.Goals as goal

pub returns-then-is_gt : goal.returns-then-is_gt
returns-then-is_gt c = inr (refl, greater_reversed c.args.a.now c.args.b.now (cc (c.cmp.ensures, c.is_gt.ensures, c.if-is_gt.true, c.bytes.ensures.same, c.bytes-2.ensures.same)))
