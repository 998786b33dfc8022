use Rattle.ext_view.proofs.InsideLemmas.{outside_more}
use Rattle.ext_view.proofs.replaced.copies_outside.Goals as goal

pub loop-pair-preserved : goal.loop-pair-preserved
loop-pair-preserved c =
    outside_more c.args.hierarchies.now c.args.pairs.now c.loop-pair.pair-index c.pair-item.result c.loop-pair.copies.items c.push_outside.new.copies.items c.loop-pair-test.true c.pair-item.is c.loop-pair.invariant c.in_ok-push_outside.ensures
