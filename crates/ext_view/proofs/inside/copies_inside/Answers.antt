use Rattle.ext_view.proofs.InsideLemmas.{inside_more}
use Rattle.ext_view.proofs.inside.copies_inside.Goals as goal

pub loop-pair-preserved : goal.loop-pair-preserved
loop-pair-preserved c =
    inside_more c.args.hierarchies.now c.args.depth c.args.pairs.now c.loop-pair.pair-index c.pair-item.result c.loop-pair.copies.items c.push_inside.new.copies.items c.loop-pair-test.true c.pair-item.is c.loop-pair.invariant c.in_ok-push_inside.ensures
