use Rattle.ext_tree.specs.Tree.{all_shown}
use Rattle.ext_layer.proofs.LayeredLemmas.{pushed}
use Rattle.ext_layer.proofs.layered.append_visible.Goals as goal

pub loop-pair-preserved : goal.loop-pair-preserved
loop-pair-preserved g c = pushed (all_shown c.args.pairs.now.items) c.args.more.now c.loop-pair.pair-index c.pair-item.result _ _ c.loop-pair-test.true c.pair-item.is c.loop-pair.invariant c.in_ok-push_visible.ensures
