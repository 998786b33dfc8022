use Rattle.ext_publish.proofs.CountingLemmas.{counts_more}
use Rattle.ext_publish.proofs.counting.count_pairs.Goals as goal

pub pairs-preserved : goal.pairs-preserved
pairs-preserved c = counts_more c.args.pairs.now c.pairs.pair-index c.pair-item.result c.pairs.made _ c.pairs-test.true c.pair-item.is c.pairs.invariant c.in_ok-made.ensures.more
