use Rattle.ext_sums.proofs.PrefixLemmas.{prefix_of_second}
use Rattle.ext_sums.proofs.prefix.equal_first_bytes.Goals as goal

pub returns-clause-second : goal.returns-clause-second
returns-clause-second c = prefix_of_second c.args.a.now c.args.b.now c.split_at.result.0.now c.loop-count.count c.split_at.ensures.front c.loop-count.invariant.same
