use Rattle.std.proofs.Common.{rules}
use Rattle.ext_sums.proofs.PrefixLemmas.{begin_all, begin_more}
use Rattle.ext_sums.proofs.prefix.common_prefix.Goals as goal

pub loop-each-preserved : goal.loop-each-preserved
loop-each-preserved c =
    begin_more c.prefix_of_both-prefix.result.now c.loop-each.prefix.now c.args.lines.now c.each-item.result c.loop-each.each-index (search rules) (search rules)
    c.prefix_of_both-prefix.ensures.first (search rules) c.loop-each.invariant

pub returns : goal.returns
returns c = begin_all c.loop-each.prefix.now c.args.lines.now c.loop-each.each-index (search rules) c.loop-each.invariant
