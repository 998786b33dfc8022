use Rattle.ext_tree.proofs.GraftingLemmas.{span_order}
use Rattle.ext_tree.proofs.graft.span.Goals as goal

pub returns-clause-order : goal.returns-clause-order
returns-clause-order g c =
    span_order c.args.entries.now c.args.names.now c.count_before.result c.count_through.result c.count_before.ensures.within c.count_through.ensures.within c.count_before.ensures.before c.count_through.ensures.after
