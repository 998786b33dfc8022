use Rattle.ext_host.specs.Host.{past_tree}
use Rattle.ext_index.specs.ValidIndex.{IsWellFormedTree}
use Rattle.ext_gen.proofs.PreparingListLemmas.{each_more, each_whole}
use Rattle.ext_gen.proofs.preparing.forms.look_at_pasts.Goals as goal

pub pasts-preserved : goal.pasts-preserved
pasts-preserved c = each_more (λ past. IsWellFormedTree (past_tree past)) c.args.pasts.now c.pasts.past-index c.past-item.result c.pasts-test.true c.past-item.is c.pasts.invariant c.look_at_past.ensures

pub returns : goal.returns
returns c = each_whole (λ past. IsWellFormedTree (past_tree past)) c.args.pasts.now c.pasts.past-index c.pasts-test.false c.pasts.invariant
