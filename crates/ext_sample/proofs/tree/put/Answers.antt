use Rattle.std.proofs.Common.{cond, Some, is_some, ap, ◌∙◌}
use Rattle.ext_sample.specs.Making.{entry_at}
use Rattle.ext_sample.proofs.LookupLemmas.{one_more, turned}
use Rattle.ext_sample.proofs.tree.put.Goals as goal

pub returns-in-Ok : goal.returns-in-Ok
returns-in-Ok c = record {
  each = λ q. c.in-Ok.ensures.updates.0 q ∙ ap (λ b. cond b (Some c.args.entry) (entry_at c.args.entries.now.entries q)) (turned c.args.path q);
  count = one_more (is_some c.in-Ok._replaced) _ _ c.in-Ok.ensures.len;
}
