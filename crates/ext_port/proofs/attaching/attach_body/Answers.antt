use Rattle.std.proofs.Common.{sym, ◌∙◌}
use Rattle.ext_port.proofs.PlanLemmas.{body_unfit}
use Rattle.ext_port.proofs.attaching.attach_body.Goals as goal

pub returns-in-Some-clause-gives : goal.returns-in-Some-clause-gives
returns-in-Some-clause-gives c =
    body_unfit c.args.again c.args.host.now c.args.ask.now c.args.body.now c.args.tree.now c.args.lines.now c.in-Some.refusal (sym c.unfit.ensures ∙ c.in-Some.is)
