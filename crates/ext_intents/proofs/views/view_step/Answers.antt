use Rattle.std.proofs.Common.{sym, subst}
use Rattle.std.specs.Prelude.{IfOk}
use Rattle.ext_intents.specs.Views.{ViewWants}
use Rattle.ext_intents.proofs.views.view_step.Goals as goal

pub returns-in-Explain-clause-wants : goal.returns-in-Explain-clause-wants
returns-in-Explain-clause-wants g c =
    subst (λ v. IfOk c.explain_step.result (ViewWants c.args.host.now (g.H.Shelf.told c.args.shelf.now) c.args.class v)) (sym c.in-Explain.is)
    c.explain_step.ensures.wants
