use Rattle.std.proofs.Common.{sym, subst}
use Rattle.std.specs.Prelude.{IfErr, IfOk}
use Rattle.ext_cmd.specs.declared.command.ViewCommand.TheVariants as views
use Rattle.ext_intents.specs.Causes.{IsViewFile, ViewCause}
use Rattle.ext_intents.specs.Views.{ExplainWants}
use Rattle.ext_intents.proofs.ViewsLemmas.{explain_cause, explain_refused}
use Rattle.ext_intents.proofs.views.explain_step.Goals as goal

pub returns-in-Err-Survey-clause-wants : goal.returns-in-Err-Survey-clause-wants
returns-in-Err-Survey-clause-wants g c =
    let host = c.args.host.now in
    let told = g.H.Shelf.told c.args.shelf.now in
    let old = g.H.Shelf.faults c.args.shelf.now in
    let new = g.H.Shelf.faults c.explain.new.shelf in
    let path = c.args.path.now in
    let gives = rw c.in-Err-Survey.field-0-is at c.in-Err-Survey.ensures.gives in
    subst (λ r. IfOk r (ExplainWants host told c.args.class c.args.force path)) (sym c.refused.ensures)
    (explain_refused told old new host c.args.class c.args.force path c.in-Err-Survey.failed gives)

pub returns-in-Err-Survey-clause-cause : goal.returns-in-Err-Survey-clause-cause
returns-in-Err-Survey-clause-cause g c =
    let host = c.args.host.now in
    let told = g.H.Shelf.told c.args.shelf.now in
    let old = g.H.Shelf.faults c.args.shelf.now in
    let new = g.H.Shelf.faults c.explain.new.shelf in
    let path = c.args.path.now in
    let gives = rw c.in-Err-Survey.field-0-is at c.in-Err-Survey.ensures.gives in
    subst (λ r. IfErr r (ViewCause (IsViewFile host c.args.class (views.Explain c.args.force path)) host told old new)) (sym c.refused.ensures)
    (explain_cause told old new host c.args.class c.args.force path c.in-Err-Survey.failed gives)
