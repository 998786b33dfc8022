use Rattle.std.proofs.Common.{sym, subst}
use Rattle.std.specs.Prelude.{IfErr, IfOk}
use Rattle.ext_cmd.specs.declared.command.ViewCommand.TheVariants as views
use Rattle.ext_intents.specs.Causes.{IsViewFile, ViewCause}
use Rattle.ext_intents.specs.Views.{ChangesWants}
use Rattle.ext_intents.proofs.ViewsLemmas.{changes_cause, changes_refused}
use Rattle.ext_intents.proofs.views.changes_step.Goals as goal

pub returns-in-Err-clause-wants : goal.returns-in-Err-clause-wants
returns-in-Err-clause-wants g c =
    let told = g.H.Shelf.told c.args.shelf.now in
    subst (λ r. IfOk r (ChangesWants c.args.host.now told c.args.class c.args.force)) (sym c.refused.ensures)
    (changes_refused told (g.H.Shelf.faults c.args.shelf.now) (g.H.Shelf.faults c.view_changes.new.shelf) c.args.host.now c.args.class c.args.force c.in-Err.failed c.in-Err.ensures.gives)

pub returns-in-Err-clause-cause : goal.returns-in-Err-clause-cause
returns-in-Err-clause-cause g c =
    let told = g.H.Shelf.told c.args.shelf.now in
    let old = g.H.Shelf.faults c.args.shelf.now in
    let new = g.H.Shelf.faults c.view_changes.new.shelf in
    subst (λ r. IfErr r (ViewCause (IsViewFile c.args.host.now c.args.class (views.Changes c.args.force)) c.args.host.now told old new)) (sym c.refused.ensures)
    (changes_cause told old new c.args.host.now c.args.class c.args.force c.in-Err.failed c.in-Err.ensures.gives)
