use Rattle.std.proofs.Common.{sym, ap, ◌∙◌, subst}
use Rattle.std.specs.Prelude.{IfErr, IfOk}
use Rattle.std.specs.Option.{option_copied}
use Rattle.ext_cmd.specs.declared.command.UpdateVerb.TheVariants as verbs
use Rattle.ext_intents.specs.Causes.{StepCause}
use Rattle.ext_intents.specs.Sysupdate.{IsSysupdateFile, VerbWants}
use Rattle.ext_intents.proofs.UpdateStepLemmas.{if_err_more, if_ok_more, verb_cause}
use Rattle.ext_intents.proofs.sysupdate.update_step.Goals as goal

pub returns-in-List-clause-cause : goal.returns-in-List-clause-cause
returns-in-List-clause-cause g c =
    let host = c.args.host.now in
    let told = g.H.Shelf.told c.args.shelf.now in
    let old = g.H.Shelf.faults c.args.shelf.now in
    let new = g.H.Shelf.faults c.list_step.new.shelf in
    let before = (g.P.Depot.state c.args.depot.now).faults in
    let after = (g.P.Depot.state c.list_step.new.depot).faults in
    let component = option_copied c.args.component in
    subst (λ v. IfErr c.list_step.result (StepCause (IsSysupdateFile host component v) host told old new before after)) (sym c.in-List.is)
    (if_err_more _ (StepCause (IsSysupdateFile host component verbs.List) host told old new before after) c.list_step.result
    (verb_cause host c.in_ok-base.base c.in_ok-base.ensures component told old new verbs.List before after) c.list_step.ensures.cause)

pub returns-in-CheckNew-clause-cause : goal.returns-in-CheckNew-clause-cause
returns-in-CheckNew-clause-cause g c =
    let host = c.args.host.now in
    let told = g.H.Shelf.told c.args.shelf.now in
    let old = g.H.Shelf.faults c.args.shelf.now in
    let new = g.H.Shelf.faults c.check_new_step.new.shelf in
    let before = (g.P.Depot.state c.args.depot.now).faults in
    let after = (g.P.Depot.state c.check_new_step.new.depot).faults in
    let component = option_copied c.args.component in
    subst (λ v. IfErr c.check_new_step.result (StepCause (IsSysupdateFile host component v) host told old new before after)) (sym c.in-CheckNew.is)
    (if_err_more _ (StepCause (IsSysupdateFile host component verbs.CheckNew) host told old new before after) c.check_new_step.result
    (verb_cause host c.in_ok-base.base c.in_ok-base.ensures component told old new verbs.CheckNew before after) c.check_new_step.ensures.cause)

pub returns-in-Update-clause-wants : goal.returns-in-Update-clause-wants
returns-in-Update-clause-wants g c =
    let host = c.args.host.now in
    let told = g.H.Shelf.told c.args.shelf.now in
    let files = (g.P.Depot.state c.args.depot.now).contents in
    let component = option_copied c.args.component in
    subst (λ v. IfOk c.update_to_step.result (VerbWants host told files component v)) (ap (λ w. verbs.Update w) c.as_ref.ensures.value ∙ sym c.in-Update.is)
    (if_ok_more _ (VerbWants host told files component (verbs.Update (option_copied c.as_ref.result))) c.update_to_step.result
    (λ intent wants. (c.in_ok-base.base, c.in_ok-base.ensures, wants)) c.update_to_step.ensures.wants)

pub returns-in-Update-clause-cause : goal.returns-in-Update-clause-cause
returns-in-Update-clause-cause g c =
    let host = c.args.host.now in
    let told = g.H.Shelf.told c.args.shelf.now in
    let old = g.H.Shelf.faults c.args.shelf.now in
    let new = g.H.Shelf.faults c.update_to_step.new.shelf in
    let before = (g.P.Depot.state c.args.depot.now).faults in
    let after = (g.P.Depot.state c.update_to_step.new.depot).faults in
    let component = option_copied c.args.component in
    let verb = verbs.Update c.in-Update.version in
    subst (λ v. IfErr c.update_to_step.result (StepCause (IsSysupdateFile host component v) host told old new before after)) (sym c.in-Update.is)
    (if_err_more _ (StepCause (IsSysupdateFile host component verb) host told old new before after) c.update_to_step.result
    (verb_cause host c.in_ok-base.base c.in_ok-base.ensures component told old new verb before after) c.update_to_step.ensures.cause)

pub returns-in-Vacuum-clause-wants : goal.returns-in-Vacuum-clause-wants
returns-in-Vacuum-clause-wants g c =
    let host = c.args.host.now in
    let told = g.H.Shelf.told c.args.shelf.now in
    let files = (g.P.Depot.state c.args.depot.now).contents in
    let component = option_copied c.args.component in
    subst (λ v. IfOk c.vacuum_step.result (VerbWants host told files component v)) (sym c.in-Vacuum.is)
    (if_ok_more _ (VerbWants host told files component verbs.Vacuum) c.vacuum_step.result
    (λ intent wants. (c.in_ok-base.base, c.in_ok-base.ensures, wants)) (c.vacuum_step.ensures.wants files))

pub returns-in-Vacuum-clause-cause : goal.returns-in-Vacuum-clause-cause
returns-in-Vacuum-clause-cause g c =
    let host = c.args.host.now in
    let told = g.H.Shelf.told c.args.shelf.now in
    let old = g.H.Shelf.faults c.args.shelf.now in
    let new = g.H.Shelf.faults c.vacuum_step.new.shelf in
    let faults = (g.P.Depot.state c.args.depot.now).faults in
    let component = option_copied c.args.component in
    subst (λ v. IfErr c.vacuum_step.result (StepCause (IsSysupdateFile host component v) host told old new faults faults)) (sym c.in-Vacuum.is)
    (if_err_more _ (StepCause (IsSysupdateFile host component verbs.Vacuum) host told old new faults faults) c.vacuum_step.result
    (verb_cause host c.in_ok-base.base c.in_ok-base.ensures component told old new verbs.Vacuum faults faults) (c.vacuum_step.ensures.cause faults faults))

pub returns-clause-wants : goal.returns-clause-wants
returns-clause-wants g c =
    let host = c.args.host.now in
    let told = g.H.Shelf.told c.args.shelf.now in
    let files = (g.P.Depot.state c.args.depot.now).contents in
    let component = option_copied c.args.component in
    subst (λ v. IfOk c.features_step.result (VerbWants host told files component v)) (sym c.in-Features.is)
    (if_ok_more _ (VerbWants host told files component verbs.Features) c.features_step.result
    (λ intent wants. (c.in_ok-base.base, c.in_ok-base.ensures, wants)) (c.features_step.ensures.wants files))
