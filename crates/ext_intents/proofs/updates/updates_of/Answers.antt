use Rattle.std.proofs.Common.{◌∙◌, inl, sym, subst}
use Rattle.std.specs.Prelude.{IfErr, IfOk}
use Rattle.std.specs.Option.{option_copied}
use Rattle.std.proofs.lemmas.Result.{err_from_is_err_and}
use Rattle.ext_feature.specs.Active.{IsUpdateFile}
use Rattle.ext_intents.specs.Causes.{StepCause}
use Rattle.ext_intents.specs.Updates.{AreNoTransfers}
use Rattle.ext_intents.proofs.UpdateStepLemmas.{active_cause, active_none}
use Rattle.ext_intents.proofs.updates.updates_of.Goals as goal

pub returns-in_err-not_active-in-Err-clause-cause : goal.returns-in_err-not_active-in-Err-clause-cause
returns-in_err-not_active-in-Err-clause-cause g c =
    let p = err_from_is_err_and c.from_residual.result c.from_residual.ensures.1 in
    let told = g.H.Shelf.told c.args.shelf.now in
    let old = g.H.Shelf.faults c.args.shelf.now in
    let new = g.H.Shelf.faults c.active.new.shelf in
    let faults = (g.P.Depot.state c.args.depot.now).faults in
    let component = option_copied c.args.component in
    rw (p.1, p.2)
    (subst (λ r. IfErr r (StepCause (IsUpdateFile c.args.base.now component) c.args.host.now told old new faults faults)) (sym c.not_active.ensures ∙ c.in_err-not_active-in-Err.was)
    (active_cause c.args.host.now c.args.base.now c.requires.base component told old new faults faults c.in-Err.failed c.in-Err.ensures.gives))

pub returns-in_ok-not_active-in-Err-clause-looks : goal.returns-in_ok-not_active-in-Err-clause-looks
returns-in_ok-not_active-in-Err-clause-looks g c =
    let told = g.H.Shelf.told c.args.shelf.now in
    let old = g.H.Shelf.faults c.args.shelf.now in
    let new = g.H.Shelf.faults c.active.new.shelf in
    let files = (g.P.Depot.state c.args.depot.now).contents in
    let component = option_copied c.args.component in
    inl (subst (λ r. IfOk r (AreNoTransfers told files c.args.host.now c.args.base.now component)) (sym c.not_active.ensures ∙ c.in_ok-not_active-in-Err.was)
    (active_none c.args.host.now c.args.base.now c.requires.base component told old new files c.in-Err.failed c.in-Err.ensures.gives))
