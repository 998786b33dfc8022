use Rattle.std.proofs.Common.{◌∙◌, inr, refl, sym, subst}
use Rattle.std.specs.Prelude.{IfErr, IfOk}
use Rattle.std.specs.Option.{option_copied}
use Rattle.std.proofs.lemmas.Result.{err_from_is_err_and}
use Rattle.ext_feature.specs.Active.{IsUpdateFile}
use Rattle.ext_intents.specs.Causes.{StepCause}
use Rattle.ext_intents.specs.Updates.{AreNoTransfers}
use Rattle.ext_intents.proofs.UpdateStepLemmas.{active_cause, active_none}
use Rattle.ext_intents.proofs.updating.vacuum_step.Goals as goal

pub returns-in_err-not_active-in-Err-clause-cause : goal.returns-in_err-not_active-in-Err-clause-cause
returns-in_err-not_active-in-Err-clause-cause g c = λ before after.
    let p = err_from_is_err_and c.from_residual-in_err-not_active-in-Err.result c.from_residual-in_err-not_active-in-Err.ensures.1 in
    let told = g.H.Shelf.told c.args.shelf.now in
    let old = g.H.Shelf.faults c.args.shelf.now in
    let new = g.H.Shelf.faults c.active.new.shelf in
    let component = option_copied c.args.component in
    rw (p.1, p.2)
    (subst (λ r. IfErr r (StepCause (IsUpdateFile c.args.base.now component) c.args.host.now told old new before after)) (sym c.not_active.ensures ∙ c.in_err-not_active-in-Err.was)
    (active_cause c.args.host.now c.args.base.now c.requires.base component told old new before after c.in-Err.failed c.in-Err.ensures.gives))

pub returns-in_ok-not_active-in-Err-clause-wants : goal.returns-in_ok-not_active-in-Err-clause-wants
returns-in_ok-not_active-in-Err-clause-wants g c = λ files.
    let told = g.H.Shelf.told c.args.shelf.now in
    let old = g.H.Shelf.faults c.args.shelf.now in
    let new = g.H.Shelf.faults c.active.new.shelf in
    let component = option_copied c.args.component in
    inr (
      _,
      subst (λ r. IfOk r (AreNoTransfers told files c.args.host.now c.args.base.now component)) (sym c.not_active.ensures ∙ c.in_ok-not_active-in-Err.was)
          (active_none c.args.host.now c.args.base.now c.requires.base component told old new files c.in-Err.failed c.in-Err.ensures.gives),
      refl,
    )
