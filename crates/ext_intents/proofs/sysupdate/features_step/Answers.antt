use Rattle.std.proofs.Common.{sym, subst}
use Rattle.std.specs.Prelude.{IfErr}
use Rattle.std.specs.Option.{option_copied}
use Rattle.ext_feature.specs.Features.{IsFeatureFile}
use Rattle.ext_intents.specs.Causes.{ViewCause}
use Rattle.ext_intents.proofs.UpdateStepLemmas.{featured_cause}
use Rattle.ext_intents.proofs.sysupdate.features_step.Goals as goal

pub returns-in-Err-clause-cause : goal.returns-in-Err-clause-cause
returns-in-Err-clause-cause g c =
    let told = g.H.Shelf.told c.args.shelf.now in
    let old = g.H.Shelf.faults c.args.shelf.now in
    let new = g.H.Shelf.faults c.features.new.shelf in
    let component = option_copied c.args.component in
    subst (λ r. IfErr r (ViewCause (IsFeatureFile c.args.base.now component) c.args.host.now told old new)) (sym c.not_featured.ensures)
    (featured_cause c.args.host.now c.args.base.now c.requires.base component told old new c.in-Err.failed c.in-Err.ensures.gives)
