use Rattle.std.proofs.Common.{◌∙◌, sym, subst}
use Rattle.std.specs.Prelude.{IfErr, IfOk}
use Rattle.std.proofs.lemmas.Result.{err_from_is_err_and}
use Rattle.ext_port.specs.Files.{IsInspectFile}
use Rattle.ext_intents.specs.Causes.{ViewCause}
use Rattle.ext_intents.specs.Portable.{InspectWants}
use Rattle.ext_intents.specs.declared.intent.Intent.TheVariants.{Refuses}
use Rattle.ext_intents.proofs.PortableLemmas.{inspected_cause, inspected_none}
use Rattle.ext_intents.proofs.portable.inspect_step.Goals as goal

pub returns-in_err-not_inspected-in-Err-clause-cause : goal.returns-in_err-not_inspected-in-Err-clause-cause
returns-in_err-not_inspected-in-Err-clause-cause g c =
    let p = err_from_is_err_and c.from_residual-in_err-not_inspected-in-Err.result c.from_residual-in_err-not_inspected-in-Err.ensures.1 in
    let host = c.args.host.now in
    let told = g.H.Shelf.told c.args.shelf.now in
    let old = g.H.Shelf.faults c.args.shelf.now in
    let new = g.H.Shelf.faults c.inspect.new.shelf in
    rw (p.1, p.2)
    (subst (λ r. IfErr r (ViewCause (IsInspectFile host c.args.image.now) host told old new)) (sym c.not_inspected.ensures ∙ c.in_err-not_inspected-in-Err.was)
    (inspected_cause host told old new c.in_ok-base.base c.in_ok-base.ensures c.args.image.now c.args.prefixes.now c.in-Err.failed c.in-Err.ensures.gives))

pub returns-clause-wants : goal.returns-clause-wants
returns-clause-wants g c =
    let host = c.args.host.now in
    let told = g.H.Shelf.told c.args.shelf.now in
    let old = g.H.Shelf.faults c.args.shelf.now in
    let new = g.H.Shelf.faults c.inspect.new.shelf in
    subst (λ r. IfOk r (λ refusal. InspectWants host told c.args.image.now c.args.prefixes.now (Refuses refusal))) (sym c.not_inspected.ensures ∙ c.in_ok-not_inspected-in-Err.was)
    (inspected_none host told old new c.in_ok-base.base c.in_ok-base.ensures c.args.image.now c.args.prefixes.now c.in-Err.failed c.in-Err.ensures.gives)
