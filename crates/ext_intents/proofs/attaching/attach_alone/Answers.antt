use Rattle.std.proofs.Common.{[], ◌∙◌, sym, subst}
use Rattle.std.specs.Prelude.{IfErr, IfOk}
use Rattle.std.proofs.lemmas.Result.{err_from_is_err_and}
use Rattle.ext_intents.specs.Causes.{ViewCause}
use Rattle.ext_intents.specs.Portable.{AskWants, IsAskFile}
use Rattle.ext_intents.specs.declared.intent.Intent.TheVariants.{Refuses}
use Rattle.ext_intents.proofs.PortableLemmas.{attached_cause, attached_none, attached_wants}
use Rattle.ext_intents.proofs.attaching.attach_alone.Goals as goal

pub returns-in_err-not_attached-in-Err-clause-cause : goal.returns-in_err-not_attached-in-Err-clause-cause
returns-in_err-not_attached-in-Err-clause-cause g c =
    let p = err_from_is_err_and c.from_residual.result c.from_residual.ensures.1 in
    let host = c.args.host.now in
    let told = g.H.Shelf.told c.args.shelf.now in
    let old = g.H.Shelf.faults c.args.shelf.now in
    let new = g.H.Shelf.faults c.attach_image.new.shelf in
    rw (p.1, p.2)
    (subst (λ r. IfErr r (ViewCause (IsAskFile host c.args.again c.args.ask.now []) host told old new)) (sym c.not_attached.ensures ∙ c.in_err-not_attached-in-Err.was)
    (attached_cause host told old new c.args.again c.args.ask.now c.in-Err.failed c.in-Err.ensures.gives))

pub returns-in-Ok-clause-wants : goal.returns-in-Ok-clause-wants
returns-in-Ok-clause-wants g c =
    let host = c.args.host.now in
    let told = g.H.Shelf.told c.args.shelf.now in
    let old = g.H.Shelf.faults c.args.shelf.now in
    let new = g.H.Shelf.faults c.attach_image.new.shelf in
    subst (AskWants host told c.args.again c.args.ask.now []) (sym c.attached.ensures)
    (attached_wants host told old new c.args.again c.args.ask.now c.in-Ok.attach c.in-Ok.ensures.gives c.in-Ok.ensures.next)

pub returns-in_ok-not_attached-in-Err-clause-wants : goal.returns-in_ok-not_attached-in-Err-clause-wants
returns-in_ok-not_attached-in-Err-clause-wants g c =
    let host = c.args.host.now in
    let told = g.H.Shelf.told c.args.shelf.now in
    let old = g.H.Shelf.faults c.args.shelf.now in
    let new = g.H.Shelf.faults c.attach_image.new.shelf in
    subst (λ r. IfOk r (λ refusal. AskWants host told c.args.again c.args.ask.now [] (Refuses refusal))) (sym c.not_attached.ensures ∙ c.in_ok-not_attached-in-Err.was)
    (attached_none host told old new c.args.again c.args.ask.now c.in-Err.failed c.in-Err.ensures.gives)
