use Rattle.std.proofs.Common.{sym, subst}
use Rattle.std.specs.Prelude.{IfErr, IfOk}
use Rattle.std.proofs.lemmas.Result.{err_from_is_err_and}
use Rattle.ext_intents.specs.Causes.{ViewCause}
use Rattle.ext_intents.specs.Portable.{AskWants, IsAskFile}
use Rattle.ext_intents.specs.declared.intent.Intent.TheVariants.{Refuses}
use Rattle.ext_intents.proofs.PortableLemmas.{extended_cause, extended_none, extended_wants}
use Rattle.ext_intents.proofs.attaching.attach_with.Goals as goal

pub returns-in_err-not_extended-in-Err-clause-cause : goal.returns-in_err-not_extended-in-Err-clause-cause
returns-in_err-not_extended-in-Err-clause-cause g c =
    let p = err_from_is_err_and c.from_residual.result c.from_residual.ensures.1 in
    let host = c.args.host.now in
    let told = g.H.Shelf.told c.args.shelf.now in
    let old = g.H.Shelf.faults c.args.shelf.now in
    let new = g.H.Shelf.faults c.attach_images.new.shelf in
    let all = c.args.extensions in
    rw (p.1, p.2)
    (subst (λ r. IfErr r (ViewCause (IsAskFile host c.args.again c.args.ask.now all) host told old new)) c.in_err-not_extended-in-Err.was
    (extended_cause host told old new c.args.again c.args.ask.now all c.in-Err.failed c.not_extended.result c.requires.some c.in-Err.ensures.gives c.not_extended.ensures))

pub returns-in-Ok-clause-wants : goal.returns-in-Ok-clause-wants
returns-in-Ok-clause-wants g c =
    let host = c.args.host.now in
    let told = g.H.Shelf.told c.args.shelf.now in
    let old = g.H.Shelf.faults c.args.shelf.now in
    let new = g.H.Shelf.faults c.attach_images.new.shelf in
    let all = c.args.extensions in
    subst (AskWants host told c.args.again c.args.ask.now all) (sym c.attached.ensures)
    (extended_wants host told old new c.args.again c.args.ask.now all c.in-Ok.attach c.requires.some c.in-Ok.ensures.gives c.in-Ok.ensures.next)

pub returns-in_ok-not_extended-in-Err-clause-wants : goal.returns-in_ok-not_extended-in-Err-clause-wants
returns-in_ok-not_extended-in-Err-clause-wants g c =
    let host = c.args.host.now in
    let told = g.H.Shelf.told c.args.shelf.now in
    let old = g.H.Shelf.faults c.args.shelf.now in
    let new = g.H.Shelf.faults c.attach_images.new.shelf in
    let all = c.args.extensions in
    subst (λ r. IfOk r (λ refusal. AskWants host told c.args.again c.args.ask.now all (Refuses refusal))) c.in_ok-not_extended-in-Err.was
    (extended_none host told old new c.args.again c.args.ask.now all c.in-Err.failed c.not_extended.result c.requires.some c.in-Err.ensures.gives c.not_extended.ensures)
