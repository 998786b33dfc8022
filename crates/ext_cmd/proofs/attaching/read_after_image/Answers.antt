use Rattle.std.proofs.Common.{ap, length, refl, arith}
use Rattle.std.proofs.lemmas.Result.{err_from_is_err_and}
use Rattle.ext_cmd.proofs.AttachLemmas.{after_done, after_read, after_refused, after_start}
use Rattle.ext_cmd.proofs.attaching.read_after_image.Goals as goal

pub words-init : goal.words-init
words-init c = rw (c.in_ok-options.ensures, c.new-after.ensures, c.copy-rest.ensures) (after_start c.args.before.now c.args.words.now c.args.first c.requires.options)

pub returns-in-None : goal.returns-in-None
returns-in-None c = after_done c.args.before.now c.args.words.now c.args.first c.words.options c.words.after c.words.rest c.words.place c.words.invariant c.in-None.ensures

pub returns-in_err-next-in-Some : goal.returns-in_err-next-in-Some
returns-in_err-next-in-Some c =
    let p = err_from_is_err_and c.from_residual-in_err-next-in-Some.result c.from_residual-in_err-next-in-Some.ensures.1 in
    rw (p.1, p.2) (after_refused c.args.before.now c.args.words.now c.args.first c.words.options c.words.after c.words.rest c.words.place c.in-Some.word.now c.in-Some.more _ c.words.invariant c.in-Some.ensures c.in_err-next-in-Some.ensures)

pub overflow_add-place : goal.overflow_add-place
overflow_add-place c = omega (arith, c.words.invariant.counted, ap length c.in-Some.ensures, c.requires.few)

pub words-preserved : goal.words-preserved
words-preserved c =
    let next = c.in_ok-next-in-Some.ensures in
    rw c.in_ok-push-in-Some.ensures.ok (after_read c.args.before.now c.args.words.now c.args.first c.words.options _ c.words.after c.words.rest c.words.place _ c.in_ok-next-in-Some.next c.in-Some.word.now c.in-Some.more refl c.words.invariant c.in-Some.ensures next.0 next.1 next.2)
