use Rattle.std.proofs.Common.{ℕ, List, ap, length, refl, subst, sym, arith, ◌∙◌}
use Rattle.std.proofs.lemmas.Result.{err_from_is_err_and}
use Rattle.ext_cmd.specs.Grammar.{Spells}
use Rattle.ext_cmd.specs.Portable.{MayJoin, option_word}
use Rattle.ext_cmd.specs.PortReading.{ReadsAttached}
use Rattle.ext_cmd.specs.Reading.{RefusesWord}
use Rattle.ext_cmd.specs.declared.portable.AttachOption.{AttachOption}
use Rattle.ext_cmd.proofs.AttachLemmas.{before_missing, before_next, before_read, before_start, before_wrong}
use Rattle.ext_cmd.proofs.attaching.read_attach_words.Goals as goal

pub words-init : goal.words-init
words-init c = rw (c.new-before.ensures, c.copy-rest.ensures) (before_start c.args.words.now)

pub returns-in-None : goal.returns-in-None
returns-in-None c = before_missing c.args.words.now c.words.before c.words.rest c.words.place c.words.invariant c.in-None.ensures

pub read_from_image-requires-clause-options : goal.read_from_image-requires-clause-options
read_from_image-requires-clause-options c = c.words.invariant.are

pub read_from_image-requires-clause-few : goal.read_from_image-requires-clause-few
read_from_image-requires-clause-few c = omega (arith, c.words.invariant.counted, ap length c.in-Some.ensures, c.are_countable.ensures)

pub returns-then-not-is_dashed : goal.returns-then-not-is_dashed
returns-then-not-is_dashed c =
    before_read c.args.words.now c.words.before c.words.rest c.words.place c.read_from_image.result c.words.invariant
    (subst (λ (ws : List (List ℕ)). ReadsAttached c.words.before ws c.words.place c.read_from_image.result) (sym c.in-Some.ensures) c.read_from_image.ensures)

pub returns-in_err-option-in-Some : goal.returns-in_err-option-in-Some
returns-in_err-option-in-Some c =
    let p = err_from_is_err_and c.from_residual.result c.from_residual.ensures.1 in
    rw (p.1, p.2) (before_wrong c.args.words.now c.words.before c.words.rest c.words.place c.in-Some.word.now c.in-Some.more _ c.words.invariant c.in-Some.ensures (sym c.is_dashed.ensures ∙ c.if-not-is_dashed.false)
    (subst (λ (options : List AttachOption). RefusesWord (Spells option_word (MayJoin options)) c.in-Some.word.now c.words.place c.in_err-option-in-Some.field-0.0) c.as_slice.ensures c.in_err-option-in-Some.ensures))

pub overflow_add-place : goal.overflow_add-place
overflow_add-place c = omega (arith, c.words.invariant.counted, ap length c.in-Some.ensures, c.are_countable.ensures)

pub words-preserved : goal.words-preserved
words-preserved c =
    let option = c.in_ok-option-in-Some.ensures in
    rw c.in_ok-push-in-Some.ensures.ok (before_next c.args.words.now c.words.before c.words.rest c.words.place _ c.in_ok-option-in-Some.option c.in-Some.word.now c.in-Some.more refl c.words.invariant c.in-Some.ensures
    (subst (λ (options : List AttachOption). MayJoin options c.in_ok-option-in-Some.option) c.as_slice.ensures option.0) option.1)
