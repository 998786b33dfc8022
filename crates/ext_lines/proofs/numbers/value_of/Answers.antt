use Rattle.std.proofs.Common.{◌<◌, length, subst, sym, ◌∙◌, arith}
use Rattle.std.proofs.lemmas.Int.Digits.{digits_more}
use Rattle.std.specs.Char.{digit_value}
use Rattle.ext_lines.proofs.NumbersLemmas.{digit_within, value_more, value_within}
use Rattle.ext_lines.proofs.numbers.value_of.Goals as goal

pub returns-in_err-digit : goal.returns-in_err-digit
returns-in_err-digit c =
    rw c.from_residual.ensures (λ all within. c.in_err-digit.ensures.value (subst (λ b. digit_value b < c.args.base) (sym c.from.ensures) (digit_within c.args.base c.args.digits.now c.digits.byte-index (omega arith) all)))

pub returns-in_err-value : goal.returns-in_err-value
returns-in_err-value c =
    rw c.from_residual-in_err-value.ensures (λ all within.
    let inside : c.digits.byte-index < length c.args.digits.now = omega arith in
    let more = value_more c.args.base c.args.digits.now c.digits.byte-index _ _ _ inside c.digits.invariant.value c.in_ok-digit.ensures.value.1 c.from.ensures in
    c.in_err-value.ensures (value_within c.args.base c.args.most c.args.digits.now _ _ c.requires.low more within))

pub digits-preserved : goal.digits-preserved
digits-preserved c =
    let inside : c.digits.byte-index < length c.args.digits.now = omega arith in
    let more = value_more c.args.base c.args.digits.now c.digits.byte-index _ _ _ inside c.digits.invariant.value c.in_ok-digit.ensures.value.1 c.from.ensures in
    record {
      digits = digits_more c.args.base c.args.digits.now c.digits.byte-index inside c.digits.invariant.digits (subst (λ b. digit_value b < c.args.base) c.from.ensures c.in_ok-digit.ensures.value.0);
      value = c.in_ok-value.ensures.1 ∙ more;
      within = rw c.in_ok-value.ensures.1 c.in_ok-value.ensures.0;
    }
