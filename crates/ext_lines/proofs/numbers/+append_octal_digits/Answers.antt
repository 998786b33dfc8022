use Rattle.std.proofs.Common.{◌≡◌, ℕ, ◌+◌, ◌/◌, ◌%◌, ◌<◌, [], ◌∷◌, ◌++◌, sym, ap, ◌∙◌, append_assoc, arith}
use Rattle.ext_lines.specs.Numbers.{octal}
use Rattle.ext_lines.proofs.OctalSteps.{octal_digit, octal_step}
use Rattle.ext_lines.proofs.numbers.+append_octal_digits.Goals as goal
use Rattle.ext_lines.proofs.numbers.+append_octal_digits.Goals.{then-number-ge8+in_ok-append_octal_digits, else-number-ge8}

octal_digit_mod : (n : ℕ) → n < 8 → octal n ≡ (48 + n % 8) ∷ []
octal_digit_mod n small =
    let same : n ≡ n % 8 = omega arith in octal_digit n small ∙ ap (λ d. (48 + d) ∷ []) same

pub returns-clause-ok : goal.returns-clause-ok
returns-clause-ok n c = elim c.if-number-ge8.branch [
  | then-number-ge8+in_ok-append_octal_digits w ↦
      c.in_ok-push.ensures.items ∙ ap (λ t. t.items ++ (48 + c.args.number % 8) ∷ []) w.text-is ∙ ap (λ t. t ++ (48 + c.args.number % 8) ∷ []) w.in_ok-append_octal_digits.ensures.ok
      ∙ append_assoc c.args.text.now.items (octal (c.args.number / 8)) ((48 + c.args.number % 8) ∷ []) ∙ ap (λ t. c.args.text.now.items ++ t) (sym (octal_step c.args.number w.if-number-ge8.true (omega (arith, c.ranges.number.fits))))
  | else-number-ge8 w ↦
      c.in_ok-push.ensures.items ∙ ap (λ t. t.items ++ (48 + c.args.number % 8) ∷ []) w.text-is ∙ ap (λ t. c.args.text.now.items ++ t) (sym (octal_digit_mod c.args.number w.if-number-ge8.false))
]
