use Rattle.std.proofs.Common.{ℕ, List, ◌≡◌, ◌+◌, ◌/◌, ◌%◌, ◌<◌, [], ◌∷◌, ◌++◌, arith, subst, sym, ap, ◌∙◌, append_assoc}
use Rattle.std.specs.Prelude.{OnOk}
use Rattle.ext_lines.specs.Numbers.{octal}
use Rattle.ext_lines.proofs.ForCallers.{octal_digit, octal_step}
use Rattle.ext_index_lines.proofs.printing.+put_octal.Goals as goal
use Rattle.ext_index_lines.proofs.printing.+put_octal.Goals.{then-number-ge8+in_ok-put_octal, else-number-ge8}

octal_digit_mod : (n : ℕ) → n < 8 → (48 + n % 8) ∷ [] ≡ octal n
octal_digit_mod n small = let same : n % 8 ≡ n = omega arith in ap (λ d. (48 + d) ∷ []) same ∙ sym (octal_digit n small)

pub returns : goal.returns
returns g n c = elim c.if-number-ge8.branch [
  | then-number-ge8+in_ok-put_octal w ↦ λ before held.
      let P : List ℕ → Type 0 = λ xs. OnOk c.put_byte.result (g.O.Out.holds c.put_byte.new.self xs) in
      let after_higher = before ++ octal (c.args.number / 8) in
      let step = sym (octal_step c.args.number w.if-number-ge8.true (omega (arith, c.ranges.number.fits))) in
      let inner = w.in_ok-put_octal.ensures before held in
      subst P (append_assoc before (octal (c.args.number / 8)) ((48 + c.args.number % 8) ∷ []) ∙ ap (λ xs. before ++ xs) step)
      (c.put_byte.ensures after_higher (subst (λ o. g.O.Out.holds o after_higher) (sym w.out-is) inner))
  | else-number-ge8 w ↦ λ before held.
      let P : List ℕ → Type 0 = λ xs. OnOk c.put_byte.result (g.O.Out.holds c.put_byte.new.self xs) in
      subst P (ap (λ xs. before ++ xs) (octal_digit_mod c.args.number w.if-number-ge8.false))
      (c.put_byte.ensures before (subst (λ o. g.O.Out.holds o before) (sym w.out-is) held))
]
