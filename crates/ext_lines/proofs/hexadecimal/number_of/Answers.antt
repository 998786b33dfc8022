use Rattle.std.proofs.Common.{◌≡◌, ℕ, ◌/◌, ◌%◌, List, [], ◌∷◌, get_or, ap, ◌∙◌, arith}
use Rattle.ext_lines.specs.Hexadecimal.{five_digits}
use Rattle.ext_lines.proofs.HexadecimalLemmas.{five_give, read_digit}
use Rattle.ext_lines.proofs.hexadecimal.number_of.Goals as goal

pub returns-clause-read : goal.returns-clause-read
returns-clause-read c =
    λ n small e.
    let at : (k : ℕ) → get_or (c.args.a ∷ c.args.b ∷ c.args.c ∷ c.args.d ∷ c.args.e ∷ []) k 0 ≡ get_or (five_digits n) k 0 = λ k. ap (λ (l : List ℕ). get_or l k 0) e in
    five_give n c.from.result c.from-2.result c.from-3.result c.from-4.result c.from-5.result small
    (c.from.ensures ∙ read_digit (n / 65536) c.args.a c.value_of_digit.result (omega arith) (at 0) c.value_of_digit.ensures.value)
    (c.from-2.ensures ∙ read_digit (n / 4096 % 16) c.args.b c.value_of_digit-2.result (omega arith) (at 1) c.value_of_digit-2.ensures.value)
    (c.from-3.ensures ∙ read_digit (n / 256 % 16) c.args.c c.value_of_digit-3.result (omega arith) (at 2) c.value_of_digit-3.ensures.value)
    (c.from-4.ensures ∙ read_digit (n / 16 % 16) c.args.d c.value_of_digit-4.result (omega arith) (at 3) c.value_of_digit-4.ensures.value)
    (c.from-5.ensures ∙ read_digit (n % 16) c.args.e c.value_of_digit-5.result (omega arith) (at 4) c.value_of_digit-5.ensures.value)
