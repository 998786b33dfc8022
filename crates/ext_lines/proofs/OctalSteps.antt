-- The octal digits of a number: those of its eighth, and one more.
use Rattle.std.proofs.Common.{◌≡◌, ℕ, suc, zero, ◌+◌, ◌/◌, ◌%◌, ◌^◌, ◌<◌, ◌≤◌, false, cond, List, [], ◌∷◌, ◌++◌, refl, sym, ap, ◌∙◌, append_assoc, eq-eqb, ⊎_elim, arith}
use Rattle.std.specs.Fmt.{digits, digits_onto, digit_glyph}
use Rattle.std.proofs.lemmas.Bool.{cases_lt, ne_eqb}

abbrev spell : ℕ → ℕ → List ℕ → List ℕ
spell k n acc = digits_onto k 8 false n acc

abbrev last_glyph : ℕ → ℕ
last_glyph n = digit_glyph false (n % 8)

spell_last : (k n : ℕ) (acc : List ℕ) → n < 8 → spell (suc k) n acc ≡ last_glyph n ∷ acc
spell_last k n acc h = ap (λ t. cond t (last_glyph n ∷ acc) (spell k (n / 8) (last_glyph n ∷ acc))) (eq-eqb (n / 8) 0 (omega arith))

spell_next : (k n : ℕ) (acc : List ℕ) → 8 ≤ n → spell (suc k) n acc ≡ spell k (n / 8) (last_glyph n ∷ acc)
spell_next k n acc h = ap (λ t. cond t (last_glyph n ∷ acc) (spell k (n / 8) (last_glyph n ∷ acc))) (ne_eqb (n / 8) 0 (λ e. omega arith))

spell-append : (k n : ℕ) (acc : List ℕ) → spell k n acc ≡ spell k n [] ++ acc
spell-append zero n acc = refl
spell-append (suc k) n acc = ⊎_elim
    (λ l. spell_last k n acc l ∙ ap (λ x. x ++ acc) (sym (spell_last k n [] l)))
    (λ l. spell_next k n acc l ∙ spell-append k (n / 8) (last_glyph n ∷ acc) ∙ sym (append_assoc (spell k (n / 8) []) (last_glyph n ∷ []) acc) ∙ ap (λ x. x ++ acc) (sym (spell_next k n [] l ∙ spell-append k (n / 8) (last_glyph n ∷ []))))
    (cases_lt n 8)

-- how many digits are allowed does not matter once they are enough
spell_enough : (j k n : ℕ) (acc : List ℕ) → n < 8 ^ suc j → n < 8 ^ suc k → spell (suc j) n acc ≡ spell (suc k) n acc
spell_enough zero k n acc p q = spell_last zero n acc (omega arith) ∙ sym (spell_last k n acc (omega arith))
spell_enough (suc j) zero n acc p q = spell_last (suc j) n acc (omega arith) ∙ sym (spell_last zero n acc (omega arith))
spell_enough (suc j) (suc k) n acc p q = ⊎_elim
    (λ l. spell_last (suc j) n acc l ∙ sym (spell_last (suc k) n acc l))
    (λ l. spell_next (suc j) n acc l ∙ spell_enough j k (n / 8) (last_glyph n ∷ acc) (omega arith) (omega arith) ∙ sym (spell_next (suc k) n acc l))
    (cases_lt n 8)

glyph : (n : ℕ) → last_glyph n ≡ 48 + n % 8
glyph n = grind (arith)

-- a number below 8 is one octal digit
pub octal_digit : (n : ℕ) → n < 8 → digits 8 false n ≡ (48 + n) ∷ []
unfolding digits
octal_digit n small =
    let same : n % 8 ≡ n = omega arith in spell_last 63 n [] small ∙ ap (λ (x : ℕ). x ∷ []) (glyph n ∙ omega arith)

-- the last octal digit of a larger number, after those of its eighth
pub octal_step : (n : ℕ) → 8 ≤ n → n < 8 ^ 64 → digits 8 false n ≡ digits 8 false (n / 8) ++ (48 + n % 8) ∷ []
unfolding digits
octal_step n h small =
    spell_next 63 n [] h ∙ spell_enough 62 63 (n / 8) (last_glyph n ∷ []) (omega arith) (omega arith) ∙ spell-append 64 (n / 8) (last_glyph n ∷ [])
    ∙ (λ i. spell 64 (n / 8) [] ++ glyph n i ∷ [])

-- the digits of a number that has three
pub three_octal : (n : ℕ) → 64 ≤ n → n < 512 → digits 8 false n ≡ (48 + n / 64) ∷ (48 + n / 8 % 8) ∷ (48 + n % 8) ∷ []
three_octal n low high =
    let first : n / 8 / 8 ≡ n / 64 = omega arith in
    octal_step n (omega arith) (omega arith)
    ∙ ap (λ ds. ds ++ (48 + n % 8) ∷ []) (octal_step (n / 8) (omega arith) (omega arith) ∙ ap (λ ds. ds ++ (48 + n / 8 % 8) ∷ []) (octal_digit (n / 8 / 8) (omega arith) ∙ ap (λ d. (48 + d) ∷ []) first))
