-- Numbers of any length are ordered by their digits: the longer is larger where no zero leads, and of as many digits
-- the first that differs decides.
use Rattle.std.proofs.Common.{◌≡◌, ℕ, ◌+◌, ◌*◌, ◌<◌, ◌≤◌, Bool, true, false, eqb, List, [], ◌∷◌, length, refl, sym, ap, ◌∙◌, arith}
use Rattle.std.specs.Prelude.{◌⊎◌}
use Rattle.std.proofs.Common.{inl, inr}
use Rattle.std.specs.Char.{digit_value, is_ascii_digit}
use Rattle.std.specs.Cmp.{nat_cmp_is}
use Rattle.std.specs.Cmp.Lexicographic.{slice_cmp}
use Rattle.std.specs.List.{AllPass}
use Rattle.std.specs.Ordering.{nat_cmp, ordering_then}
use Rattle.std.specs.Str.Parse.{digits_value, digits_value_after}
use Rattle.std.specs.declared.cmp.Ordering.TheVariants.{Less, Equal, Greater}
use Rattle.std.proofs.lemmas.Bool.{cases_lt, cases_Bool, eqb-true}
use Rattle.std.proofs.lemmas.Bool.Decides.{nat_tests}
use Rattle.std.proofs.lemmas.List.Elements.{All-head, All-tail}
use Rattle.std.proofs.lemmas.Str.{digit_value_digit}
use Rattle.ext_vers.specs.Token.{bytes_after}

-- each byte is one of `0` to `9`
abbrev pub Digits : List ℕ → Type 0
Digits [] = Unit {0}
Digits (c ∷ cs) = (digit_value c + 48 ≡ c) × (48 ≤ c) × (c ≤ 57) × Digits cs

-- the first byte is no `0`
abbrev pub NoZero : List ℕ → Type 0
NoZero [] = Unit {0}
NoZero (c ∷ cs) = eqb c 48 ≡ false

three : (m n : ℕ) → (m < n) ⊎ ((m ≡ n) ⊎ (n < m))
three m n = elim (cases_lt m n) [ inl h ↦ inl h | inr h ↦ elim (cases_lt n m) [ inl k ↦ inr (inr k) | inr k ↦ inr (inl (omega arith)) ] ]

pub nat_less : (a b : ℕ) → a < b → nat_cmp a b ≡ Less
nat_less a b h = sym (nat_cmp_is a b Less h)

pub nat_same : (a b : ℕ) → a ≡ b → nat_cmp a b ≡ Equal
nat_same a b h = sym (nat_cmp_is a b Equal h)

pub nat_more : (a b : ℕ) → b < a → nat_cmp a b ≡ Greater
nat_more a b h = sym (nat_cmp_is a b Greater h)

step : (m n a x b y : ℕ) → a + 48 ≡ x → x ≤ 57 → b + 48 ≡ y → m < n → m * 10 + a < n * 10 + b
step m n a x b y ea h eb less = omega arith

step_same : (m a x b y : ℕ) → a + 48 ≡ x → b + 48 ≡ y → x < y → m * 10 + a < m * 10 + b
step_same m a x b y ea eb less = omega arith

some : (m a : ℕ) → 0 < m → 0 < m * 10 + a
some m a h = omega arith

nonzero : (a y : ℕ) → a + 48 ≡ y → eqb y 48 ≡ false → 0 < 0 * 10 + a
nonzero a y e h = grind (arith, nat_tests)

is_digit : (x : ℕ) → is_ascii_digit x ≡ true → (48 ≤ x) × (x ≤ 57)
is_digit x h = grind (arith, nat_tests)

-- as many digits after a larger number write a larger one
pub larger : (xs ys : List ℕ) (m n : ℕ) → Digits xs → Digits ys → length xs ≡ length ys → m < n → digits_value_after 10 m xs < digits_value_after 10 n ys
larger [] [] m n dx dy e h = h
larger [] (y ∷ ys) m n dx dy e h = absurd (omega arith)
larger (x ∷ xs) [] m n dx dy e h = absurd (omega arith)
larger (x ∷ xs) (y ∷ ys) m n dx dy e h =
    larger xs ys (m * 10 + digit_value x) (n * 10 + digit_value y) dx.3 dy.3 (omega arith) (step m n (digit_value x) x (digit_value y) y dx.0 dx.2 dy.0 h)

-- digits after a number that is not 0 write more than fewer digits, or as many, do
pub longer : (xs ys : List ℕ) (m : ℕ) → Digits xs → Digits ys → 0 < m → length ys ≤ length xs → digits_value_after 10 0 ys < digits_value_after 10 m xs
longer [] [] m dx dy h le = h
longer [] (y ∷ ys) m dx dy h le = absurd (omega arith)
longer (x ∷ xs) ys m dx dy h le =
    elim (cases_lt (length xs) (length ys)) [
      | inl more ↦ larger ys (x ∷ xs) 0 m dy dx (omega arith) h
      | inr less ↦ longer xs ys (m * 10 + digit_value x) dx.3 dy (some m (digit_value x) h) less
    ]

-- of as many digits, the first that differs decides
pub same_length : (xs ys : List ℕ) (n : ℕ) → Digits xs → Digits ys → length xs ≡ length ys → nat_cmp (digits_value_after 10 n xs) (digits_value_after 10 n ys) ≡ slice_cmp nat_cmp xs ys
same_length [] [] n dx dy e = nat_same n n refl
same_length [] (y ∷ ys) n dx dy e = absurd (omega arith)
same_length (x ∷ xs) [] n dx dy e = absurd (omega arith)
same_length (x ∷ xs) (y ∷ ys) n dx dy e =
    let lengths : length xs ≡ length ys = omega arith in
    elim (three x y) [
      | inl h ↦ nat_less _ _ (larger xs ys (n * 10 + digit_value x) (n * 10 + digit_value y) dx.3 dy.3 lengths (step_same n (digit_value x) x (digit_value y) y dx.0 dy.0 h))
          ∙ sym (ap (λ o. ordering_then o (slice_cmp nat_cmp xs ys)) (nat_less x y h))
      | inr other ↦ elim other [
        | inl h ↦ ap (λ k. nat_cmp (digits_value_after 10 (n * 10 + digit_value x) xs) (digits_value_after 10 (n * 10 + digit_value k) ys)) (sym h)
            ∙ same_length xs ys (n * 10 + digit_value x) dx.3 dy.3 lengths
            ∙ sym (ap (λ o. ordering_then o (slice_cmp nat_cmp xs ys)) (nat_same x y h))
        | inr h ↦ nat_more _ _ (larger ys xs (n * 10 + digit_value y) (n * 10 + digit_value x) dy.3 dx.3 (sym lengths) (step_same n (digit_value y) y (digit_value x) x dy.0 dx.0 h))
            ∙ sym (ap (λ o. ordering_then o (slice_cmp nat_cmp xs ys)) (nat_more x y h))
      ]
    ]

-- a leading zero changes no number
pub value_after_zeros : (xs : List ℕ) → digits_value 10 (bytes_after (λ b. eqb b 48) xs) ≡ digits_value 10 xs
value_after_zeros [] = refl
value_after_zeros (x ∷ xs) =
    elim (cases_Bool (eqb x 48)) [
      | inl h ↦ rw (h, eqb-true x 48 h) (value_after_zeros xs)
      | inr h ↦ rw h refl
    ]

pub digits_after : (p : ℕ → Bool) (xs : List ℕ) → Digits xs → Digits (bytes_after p xs)
digits_after p [] dx = tt
digits_after p (x ∷ xs) dx =
    elim (cases_Bool (p x)) [
      | inl h ↦ rw h (digits_after p xs dx.3)
      | inr h ↦ rw h dx
    ]

pub no_zero : (xs : List ℕ) → NoZero (bytes_after (λ b. eqb b 48) xs)
no_zero [] = tt
no_zero (x ∷ xs) =
    elim (cases_Bool (eqb x 48)) [
      | inl h ↦ rw h (no_zero xs)
      | inr h ↦ rw h h
    ]

-- where no zero leads, more digits are a larger number
pub shorter : (xs ys : List ℕ) → Digits xs → Digits ys → NoZero ys → length xs < length ys → digits_value 10 xs < digits_value 10 ys
shorter xs [] dx dy z h = absurd (omega arith)
shorter xs (y ∷ ys) dx dy z h = longer ys xs (0 * 10 + digit_value y) dy.3 dx (nonzero (digit_value y) y dy.0 z) (omega arith)

pub by_digits : (xs ys : List ℕ) → Digits xs → Digits ys → NoZero xs → NoZero ys → ordering_then (nat_cmp (length xs) (length ys)) (slice_cmp nat_cmp xs ys) ≡ nat_cmp (digits_value 10 xs) (digits_value 10 ys)
by_digits xs ys dx dy zx zy =
    elim (three (length xs) (length ys)) [
      | inl h ↦ ap (λ o. ordering_then o (slice_cmp nat_cmp xs ys)) (nat_less _ _ h) ∙ sym (nat_less _ _ (shorter xs ys dx dy zy h))
      | inr other ↦ elim other [
        | inl h ↦ ap (λ o. ordering_then o (slice_cmp nat_cmp xs ys)) (nat_same _ _ h) ∙ sym (same_length xs ys 0 dx dy h)
        | inr h ↦ ap (λ o. ordering_then o (slice_cmp nat_cmp xs ys)) (nat_more _ _ h) ∙ sym (nat_more _ _ (shorter ys xs dy dx zx h))
      ]
    ]

pub digits_from_pass : (xs : List ℕ) → AllPass is_ascii_digit xs → Digits xs
digits_from_pass [] h = tt
digits_from_pass (x ∷ xs) h =
    let within : (48 ≤ x) × (x ≤ 57) = is_digit x (All-head (λ b. is_ascii_digit b ≡ true) x xs h) in
    (digit_value_digit x within, within.0, within.1, digits_from_pass xs (All-tail (λ b. is_ascii_digit b ≡ true) x xs h))

-- the order of numbers by their digits without leading zeros
pub numbers : (a b : List ℕ) → AllPass is_ascii_digit a → AllPass is_ascii_digit b → ordering_then (nat_cmp (length (bytes_after (λ c. eqb c 48) a)) (length (bytes_after (λ c. eqb c 48) b))) (slice_cmp nat_cmp (bytes_after (λ c. eqb c 48) a) (bytes_after (λ c. eqb c 48) b)) ≡ nat_cmp (digits_value 10 a) (digits_value 10 b)
numbers a b da db =
    rw (← value_after_zeros a, ← value_after_zeros b)
    (by_digits _ _ (digits_after _ a (digits_from_pass a da)) (digits_after _ b (digits_from_pass b db)) (no_zero a) (no_zero b))
