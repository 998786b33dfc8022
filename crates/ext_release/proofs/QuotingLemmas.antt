-- What is written in quotes is read back.
use Rattle.std.proofs.Common.{◌≡◌, ◌<◌, ℕ, Bool, true, false, ◌||◌, List, [], ◌∷◌, ◌++◌, length, refl, ap, ◌∙◌, arith, inl, inr, eqb}
use Rattle.std.specs.Prelude.{Some}
use Rattle.std.specs.List.{AllByRecursion}
use Rattle.std.specs.Option.{option_map}
use Rattle.std.proofs.lemmas.Bool.{cases_Bool}
use Rattle.ext_lines.specs.Split.{split_of}
use Rattle.ext_release.specs.Value.{split_double, closed, escaped, is_special, with_prefix}
use Rattle.ext_release.specs.Quoting.{escaped_text, DoubleQuotesAreReadBack, SingleQuotesAreReadBack}

-- the first single quote is the one after the text
split_single : (text : List ℕ) → AllByRecursion (λ b. eqb b 39 ≡ false) text → split_of 39 (text ++ 39 ∷ []) ≡ Some (text, [])
split_single [] plain = refl
split_single (b ∷ bs) plain = rw plain.0 (ap (option_map (λ c. (b ∷ c.0, c.1))) (split_single bs plain.1))

pub single_read_back : SingleQuotesAreReadBack
single_read_back text plain = ap closed (split_single text plain)

neither : (p q r s : Bool) → (p || q || r || s) ≡ false → (p ≡ false) × (s ≡ false)
neither true q r s h = cc
neither false true r s h = cc
neither false false true s h = cc
neither false false false true h = cc
neither false false false false h = (refl, refl)

-- a byte that is not special stands for itself, where some byte is after it
plain_step : (b : ℕ) (rest : List ℕ) → is_special b ≡ false → 0 < length rest → split_double (b ∷ rest) ≡ with_prefix (b ∷ []) (split_double rest)
plain_step b [] plain some = absurd (omega arith)
plain_step b (c ∷ cs) plain some =
    let parts = neither (eqb b 34) (eqb b 36) (eqb b 96) (eqb b 92) plain in
    rw (parts.0, parts.1) refl

escaped_special : (b : ℕ) → is_special b ≡ true → escaped b ≡ b ∷ []
escaped_special b special = rw special refl

-- a byte that is special stands for itself after a backslash
special_step : (b : ℕ) (rest : List ℕ) → is_special b ≡ true → split_double (92 ∷ b ∷ rest) ≡ with_prefix (b ∷ []) (split_double rest)
special_step b rest special = ap (λ (prefix : List ℕ). with_prefix prefix (split_double rest)) (escaped_special b special)

some_after : (prefix : List ℕ) → 0 < length (prefix ++ 34 ∷ [])
some_after [] = omega arith
some_after (b ∷ bs) = omega arith

-- the first quote that is not escaped is the one after the text
split_escaped : (text : List ℕ) → split_double (escaped_text text ++ 34 ∷ []) ≡ Some (text, [])
split_escaped [] = refl
split_escaped (b ∷ bs) =
    elim (cases_Bool (is_special b)) [
      | inl special ↦ rw special (special_step b (escaped_text bs ++ 34 ∷ []) special ∙ ap (with_prefix (b ∷ [])) (split_escaped bs))
      | inr plain ↦ rw plain (plain_step b (escaped_text bs ++ 34 ∷ []) plain (some_after (escaped_text bs)) ∙ ap (with_prefix (b ∷ [])) (split_escaped bs))
    ]

pub double_read_back : DoubleQuotesAreReadBack
double_read_back text = ap closed (split_escaped text)
