-- Where the text of a wildcard ends.
use Rattle.std.proofs.Common.{◌≡◌, ℕ, ◌+◌, ◌<◌, ◌≤◌, List, ◌++◌, length, length-append, take, drop, Option, Some, None, refl, sym, ap, subst, ◌∙◌, append_assoc, arith}
use Rattle.std.specs.Prelude.{◌⊎◌, MatchOption}
use mathlib.Core.Logic.{inl, inr}
use Rattle.std.proofs.lemmas.Bool.{cases_lt, cases_order}
use Rattle.std.proofs.lemmas.List.{append_cancel_left, drop_at, get_or_append_left, length-take-le, take-append-drop}
use Rattle.std.proofs.lemmas.List.Prefix.{at_from_reads, at_reads}
use Rattle.memchr.specs.Find.{FindsNeedle, OccursAt}
use Rattle.ext_lines.proofs.ForCallers.{split_same}
use Rattle.ext_pattern.specs.Matching.{EndsAtLiteral}

-- what occurs in a text occurs in a longer one
occurs_wider : (hay more needle : List ℕ) (k : ℕ) → OccursAt hay needle k → OccursAt (hay ++ more) needle k
occurs_wider hay more needle k is = record {
  fits = omega (arith, is.fits, length-append hay more);
  reads = λ j low. get_or_append_left hay more 0 (k + j) (omega (arith, is.fits)) ∙ is.reads j low;
}

-- and in its first part, where it lies in that
occurs_narrower : (hay more needle : List ℕ) (k : ℕ) → k + length needle ≤ length hay → OccursAt (hay ++ more) needle k → OccursAt hay needle k
occurs_narrower hay more needle k fits is = record {
  fits = fits;
  reads = λ j low. sym (get_or_append_left hay more 0 (k + j) (omega (arith, fits))) ∙ is.reads j low;
}

-- the literal occurs where the text ends
occurs_there : (whole text literal rest : List ℕ) → whole ≡ text ++ literal ++ rest → OccursAt whole literal (length text)
occurs_there whole text literal rest parted = record {
  fits = omega (arith, ap length parted, length-append (text ++ literal) rest, length-append text literal);
  reads = λ j low. at_reads 0 whole literal (length text) rest (ap (drop (length text)) (parted ∙ append_assoc text literal rest) ∙ drop_at text (literal ++ rest) (length text) refl) j low;
}

-- where it first occurs, the text before it ends
ends_found : (whole literal : List ℕ) (n : ℕ) → FindsNeedle whole literal 0 (Some n) → 0 < length literal → (n + length literal ≤ length whole) × EndsAtLiteral whole (take n whole) literal (drop (n + length literal) whole)
ends_found whole literal n is some =
    let after = drop (n + length literal) whole in
    let parted : whole ≡ take n whole ++ literal ++ after =
    sym (take-append-drop n whole) ∙ ap (λ (t : List ℕ). take n whole ++ t) (at_from_reads 0 whole literal n is.1.fits is.1.reads) ∙ sym (append_assoc (take n whole) literal after)
    in
    let P : List ℕ → ℕ → Type 0 = λ w k. OccursAt w literal k in (
      is.1.fits,
      record {
        parted = parted;
        first = λ _ k low occurs. is.0.before k (omega arith) (omega (arith, length-take-le n whole (omega (arith, is.1.fits)))) (subst (λ (w : List ℕ). P w k) (sym parted) (occurs_wider (take n whole ++ literal) after literal k occurs));
        last = λ none. absurd (omega arith);
      },
    )

ends_nowhere : (whole literal : List ℕ) → FindsNeedle whole literal 0 None → (text after : List ℕ) → EndsAtLiteral whole text literal after → ⊥
ends_nowhere whole literal is text after ends =
    let occurs = occurs_there whole text literal after ends.parted in
    is (length text) (omega arith) (omega (arith, occurs.fits)) occurs

-- what a search for a literal says of the text before it
pub ends_first : (whole literal : List ℕ) (found : Option ℕ) → FindsNeedle whole literal 0 found → 0 < length literal → MatchOption found ((text after : List ℕ) → ¬ EndsAtLiteral whole text literal after) (λ n. (n + length literal ≤ length whole) × EndsAtLiteral whole (take n whole) literal (drop (n + length literal) whole))
ends_first whole literal None is some = ends_nowhere whole literal is
ends_first whole literal (Some n) is some = ends_found whole literal n is some

-- a text that ends before another does is none
ends_before : (whole t u literal r s : List ℕ) → 0 < length literal → EndsAtLiteral whole t literal r → EndsAtLiteral whole u literal s → length t < length u → ⊥
ends_before whole t u literal r s some one other low =
    let P : List ℕ → Type 0 = λ w. OccursAt w literal (length t) in
    other.first some (length t) low (occurs_narrower (u ++ literal) s literal (length t) (omega (arith, length-append u literal)) (subst P other.parted (occurs_there whole t literal r one.parted)))

ends_same : (whole t u literal r s : List ℕ) → EndsAtLiteral whole t literal r → EndsAtLiteral whole u literal s → length t ≡ length u → (t ≡ u) × (r ≡ s)
ends_same whole t u literal r s one other same =
    let both = split_same t u (literal ++ r) (literal ++ s) same (sym (append_assoc t literal r) ∙ sym one.parted ∙ other.parted ∙ append_assoc u literal s) in
    (both.0, append_cancel_left literal r s both.1)

ends_last : (whole t u literal r s : List ℕ) → length literal ≡ 0 → EndsAtLiteral whole t literal r → EndsAtLiteral whole u literal s → length t ≡ length u
ends_last whole t u literal r s none one other =
    omega (arith, ap length one.parted, ap length other.parted, length-append (t ++ literal) r, length-append t literal, length-append (u ++ literal) s, length-append u literal, ap length (one.last none), ap length (other.last none))

-- the text of a wildcard ends in one way
pub ends_once : (whole t u literal r s : List ℕ) → EndsAtLiteral whole t literal r → EndsAtLiteral whole u literal s → (t ≡ u) × (r ≡ s)
ends_once whole t u literal r s one other = by_length (cases_lt 0 (length literal))
  where
    by_order : 0 < length literal → (length t ≡ length u) ⊎ ((length t < length u) ⊎ (length u < length t)) → (t ≡ u) × (r ≡ s)
    by_order some (inl same) = ends_same whole t u literal r s one other same
    by_order some (inr (inl low)) = absurd (ends_before whole t u literal r s some one other low)
    by_order some (inr (inr low)) = absurd (ends_before whole u t literal s r some other one low)

    by_length : (0 < length literal) ⊎ (length literal ≤ 0) → (t ≡ u) × (r ≡ s)
    by_length (inl some) = by_order some (cases_order (length t) (length u))
    by_length (inr none) = ends_same whole t u literal r s one other (ends_last whole t u literal r s (omega arith) one other)
