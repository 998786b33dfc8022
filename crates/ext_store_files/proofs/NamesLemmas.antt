-- The names of generations and what is read of them.
use Rattle.std.proofs.Common.{◌≡◌, ◌≢◌, ◌⊎◌, ℕ, ◌<◌, ◌^◌, Bool, true, false, ◌&&◌, List, drop, Option, Some, None, refl, sym, ap, ◌∙◌, subst, inl, inr, arith}
use Rattle.std.specs.Prelude.{MatchOption, nat_lt}
use Rattle.std.specs.Ordering.{eq_by_cmp}
use Rattle.std.specs.Str.Parse.{digits_value}
use Rattle.std.proofs.lemmas.Bool.{false≢true, and_parts, and_from, lt-ltb, ltb-true, cases_Bool, cond-true, cond-false, or_left, or_right, or_cases, not-true, not_from_false}
use Rattle.std.proofs.lemmas.Fmt.{decimal_is_IsNumeral}
use Rattle.ext_lines.specs.ByteOrder.{bytes_cmp}
use Rattle.ext_text.proofs.ForCallers.{same_name, tied_name}
use Rattle.ext_store_files.specs.Names.{IsGeneration, is_generation, generation_name, generation_named, generation_of, next_name}
use Rattle.ext_store_files.specs.LeftOvers.{is_left_generation, is_left_over}

generation_tested : (n : ℕ) → IsGeneration n → is_generation n ≡ true
generation_tested n is = and_from _ _ (lt-ltb 0 n is.0) (lt-ltb n (2 ^ 32) is.1)

tested_generation : (n : ℕ) → is_generation n ≡ true → IsGeneration n
tested_generation n is = let parts = and_parts (nat_lt 0 n) (nat_lt n (2 ^ 32)) is in (ltb-true 0 n parts.0, ltb-true n (2 ^ 32) parts.1)

-- what the digits of a generation's name write
pub name_value : (n : ℕ) → n < 2 ^ 32 → digits_value 10 (drop 2 (generation_name n)) ≡ n
name_value n small = (decimal_is_IsNumeral n (omega arith)).1

-- a generation's name is read as its number
pub named_generation : (n : ℕ) → IsGeneration n → generation_of (generation_name n) ≡ Some n
named_generation n is =
    ap (λ k. generation_named k (generation_name n)) (name_value n is.1)
    ∙ cond-true _ _ _ (and_from _ _ (generation_tested n is) (tied_name (generation_name n) (generation_name n) refl))

named_either : (name : List ℕ) (n : ℕ) → (m : ℕ) → generation_named n name ≡ Some m → IsGeneration m × (name ≡ generation_name m)
named_either name n m read = elim (cases_Bool (is_generation n && eq_by_cmp bytes_cmp name (generation_name n))) [
  | inl is ↦
      let parts = and_parts (is_generation n) (eq_by_cmp bytes_cmp name (generation_name n)) is in
      let same : n ≡ m = cc (sym (cond-true _ (Some n) None is) ∙ read) in
      subst (λ k. IsGeneration k × (name ≡ generation_name k)) same (tested_generation n parts.0, same_name name (generation_name n) parts.1)
  | inr out ↦ cc (sym (cond-false _ (Some n) None out) ∙ read)
]

-- what is read is the number of the generation that has the name
pub read_generation : (name : List ℕ) (m : ℕ) → generation_of name ≡ Some m → IsGeneration m × (name ≡ generation_name m)
read_generation name m read = named_either name (digits_value 10 (drop 2 name)) m read

match_of : (name : List ℕ) (o : Option ℕ) → generation_of name ≡ o
    → MatchOption o ((n : ℕ) → IsGeneration n → name ≢ generation_name n) (λ n. IsGeneration n × (name ≡ generation_name n))
match_of name None read = λ n is same. cc (sym read ∙ ap generation_of same ∙ named_generation n is)
match_of name (Some m) read = read_generation name m read

-- a name is that of one generation
pub one_generation : (name : List ℕ)
    → MatchOption (generation_of name) ((n : ℕ) → IsGeneration n → name ≢ generation_name n) (λ n. IsGeneration n × (name ≡ generation_name n))
one_generation name = match_of name (generation_of name) refl

none_of : (name : List ℕ) (o : Option ℕ) → generation_of name ≡ o → ((n : ℕ) → IsGeneration n → name ≢ generation_name n) → o ≡ None
none_of name None read none = refl
none_of name (Some m) read none = let is = read_generation name m read in absurd (none m is.0 is.1)

-- an exact answer is that of the definition
pub answer_is : (name : List ℕ) (o : Option ℕ)
    → MatchOption o ((n : ℕ) → IsGeneration n → name ≢ generation_name n) (λ n. IsGeneration n × (name ≡ generation_name n)) → o ≡ generation_of name
answer_is name None exact = sym (none_of name (generation_of name) refl exact)
answer_is name (Some m) exact = sym (ap generation_of exact.1 ∙ named_generation m exact.0)

left_generation : (needed : ℕ → Bool) (name : List ℕ) (o : Option ℕ) → generation_of name ≡ o → is_left_generation needed o ≡ true
    → (n : ℕ) × IsGeneration n × (name ≡ generation_name n) × (needed n ≡ false)
left_generation needed name None read left = absurd (false≢true left)
left_generation needed name (Some m) read left =
    let is = read_generation name m read in (m, is.0, is.1, not-true (needed m) left)

-- a left-over is `next`, or a generation that is not needed
pub left_is : (needed : ℕ → Bool) (name : List ℕ) → is_left_over needed name ≡ true
    → (name ≡ next_name) ⊎ ((n : ℕ) × IsGeneration n × (name ≡ generation_name n) × (needed n ≡ false))
left_is needed name left = elim (or_cases (eq_by_cmp bytes_cmp name next_name) (is_left_generation needed (generation_of name)) left) [
  | inl tied ↦ inl (same_name name next_name tied)
  | inr generation ↦ inr (left_generation needed name (generation_of name) refl generation)
]

-- and such a name is a left-over
pub is_left : (needed : ℕ → Bool) (name : List ℕ)
    → (name ≡ next_name) ⊎ ((n : ℕ) × IsGeneration n × (name ≡ generation_name n) × (needed n ≡ false)) → is_left_over needed name ≡ true
is_left needed name (inl same) = or_left _ _ (tied_name name next_name same)
is_left needed name (inr other) =
    or_right _ _ (ap (is_left_generation needed) (ap generation_of other.2 ∙ named_generation other.0 other.1) ∙ not_from_false _ other.3)
