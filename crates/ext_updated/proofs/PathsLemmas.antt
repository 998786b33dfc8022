-- Paths of which no two are related: what is at or below one of them is at or below no other.
use Rattle.std.proofs.Common.{◌≡◌, ℕ, Bool, true, false, not, List, [], ◌∷◌, refl, sym, subst, ◌∙◌, arith, inl, inr}
use Rattle.std.specs.List.{AllByRecursion, count_by, list_any}
use Rattle.std.specs.Ordering.{eq_by_cmp}
use Rattle.std.proofs.lemmas.Bool.{and_from, and_parts, cases_lt, false≢true, false_from_ne_true, not-true, or_cases, or_left, or_right, true≢false}
use Rattle.ext_lines.specs.ByteOrder.{bytes_cmp}
use Rattle.ext_text.specs.Path.{are_related, is_prefix, is_proper_prefix, path_cmp}
use Rattle.ext_text.specs.SortedPaths.{covers, is_among}
use Rattle.ext_text.proofs.ForCallers.{prefix_trans, same_name, same_path, tied_name, tied_path}
use Rattle.ext_updated.specs.Clash.{MeetsAnother}
use Rattle.ext_updated.proofs.ClashLemmas.{all_among, count_here, count_past, meets_later, related_back, related_self}

-- tests of paths

-- a test that some path passes is passed by one that is among them
pub any_among : (test : List (List ℕ) → Bool) (ps : List (List (List ℕ))) → list_any test ps ≡ true → (b : List (List ℕ)) × (is_among ps b ≡ true) × (test b ≡ true)
any_among test [] any = absurd (false≢true any)
any_among test (p ∷ ps) any = elim (or_cases (test p) (list_any test ps) any) [
  | inl here ↦ (p, or_left _ _ (tied_path p p refl), here)
  | inr later ↦ let rest = any_among test ps later in (rest.0, or_right _ _ rest.1, rest.2)
]

-- and the other way round
pub among_any : (test : List (List ℕ) → Bool) (ps : List (List (List ℕ))) (b : List (List ℕ)) → is_among ps b ≡ true → test b ≡ true → list_any test ps ≡ true
among_any test [] b among pass = absurd (false≢true among)
among_any test (p ∷ ps) b among pass = elim (or_cases (eq_by_cmp path_cmp b p) (is_among ps b) among) [
  | inl here ↦ or_left _ _ (subst (λ r. test r ≡ true) (same_path b p here) pass)
  | inr later ↦ or_right _ _ (among_any test ps b later pass)
]

-- two prefixes of one path are related
pub prefixes_related : (p q x : List (List ℕ)) → is_prefix p x ≡ true → is_prefix q x ≡ true → are_related p q ≡ true
prefixes_related [] q x first second = refl
prefixes_related (n ∷ p) [] x first second = refl
prefixes_related (n ∷ p) (m ∷ q) [] first second = absurd (false≢true first)
prefixes_related (n ∷ p) (m ∷ q) (k ∷ x) first second =
    let a = and_parts (eq_by_cmp bytes_cmp n k) (is_prefix p x) first in
    let b = and_parts (eq_by_cmp bytes_cmp m k) (is_prefix q x) second in
    let same : n ≡ m = same_name n k a.0 ∙ sym (same_name m k b.0) in
    elim (or_cases (is_prefix p q) (is_prefix q p) (prefixes_related p q x a.1 b.1)) [
      | inl below ↦ or_left _ _ (and_from _ _ (tied_name n m same) below)
      | inr above ↦ or_right _ _ (and_from _ _ (tied_name m n (sym same)) above)
    ]

-- unrelated paths

-- none of them is related to a later one
abbrev pub AreUnrelated : List (List (List ℕ)) → Type 0
AreUnrelated [] = Unit {0}
AreUnrelated (p ∷ ps) = AllByRecursion (λ r. are_related p r ≡ false) ps × AreUnrelated ps

none_counted : (p : List (List ℕ)) (ps : List (List (List ℕ))) → count_by (are_related p) ps ≡ 0 → AllByRecursion (λ r. are_related p r ≡ false) ps
none_counted p [] none = tt
none_counted p (q ∷ ps) none =
    elim (are_related p q) as (λ b. are_related p q ≡ b → (are_related p q ≡ false) × AllByRecursion (λ r. are_related p r ≡ false) ps) [
      | true ↦ λ related. let count = count_here q p ps related in absurd (omega arith)
      | false ↦ λ apart. (apart, none_counted p ps (sym (count_past q p ps apart) ∙ none))
    ] refl

alone : (p : List (List ℕ)) (ps : List (List (List ℕ))) → ¬ MeetsAnother (p ∷ ps) p → count_by (are_related p) ps ≡ 0
alone p ps apart = elim (cases_lt 0 (count_by (are_related p) ps)) [
  | inl some ↦
      let count = count_here p p ps (related_self p) in
      absurd (apart (record { among = or_left _ _ (tied_path p p refl); another = omega arith }))
  | inr none ↦ omega arith
]

-- where none meets another one
pub apart_unrelated : (ps : List (List (List ℕ))) → ((p : List (List ℕ)) → ¬ MeetsAnother ps p) → AreUnrelated ps
apart_unrelated [] apart = tt
apart_unrelated (p ∷ ps) apart = (none_counted p ps (alone p ps (apart p)), apart_unrelated ps (λ q met. apart q (meets_later p ps q met)))

-- related ones are one
pub one_related : (ps : List (List (List ℕ))) (a b : List (List ℕ)) → AreUnrelated ps → is_among ps a ≡ true → is_among ps b ≡ true → are_related a b ≡ true → a ≡ b
one_related [] a b apart first second related = absurd (false≢true first)
one_related (p ∷ ps) a b apart first second related = elim (or_cases (eq_by_cmp path_cmp a p) (is_among ps a) first) [
  | inl here ↦ elim (or_cases (eq_by_cmp path_cmp b p) (is_among ps b) second) [
    | inl there ↦ same_path a p here ∙ sym (same_path b p there)
    | inr later ↦ absurd (true≢false (sym (subst (λ r. are_related r b ≡ true) (same_path a p here) related) ∙ all_among (λ r. are_related p r ≡ false) ps b apart.0 later))
  ]
  | inr later ↦ elim (or_cases (eq_by_cmp path_cmp b p) (is_among ps b) second) [
    | inl there ↦ absurd (true≢false (sym (subst (λ r. are_related a r ≡ true) (same_path b p there) related) ∙ related_back a p ∙ all_among (λ r. are_related p r ≡ false) ps a apart.0 later))
    | inr both ↦ one_related ps a b apart.1 later both related
  ]
]

-- what lies at or below a path that is related to none of them
pub others_uncovered : (p : List (List ℕ)) (ps : List (List (List ℕ))) (q : List (List ℕ)) → AllByRecursion (λ r. are_related p r ≡ false) ps → is_prefix p q ≡ true → covers ps q ≡ false
others_uncovered p ps q apart below =
    false_from_ne_true (covers ps q) (λ covered.
    let a = any_among (λ r. is_prefix r q) ps covered in
    true≢false (sym (prefixes_related p a.0 q below a.2) ∙ all_among (λ r. are_related p r ≡ false) ps a.0 apart a.1))

-- what stands above one of them lies at or below none
pub above_uncovered : (ps : List (List (List ℕ))) (q : List (List ℕ)) → AreUnrelated ps → list_any (λ p. is_proper_prefix q p) ps ≡ true → covers ps q ≡ false
above_uncovered ps q apart above =
    false_from_ne_true (covers ps q) (λ covered.
    let a = any_among (λ p. is_prefix p q) ps covered in
    let b = any_among (λ p. is_proper_prefix q p) ps above in
    let proper = and_parts (is_prefix q b.0) (not (is_prefix b.0 q)) b.2 in
    let same : a.0 ≡ b.0 = one_related ps a.0 b.0 apart a.1 b.1 (or_left _ _ (prefix_trans a.0 q b.0 a.2 proper.0)) in
    true≢false (sym (subst (λ r. is_prefix r q ≡ true) same a.2) ∙ not-true (is_prefix b.0 q) proper.1))
