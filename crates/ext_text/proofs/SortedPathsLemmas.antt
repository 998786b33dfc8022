-- Paths in path order, each once: what a search by halves finds in them.
use Rattle.std.proofs.Common.{◌≡◌, ℕ, zero, suc, ◌<◌, ◌≤◌, Bool, true, false, cond, ◌||◌, List, [], ◌∷◌, length, take, get_or, Option, Some, None, refl, sym, ap, ◌∙◌, subst, arith}
use Rattle.std.specs.Prelude.{slice_get}
use mathlib.Core.Logic.{inl, inr}
use Rattle.std.specs.List.{AllByRecursion, dedup, dedup_from, list_any}
use Rattle.std.specs.List.Sorted.{IsPartitionedBy, IsPartitionPoint, IsStrictlySortedBy}
use Rattle.std.specs.Cmp.{both_ways, tied_itself}
use Rattle.std.specs.Ordering.{eq_by_cmp, is_gt, is_lt, ordering_reverse}
use Rattle.std.specs.declared.cmp.Ordering.{Ordering}
use Rattle.std.specs.declared.cmp.Ordering.TheVariants.{Less, Equal, Greater}
use Rattle.std.proofs.lemmas.Bool.{cases_lt, false≢true, true≢false, false_from_ne_true, or_cases, or_left, or_right}
use Rattle.std.proofs.lemmas.List.{take_all}
use Rattle.ext_text.specs.Order.{paths_total}
use Rattle.ext_text.specs.Path.{are_related, is_prefix, path_cmp}
use Rattle.ext_text.specs.SortedPaths.{covers, first_from, has_below, is_among, meets}
use Rattle.ext_text.proofs.OrderLemmas.{is_less}
use Rattle.ext_text.proofs.PrefixLemmas.{convex, prefix_first, prefix_order, prefix_short, same_path, take_prefix, tied_path}

again : (a b : Bool) → a || b ≡ a || (a || b)
again true b = refl
again false b = refl

any-dedup_from : {X : Type 0} (same : X → X → Bool) (exact : (x y : X) → same x y ≡ true → x ≡ y) (test : X → Bool) (k : X) (xs : List X) → list_any test (dedup_from same k xs) ≡ test k || list_any test xs
any-dedup_from same exact test k [] = refl
any-dedup_from {X} same exact test k (x ∷ xs) =
    elim (same x k) as (λ b. same x k ≡ b → list_any test (cond b (dedup_from same k xs) (k ∷ dedup_from same x xs)) ≡ test k || (test x || list_any test xs)) [
      | true ↦ λ equal. any-dedup_from same exact test k xs ∙ again (test k) (list_any test xs) ∙ ap (λ (y : X). test k || (test y || list_any test xs)) (sym (exact x k equal))
      | false ↦ λ _. ap (λ b. test k || b) (any-dedup_from same exact test x xs)
    ] refl

-- a test that some element passes is passed by some that `dedup` keeps
pub any-dedup : {X : Type 0} (same : X → X → Bool) (exact : (x y : X) → same x y ≡ true → x ≡ y) (test : X → Bool) (xs : List X) → list_any test (dedup same xs) ≡ list_any test xs
any-dedup same exact test [] = refl
any-dedup same exact test (x ∷ xs) = any-dedup_from same exact test x xs

each_at : {X : Type 0} (P : X → Type 0) (xs : List X) (k : ℕ) (d : X) → AllByRecursion P xs → k < length xs → P (get_or xs k d)
each_at P [] k d all within = absurd (omega arith)
each_at P (x ∷ xs) zero d all within = all.0
each_at P (x ∷ xs) (suc k) d all within = each_at P xs k d all.1 (omega arith)

-- a test that what comes before passes too splits a sorted list in two
partitioned : {X : Type 0} (R : X → X → Ordering) (test : X → Bool) → ((x y : X) → R x y ≡ Less → test y ≡ true → test x ≡ true) → (xs : List X) → IsStrictlySortedBy R xs → IsPartitionedBy test xs
unfolding IsStrictlySortedBy
partitioned R test down [] sorted i j d le lt pass = absurd (omega arith)
partitioned R test down (x ∷ xs) sorted zero zero d le lt pass = pass
partitioned R test down (x ∷ xs) sorted (suc i) zero d le lt pass = absurd (omega arith)
partitioned R test down (x ∷ xs) sorted zero (suc j) d le lt pass =
    down x (get_or xs j d) (each_at (λ y. R x y ≡ Less) xs j d sorted.0 (omega arith)) pass
partitioned R test down (x ∷ xs) sorted (suc i) (suc j) d le lt pass = partitioned R test down xs sorted.1 i j d (omega arith) (omega arith) pass

-- what comes before a path splits paths in two
pub before_partitions : (q : List (List ℕ)) (ps : List (List (List ℕ))) → IsStrictlySortedBy path_cmp ps → IsPartitionedBy (λ p. is_lt (path_cmp p q)) ps
before_partitions q ps sorted =
    partitioned path_cmp (λ p. is_lt (path_cmp p q)) (λ x y less before. ap is_lt (paths_total.trans x y q less (is_less _ before))) ps sorted

-- the path at that point is the first that does not come before it
pub first_at_point : (q : List (List ℕ)) (ps : List (List (List ℕ))) (i : ℕ) → i ≤ length ps → IsPartitionPoint (λ p. is_lt (path_cmp p q) ≡ true) (λ p. is_lt (path_cmp p q) ≡ false) ps i → slice_get ps i ≡ first_from q ps
first_at_point q [] i within at = refl
first_at_point q (p ∷ ps) zero within at = ap (λ b. cond b (first_from q ps) (Some p)) (sym (at.1 zero p (omega arith) (omega arith)))
first_at_point q (p ∷ ps) (suc i) within at =
    first_at_point q ps i (omega arith) ((λ j d low high. at.0 (suc j) d (omega arith) (omega arith)), (λ j d low high. at.1 (suc j) d (omega arith) (omega arith)))
    ∙ ap (λ b. cond b (first_from q ps) (Some p)) (sym (at.0 zero p (omega arith) (omega arith)))

-- whether there is a path and it passes
abbrev pub passes : (List (List ℕ) → Bool) → Option (List (List ℕ)) → Bool
passes test None = false
passes test (Some p) = test p

-- a test that fails before a path, and that the first path from there on passes where a later one does
module _ (q : List (List ℕ)) (test : List (List ℕ) → Bool)
    (before : (p : List (List ℕ)) → is_lt (path_cmp p q) ≡ true → test p ≡ false)
    (first : (p r : List (List ℕ)) → is_lt (path_cmp p q) ≡ false → path_cmp p r ≡ Less → test r ≡ true → test p ≡ true) where
  none_later : (p : List (List ℕ)) (ps : List (List (List ℕ))) → is_lt (path_cmp p q) ≡ false → test p ≡ false → AllByRecursion (λ r. path_cmp p r ≡ Less) ps → list_any test ps ≡ false
  none_later p [] from fails all = refl
  none_later p (r ∷ ps) from fails all =
      ap (λ b. b || list_any test ps) (false_from_ne_true (test r) (λ pass. false≢true (sym fails ∙ first p r from all.0 pass)))
      ∙ none_later p ps from fails all.1

  pub any_by_first : (ps : List (List (List ℕ))) → IsStrictlySortedBy path_cmp ps → list_any test ps ≡ passes test (first_from q ps)
  unfolding IsStrictlySortedBy
  any_by_first [] sorted = refl
  any_by_first (p ∷ ps) sorted =
      elim (is_lt (path_cmp p q)) as (λ b. is_lt (path_cmp p q) ≡ b → test p || list_any test ps ≡ passes test (cond b (first_from q ps) (Some p))) [
        | true ↦ λ early. ap (λ t. t || list_any test ps) (before p early) ∙ any_by_first ps sorted.1
        | false ↦ λ from. elim (test p) as (λ t. test p ≡ t → t || list_any test ps ≡ t) [
          | true ↦ λ _. refl
          | false ↦ λ fails. none_later p ps from fails sorted.0
        ] refl
      ] refl

among_before : (q p : List (List ℕ)) → is_lt (path_cmp p q) ≡ true → eq_by_cmp path_cmp q p ≡ false
among_before q p early =
    false_from_ne_true _ (λ tied. true≢false (sym early ∙ ap (λ (r : List (List ℕ)). is_lt (path_cmp p r)) (same_path q p tied) ∙ ap is_lt (tied_itself paths_total p)))

among_first : (q p r : List (List ℕ)) → is_lt (path_cmp p q) ≡ false → path_cmp p r ≡ Less → eq_by_cmp path_cmp q r ≡ true → eq_by_cmp path_cmp q p ≡ true
among_first q p r from less tied =
    absurd (false≢true (sym from ∙ ap (λ (s : List (List ℕ)). is_lt (path_cmp p s)) (same_path q r tied) ∙ ap is_lt less))

-- whether a path is among the paths
pub is_among-first : (q : List (List ℕ)) (ps : List (List (List ℕ))) → IsStrictlySortedBy path_cmp ps → is_among ps q ≡ passes (eq_by_cmp path_cmp q) (first_from q ps)
is_among-first q ps sorted = any_by_first q (eq_by_cmp path_cmp q) (among_before q) (among_first q) ps sorted

below_before : (q p : List (List ℕ)) → is_lt (path_cmp p q) ≡ true → is_prefix q p ≡ false
below_before q p early = false_from_ne_true _ (λ prefix. prefix_order p q prefix (is_less _ early))

reversed_gt : (r : Ordering) → is_gt (ordering_reverse r) ≡ is_lt r
reversed_gt Less = refl
reversed_gt Equal = refl
reversed_gt Greater = refl

below_first : (q p r : List (List ℕ)) → is_lt (path_cmp p q) ≡ false → path_cmp p r ≡ Less → is_prefix q r ≡ true → is_prefix q p ≡ true
below_first q p r from less prefix =
    convex q p r (ap is_gt (paths_total.antisymm q p) ∙ reversed_gt (path_cmp p q) ∙ from) (ap is_gt less) prefix

-- whether a path or something below it is among the paths
pub has_below-first : (q : List (List ℕ)) (ps : List (List (List ℕ))) → IsStrictlySortedBy path_cmp ps → has_below ps q ≡ passes (is_prefix q) (first_from q ps)
has_below-first q ps sorted = any_by_first q (is_prefix q) (below_before q) (below_first q) ps sorted

-- one of the first names of a path is among the paths, and so a prefix of it
pub covers_at : (ps : List (List (List ℕ))) (q : List (List ℕ)) (k : ℕ) → is_among ps (take k q) ≡ true → covers ps q ≡ true
covers_at [] q k among = absurd (false≢true among)
covers_at (p ∷ ps) q k among = elim (or_cases (eq_by_cmp path_cmp (take k q) p) (is_among ps (take k q)) among) [
  | inl here ↦ or_left _ _ (subst (λ r. is_prefix r q ≡ true) (same_path (take k q) p here) (take_prefix k q))
  | inr later ↦ or_right _ _ (covers_at ps q k later)
]

covered_at : (ps : List (List (List ℕ))) (q : List (List ℕ)) → covers ps q ≡ true → (k : ℕ) × (k ≤ length q) × (is_among ps (take k q) ≡ true)
covered_at [] q covered = absurd (false≢true covered)
covered_at (p ∷ ps) q covered = elim (or_cases (is_prefix p q) (covers ps q) covered) [
  | inl here ↦ (length p, prefix_short p q here, or_left _ _ (tied_path (take (length p) q) p (sym ((prefix_first p q).0 here))))
  | inr later ↦ let rest = covered_at ps q later in (rest.0, rest.1, or_right _ _ rest.2)
]

-- where no proper prefix is among the paths, the path itself decides
pub covers_last : (ps : List (List (List ℕ))) (q : List (List ℕ)) → ((k : ℕ) → k < length q → is_among ps (take k q) ≡ false) → is_among ps q ≡ covers ps q
covers_last ps q none =
    both_ways (is_among ps q) (covers ps q)
    (λ among. covers_at ps q (length q) (subst (λ r. is_among ps r ≡ true) (sym (take_all (length q) q (omega arith))) among))
    (λ covered.
    let at = covered_at ps q covered in
    elim (cases_lt at.0 (length q)) [
      | inl proper ↦ absurd (false≢true (sym (none at.0 proper) ∙ at.2))
      | inr whole ↦ subst (λ r. is_among ps r ≡ true) (take_all at.0 q whole) at.2
    ])

regrouped : (a b c d : Bool) → (a || b) || (c || d) ≡ (a || c) || (b || d)
regrouped true b c d = refl
regrouped false true true d = refl
regrouped false true false d = refl
regrouped false false c d = refl

-- one of the paths is related to a path where it is a prefix of it, or the other way round
pub meets_parts : (ps : List (List (List ℕ))) (q : List (List ℕ)) → meets ps q ≡ covers ps q || has_below ps q
meets_parts [] q = refl
meets_parts (p ∷ ps) q = ap (λ b. are_related p q || b) (meets_parts ps q) ∙ regrouped (is_prefix p q) (is_prefix q p) (covers ps q) (has_below ps q)

pub meets_covered : (ps : List (List (List ℕ))) (q : List (List ℕ)) → covers ps q ≡ true → covers ps q ≡ meets ps q
meets_covered ps q covered = covered ∙ sym (meets_parts ps q ∙ or_left (covers ps q) (has_below ps q) covered)

pub meets_uncovered : (ps : List (List (List ℕ))) (q : List (List ℕ)) → covers ps q ≡ false → has_below ps q ≡ meets ps q
meets_uncovered ps q uncovered = sym (meets_parts ps q ∙ ap (λ b. b || has_below ps q) uncovered)
