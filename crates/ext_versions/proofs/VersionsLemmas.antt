-- Ascending versions: what a search by halves finds in them, and that two lists with the same versions are equal.
use Rattle.std.proofs.Common.{◌≡◌, ℕ, zero, suc, ◌<◌, ◌≤◌, Bool, true, false, cond, ◌&&◌, ◌||◌, List, [], ◌∷◌, length, take, get_or, Option, Some, None, refl, sym, ap, ◌∙◌, subst, arith}
use Rattle.std.specs.Prelude.{nat_eq, slice_get, slice_index_or}
use mathlib.Core.Logic.{inl, inr}
use Rattle.std.specs.Cmp.{tied_itself}
use Rattle.std.specs.Cmp.Lexicographic.{pointwise}
use Rattle.std.specs.List.{AllByRecursion, Contains, dedup, filter, remove}
use Rattle.std.specs.List.Sorted.{IsPartitionedBy, IsPartitionPoint, IsPermutation, IsSorted, IsStrictlySortedBy}
use Rattle.std.specs.Ordering.{is_lt}
use Rattle.std.specs.Str.{bytes_eq}
use Rattle.std.specs.declared.cmp.Ordering.TheVariants.{Less}
use Rattle.std.proofs.lemmas.Bool.{false≢true, false_from_ne_true, or_cases, or_left}
use Rattle.std.proofs.lemmas.List.Folds.{Any-from_list_any, list_any-from_Any}
use Rattle.std.proofs.lemmas.List.Kept.{IsStrictlySortedBy-dedup, IsStrictlySortedBy-filter}
use Rattle.std.proofs.lemmas.List.Sorted.{list_any-IsPermutation}
use Rattle.std.proofs.lemmas.Map.Views.{any-filter_same}
use Rattle.std.proofs.lemmas.Slice.Eq.{bytes_eq-Decides}
use Rattle.ext_text.proofs.ForCallers.{any-dedup, is_less}
use Rattle.ext_vers.specs.Order.{orders_ties, orders_total}
use Rattle.ext_vers.specs.Version.{order_of}
use Rattle.ext_versions.specs.Search.{is_found, version_from}
use Rattle.ext_versions.specs.Versions.{AreCommon, AreVersions, each_has_version, has_version}

-- versions that test as equal are the same
pub same_version : (v w : List ℕ) → bytes_eq v w ≡ true → v ≡ w
same_version v w e = (bytes_eq-Decides v w).0 e

-- a version tests as equal to itself
pub version_itself : (v : List ℕ) → bytes_eq v v ≡ true
version_itself v = (bytes_eq-Decides v v).1 refl

-- a version does not come before itself
pub not_before_itself : (v : List ℕ) → is_lt (order_of v v) ≡ false
not_before_itself v = ap is_lt (tied_itself orders_total v)

-- what is among versions that all come after one comes after it too
pub among_above : (w : List ℕ) (ws : List (List ℕ)) (v : List ℕ) → AllByRecursion (λ u. order_of w u ≡ Less) ws → has_version ws v ≡ true
    → order_of w v ≡ Less
among_above w [] v above has = absurd (false≢true has)
among_above w (u ∷ ws) v above has = elim (or_cases (bytes_eq v u) (has_version ws v) has) [
  | inl here ↦ subst (λ x. order_of w x ≡ Less) (sym (same_version v u here)) above.0
  | inr later ↦ among_above w ws v above.1 later
]

-- so a version is not among those that come after it
pub not_above_itself : (w : List ℕ) (ws : List (List ℕ)) → AllByRecursion (λ u. order_of w u ≡ Less) ws → has_version ws w ≡ false
not_above_itself w ws above =
    false_from_ne_true _ (λ has. false≢true (sym (not_before_itself w) ∙ ap is_lt (among_above w ws w above has)))

-- a version is among ascending ones where it is the first that does not come before it
pub has_version-from : (v : List ℕ) (ws : List (List ℕ)) → IsStrictlySortedBy order_of ws
    → has_version ws v ≡ is_found v (version_from v ws)
unfolding IsStrictlySortedBy
has_version-from v [] sorted = refl
has_version-from v (w ∷ ws) sorted =
    elim (is_lt (order_of w v)) as
    (λ b. is_lt (order_of w v) ≡ b → bytes_eq v w || has_version ws v ≡ is_found v (cond b (version_from v ws) (Some w))) [
      | true ↦ λ early.
          let other : bytes_eq v w ≡ false = false_from_ne_true _
          (λ e. false≢true (sym (not_before_itself v) ∙ ap (λ (x : List ℕ). is_lt (order_of x v)) (same_version v w e) ∙ early)) in
          ap (λ b. b || has_version ws v) other ∙ has_version-from v ws sorted.1
      | false ↦ λ from. elim (bytes_eq v w) as (λ b. b || has_version ws v ≡ b) [
        | true ↦ refl
        | false ↦ false_from_ne_true _ (λ later. false≢true (sym from ∙ ap is_lt (among_above w ws v sorted.0 later)))
      ]
    ] refl

-- what is found is the version
pub found_version : (v : List ℕ) (found : Option (List ℕ)) → is_found v found ≡ true → found ≡ Some v
found_version v None is = absurd (false≢true is)
found_version v (Some w) is = ap (λ (x : List ℕ). Some x) (sym (same_version v w is))

each_at : {X : Type 0} (P : X → Type 0) (xs : List X) (k : ℕ) (d : X) → AllByRecursion P xs → k < length xs → P (get_or xs k d)
each_at P [] k d all within = absurd (omega arith)
each_at P (x ∷ xs) zero d all within = all.0
each_at P (x ∷ xs) (suc k) d all within = each_at P xs k d all.1 (omega arith)

-- what comes before a version splits ascending ones in two
pub before_splits : (v : List ℕ) (ws : List (List ℕ)) → IsStrictlySortedBy order_of ws → IsPartitionedBy (λ w. is_lt (order_of w v)) ws
unfolding IsStrictlySortedBy
before_splits v [] sorted i j d le lt early = absurd (omega arith)
before_splits v (w ∷ ws) sorted zero zero d le lt early = early
before_splits v (w ∷ ws) sorted (suc i) zero d le lt early = absurd (omega arith)
before_splits v (w ∷ ws) sorted zero (suc j) d le lt early =
    ap is_lt (orders_total.trans w (get_or ws j d) v (each_at (λ u. order_of w u ≡ Less) ws j d sorted.0 (omega arith)) (is_less _ early))
before_splits v (w ∷ ws) sorted (suc i) (suc j) d le lt early = before_splits v ws sorted.1 i j d (omega arith) (omega arith) early

-- the version at that point is the first that does not come before it
pub version_at_point : (v : List ℕ) (ws : List (List ℕ)) (i : ℕ) → i ≤ length ws
    → IsPartitionPoint (λ w. is_lt (order_of w v) ≡ true) (λ w. is_lt (order_of w v) ≡ false) ws i → slice_get ws i ≡ version_from v ws
version_at_point v [] i within at = refl
version_at_point v (w ∷ ws) zero within at = ap (λ b. cond b (version_from v ws) (Some w)) (sym (at.1 zero w (omega arith) (omega arith)))
version_at_point v (w ∷ ws) (suc i) within at =
    version_at_point v ws i (omega arith)
    ((λ j d low high. at.0 (suc j) d (omega arith) (omega arith)), (λ j d low high. at.1 (suc j) d (omega arith) (omega arith)))
    ∙ ap (λ b. cond b (version_from v ws) (Some w)) (sym (at.0 zero w (omega arith) (omega arith)))

-- sorted and without doubles, versions ascend and are the same
pub are_versions : (versions sorted : List (List ℕ)) → IsPermutation versions sorted → IsSorted order_of sorted
    → AreVersions versions (dedup (pointwise nat_eq) sorted)
are_versions versions sorted same ascending = record {
  order = IsStrictlySortedBy-dedup orders_total orders_ties sorted ascending;
  same =
      λ v. any-dedup (pointwise nat_eq) same_version (bytes_eq v) sorted ∙ sym (list_any-IsPermutation (bytes_eq v) versions sorted same);
}

either_way : (a b : Bool) → a && b ≡ b && a
either_way true true = refl
either_way true false = refl
either_way false true = refl
either_way false false = refl

-- those of a first list that the others have too are the common ones
pub are_common : (first : List (List ℕ)) (others : List (List (List ℕ))) → IsStrictlySortedBy order_of first
    → AreCommon (first ∷ others) (filter (each_has_version others) first)
are_common first others sorted = record {
  order = IsStrictlySortedBy-filter order_of (each_has_version others) first sorted;
  same = λ v.
      any-filter_same (bytes_eq v) (each_has_version others) (each_has_version others v)
      (λ w e. ap (each_has_version others) (sym (same_version v w e))) first
      ∙ either_way (each_has_version others v) (has_version first v);
}

-- a list is its first element and the others
pub first_and_others : {X : Type 0} (xs others : List X) (first : X) → 0 < length xs → first ≡ slice_index_or xs 0 first
    → others ≡ remove xs 0 → xs ≡ first ∷ others
first_and_others [] others first some is rest = absurd (omega arith)
first_and_others {X} (x ∷ xs) others first some is rest = ap (λ (y : X). y ∷ xs) (sym is) ∙ ap (λ ys. first ∷ ys) (sym rest)

all_take : {X : Type 0} (P : X → Type 0) (count : ℕ) (xs : List X) → AllByRecursion P xs → AllByRecursion P (take count xs)
all_take P zero xs all = tt
all_take P (suc count) [] all = tt
all_take P (suc count) (x ∷ xs) all = (all.0, all_take P count xs all.1)

-- the first versions of ascending ones ascend
pub first_ascend : (count : ℕ) (ws : List (List ℕ)) → IsStrictlySortedBy order_of ws → IsStrictlySortedBy order_of (take count ws)
unfolding IsStrictlySortedBy
first_ascend zero ws sorted = tt
first_ascend (suc count) [] sorted = tt
first_ascend (suc count) (w ∷ ws) sorted = (all_take (λ u. order_of w u ≡ Less) count ws sorted.0, first_ascend count ws sorted.1)

-- no versions ascend
pub none_ascends : IsStrictlySortedBy order_of []
unfolding IsStrictlySortedBy
none_ascends = tt

-- what a list has is at some place of it
pub contained : (ws : List (List ℕ)) (v : List ℕ) → has_version ws v ≡ true → Contains ws v
contained ws v has =
    let any = Any-from_list_any (bytes_eq v) ws has in subst (Contains ws) (sym (same_version v any.1 any.4)) (any.0, any.2, any.3)

-- and the other way round
pub has_contained : (ws : List (List ℕ)) (v : List ℕ) → Contains ws v → has_version ws v ≡ true
has_contained ws v at = list_any-from_Any (bytes_eq v) ws (at.0, v, at.1, at.2, version_itself v)

first_of_both : (v w : List ℕ) (vs ws : List (List ℕ)) → AllByRecursion (λ u. order_of v u ≡ Less) vs
    → AllByRecursion (λ u. order_of w u ≡ Less) ws → has_version (w ∷ ws) v ≡ true → has_version (v ∷ vs) w ≡ true → v ≡ w
first_of_both v w vs ws above_v above_w has_v has_w = elim (or_cases (bytes_eq v w) (has_version ws v) has_v) [
  | inl same ↦ same_version v w same
  | inr later ↦ elim (or_cases (bytes_eq w v) (has_version vs w) has_w) [
    | inl same ↦ sym (same_version w v same)
    | inr after ↦ absurd
        (false≢true (sym (not_before_itself v) ∙ ap is_lt
        (orders_total.trans v w v (among_above v vs w above_v after) (among_above w ws v above_w later))))
  ]
]

rest_of_both : (w u : List ℕ) (vs ws : List (List ℕ)) → AllByRecursion (λ u. order_of w u ≡ Less) vs
    → AllByRecursion (λ u. order_of w u ≡ Less) ws → has_version (w ∷ vs) u ≡ has_version (w ∷ ws) u → has_version vs u ≡ has_version ws u
rest_of_both w u vs ws above_v above_w same =
    elim (bytes_eq u w) as (λ b. bytes_eq u w ≡ b → b || has_version vs u ≡ b || has_version ws u → has_version vs u ≡ has_version ws u) [
      | true ↦ λ e _. rw (same_version u w e) (not_above_itself w vs above_v ∙ sym (not_above_itself w ws above_w))
      | false ↦ λ _ rest. rest
    ] refl same

-- two ascending lists with the same versions are equal
pub one_list : (a b : List (List ℕ)) → IsStrictlySortedBy order_of a → IsStrictlySortedBy order_of b
    → ((v : List ℕ) → has_version a v ≡ has_version b v) → a ≡ b
unfolding IsStrictlySortedBy
one_list [] [] sorted_a sorted_b same = refl
one_list [] (w ∷ ws) sorted_a sorted_b same = absurd (false≢true (same w ∙ or_left _ _ (version_itself w)))
one_list (v ∷ vs) [] sorted_a sorted_b same = absurd (false≢true (sym (same v) ∙ or_left _ _ (version_itself v)))
one_list (v ∷ vs) (w ∷ ws) sorted_a sorted_b same =
    let first = first_of_both v w vs ws sorted_a.0 sorted_b.0 (sym (same v) ∙ or_left _ _ (version_itself v))
    (same w ∙ or_left _ _ (version_itself w)) in
    let above = subst (λ x. AllByRecursion (λ u. order_of x u ≡ Less) vs) first sorted_a.0 in
    let rest = one_list vs ws sorted_a.1 sorted_b.1
    (λ u. rest_of_both w u vs ws above sorted_b.0 (ap (λ (x : List ℕ). has_version (x ∷ vs) u) (sym first) ∙ same u)) in
    ap (λ (x : List ℕ). x ∷ vs) first ∙ ap (λ (xs : List (List ℕ)). w ∷ xs) rest
