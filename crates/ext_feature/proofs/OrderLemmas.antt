-- Lists in byte order of a key.
use Rattle.std.proofs.Common.{◌≡◌, ℕ, ◌+◌, ◌<◌, false, List, [], ◌∷◌, ◌++◌, length, get_or, ◌⊎◌, inl, inr, refl, sym, ap, ◌∙◌, subst, arith}
use Rattle.std.specs.Prelude.{map}
use Rattle.std.specs.Cmp.{eq_by_cmp_equiv, tied_itself}
use Rattle.std.specs.List.{AllByRecursion, Contains, IsDistinct}
use Rattle.std.specs.List.Sorted.{IsPermutation, IsSortedByKey, IsStrictlySortedBy}
use Rattle.std.specs.Ordering.{eq_by_cmp, is_eq, is_lt, ordering_reverse}
use Rattle.std.specs.declared.cmp.Ordering.TheVariants.{Less, Equal, Greater}
use Rattle.std.proofs.lemmas.Bool.{true≢false}
use Rattle.std.proofs.lemmas.List.{get_or-map, length-map}
use Rattle.std.proofs.lemmas.List.Sorted.{IsPermutation-map}
use Rattle.std.proofs.lemmas.Map.Keys.{IsDistinct-IsPermutation, apart_from_distinct, sorted_from_all_adjacent}
use Rattle.ext_lines.specs.ByteOrder.{bytes_cmp, bytes_exact, bytes_total}
use Rattle.ext_feature.proofs.ListLemmas.{first_in, first_or_later, later_in, none_in_empty}

-- a text does not come before itself
pub not_before_itself : (a : List ℕ) → ¬ (bytes_cmp a a ≡ Less)
not_before_itself a less = let same : bytes_cmp a a ≡ Equal = tied_itself bytes_total a in cc

-- nor do two texts come before each other
pub not_both_before : (a b : List ℕ) → bytes_cmp a b ≡ Less → ¬ (bytes_cmp b a ≡ Less)
not_both_before a b less other = not_before_itself a (bytes_total.trans a b a less other)

-- one of two texts comes first, or they are equal
pub which_first : (a b : List ℕ) → (bytes_cmp a b ≡ Less) ⊎ ((a ≡ b) ⊎ (bytes_cmp b a ≡ Less))
which_first a b =
    elim (bytes_cmp a b) as (λ o. bytes_cmp a b ≡ o → (bytes_cmp a b ≡ Less) ⊎ ((a ≡ b) ⊎ (bytes_cmp b a ≡ Less))) [
      | Less ↦ λ is. inl is
      | Equal ↦ λ is. inr (inl (bytes_exact a b is))
      | Greater ↦ λ is. inr (inr (bytes_total.antisymm b a ∙ ap ordering_reverse is))
    ] refl

module _ {X : Type 0} (key : X → List ℕ) where
  -- the first key comes before that of each of the others
  pub before_others : (k : List ℕ) (xs : List X) (x : X) → AllByRecursion (λ q. bytes_cmp k q ≡ Less) (map key xs) → Contains xs x → bytes_cmp k (key x) ≡ Less
  before_others k [] x all c = absurd (none_in_empty x c)
  before_others k (a ∷ xs) x all c =
      elim (first_or_later a xs x c) [
        | inl is ↦ ap (λ q. bytes_cmp k (key q)) (sym is) ∙ all.0
        | inr later ↦ before_others k xs x all.1 later
      ]

  -- what comes after the first element is one of the others
  past_first : (x : X) (xs : List X) (q : X) → bytes_cmp (key x) (key q) ≡ Less → Contains (x ∷ xs) q → Contains xs q
  past_first x xs q less c =
      elim (first_or_later x xs q c) [
        | inl is ↦ absurd (not_before_itself (key x) (ap (λ p. bytes_cmp (key x) (key p)) is ∙ less))
        | inr later ↦ later
      ]

  -- what comes before the first element isn't there
  none_before : (x : X) (xs : List X) (q : X) → AllByRecursion (λ k. bytes_cmp (key x) k ≡ Less) (map key xs) → bytes_cmp (key q) (key x) ≡ Less → ¬ Contains (x ∷ xs) q
  none_before x xs q all less c =
      elim (first_or_later x xs q c) [
        | inl is ↦ not_before_itself (key x) (ap (λ p. bytes_cmp (key p) (key x)) is ∙ less)
        | inr later ↦ not_both_before (key x) (key q) (before_others (key x) xs q all later) less
      ]

  -- what comes before an element stands before it
  pub in_before : (before after : List X) (x other : X) → IsStrictlySortedBy bytes_cmp (map key (before ++ x ∷ after)) → Contains (before ++ x ∷ after) other → bytes_cmp (key other) (key x) ≡ Less → Contains before other
  unfolding IsStrictlySortedBy
  in_before [] after x other sorted c less = absurd (none_before x after other sorted.0 less c)
  in_before (b ∷ before) after x other sorted c less =
      elim (first_or_later b (before ++ x ∷ after) other c) [
        | inl is ↦ subst (λ q. Contains (b ∷ before) q) is (first_in b before)
        | inr later ↦ later_in b before other (in_before before after x other sorted.1 later less)
      ]

  same_first : (x y : X) (xs ys : List X) → AllByRecursion (λ k. bytes_cmp (key x) k ≡ Less) (map key xs) → AllByRecursion (λ k. bytes_cmp (key y) k ≡ Less) (map key ys) → Contains (y ∷ ys) x → Contains (x ∷ xs) y → x ≡ y
  same_first x y xs ys all other_all here there =
      elim (first_or_later y ys x here) [
        | inl is ↦ sym is
        | inr later ↦ absurd (none_before x xs y all (before_others (key y) ys x other_all later) there)
      ]

  -- two lists in order with the same elements are equal
  pub one_in_order : (xs ys : List X) → IsStrictlySortedBy bytes_cmp (map key xs) → IsStrictlySortedBy bytes_cmp (map key ys) → ((x : X) → Contains xs x → Contains ys x) → ((y : X) → Contains ys y → Contains xs y) → xs ≡ ys
  unfolding IsStrictlySortedBy
  one_in_order [] [] sorted other_sorted here there = refl
  one_in_order [] (y ∷ ys) sorted other_sorted here there = absurd (none_in_empty y (there y (first_in y ys)))
  one_in_order (x ∷ xs) [] sorted other_sorted here there = absurd (none_in_empty x (here x (first_in x xs)))
  one_in_order (x ∷ xs) (y ∷ ys) sorted other_sorted here there =
      let first : x ≡ y = same_first x y xs ys sorted.0 other_sorted.0 (here x (first_in x xs)) (there y (first_in y ys)) in
      let rest : xs ≡ ys =
      one_in_order xs ys sorted.1 other_sorted.1
      (λ q c. past_first y ys q (ap (λ p. bytes_cmp (key p) (key q)) (sym first) ∙ before_others (key x) xs q sorted.0 c) (here q (later_in x xs q c)))
      (λ q c. past_first x xs q (ap (λ p. bytes_cmp (key p) (key q)) first ∙ before_others (key y) ys q other_sorted.0 c) (there q (later_in y ys q c))) in
      (λ i. first i ∷ rest i)

  -- a key that is not after the next one and isn't equal comes before it
  before_next : (a b : List ℕ) → is_lt (bytes_cmp b a) ≡ false → eq_by_cmp bytes_cmp a b ≡ false → bytes_cmp a b ≡ Less
  before_next a b not_after apart =
      elim (which_first a b) [
        | inl less ↦ less
        | inr rest ↦ elim rest [
          | inl same ↦ absurd (true≢false (sym (ap is_eq (ap (bytes_cmp a) (sym same) ∙ tied_itself bytes_total a)) ∙ apart))
          | inr after ↦ absurd (true≢false (sym (ap is_lt after) ∙ not_after))
        ]
      ]

  -- elements that were put in order, whose keys differ, are in order, each key once
  pub sorted_once : (xs ys : List X) (d : X) → IsDistinct (eq_by_cmp bytes_cmp) (map key xs) → IsPermutation xs ys → IsSortedByKey key bytes_cmp ys → IsStrictlySortedBy bytes_cmp (map key ys)
  sorted_once xs ys d apart moved sorted =
      let distinct : IsDistinct (eq_by_cmp bytes_cmp) (map key ys) =
      IsDistinct-IsPermutation (eq_by_cmp bytes_cmp) (λ a b. flips a b) (map key xs) (map key ys) (IsPermutation-map key xs ys moved) apart in
      sorted_from_all_adjacent bytes_total (map key ys) (key d) (λ k below.
      let within : k + 1 < length ys = omega (arith, length-map ys key, below) in
      let here : get_or (map key ys) k (key d) ≡ key (get_or ys k d) = get_or-map key ys k d (key d) (omega (arith, within)) in
      let next : get_or (map key ys) (k + 1) (key d) ≡ key (get_or ys (k + 1) d) = get_or-map key ys (k + 1) d (key d) within in
      before_next (get_or (map key ys) k (key d)) (get_or (map key ys) (k + 1) (key d))
      (ap (λ q. is_lt (bytes_cmp q (get_or (map key ys) k (key d)))) next ∙ ap (λ q. is_lt (bytes_cmp (key (get_or ys (k + 1) d)) q)) here ∙ sorted k d (omega arith) within)
      (apart_from_distinct (eq_by_cmp bytes_cmp) (map key ys) k (k + 1) (key d) distinct (omega arith) below))
    where
      flips : (a b : List ℕ) → eq_by_cmp bytes_cmp a b ≡ eq_by_cmp bytes_cmp b a
      flips a b = (eq_by_cmp_equiv bytes_total).symm a b
