-- Lists in strict order, by what they contain.
use Rattle.std.proofs.Common.{◌≡◌, ◌<◌, List, [], ◌∷◌, ◌++◌, get_or, refl, sym, ap, ◌∙◌, subst, arith}
use Rattle.std.specs.Prelude.{◌⊎◌}
use mathlib.Core.Logic.{inl, inr}
use Rattle.std.specs.Cmp.{IsTotalOrder, nat_cmp_is, nat_cmp_total, on_total, then_total, tied_itself}
use Rattle.std.specs.List.{AllByRecursion, Contains}
use Rattle.std.specs.List.Sorted.{IsStrictlySortedBy}
use Rattle.std.specs.Ordering.{nat_cmp, ordering_then}
use Rattle.std.specs.declared.cmp.Ordering.{Ordering}
use Rattle.std.specs.declared.cmp.Ordering.TheVariants.{Less}
use Rattle.std.proofs.lemmas.List.Elements.{All-contains, All-from_recursion, Contains-append_cases, Contains-append_right, Contains-get_or, Contains-push_cases, recursion_from_All}
use Rattle.ext_text.specs.Order.{paths_total}
use Rattle.ext_text.specs.Path.{path_cmp}
use Rattle.ext_text.proofs.ForCallers.{all_append}
use Rattle.ext_installed.specs.declared.instance.Instance.{Instance}
use Rattle.ext_installed.specs.Installed.{instance_cmp}

-- nothing is contained in no list
pub none_contained : {X : Type 0} (x : X) → Contains [] x → ⊥
none_contained x at = omega (arith, at.1)

-- what is contained in a list is its first element or is contained in the others
pub contains_cases : {X : Type 0} (x y : X) (xs : List X) → Contains (x ∷ xs) y → (x ≡ y) ⊎ Contains xs y
contains_cases x y xs at = elim (Contains-append_cases (x ∷ []) xs y at) [
  | inl first ↦ elim (Contains-push_cases [] x y first) [ inl none ↦ absurd (none_contained y none) | inr same ↦ inl same ]
  | inr later ↦ inr later
]

-- what holds of all that is contained holds of each element
pub each_contained : {X : Type 0} (P : X → Type 0) (xs : List X) → ((x : X) → Contains xs x → P x) → AllByRecursion P xs
each_contained P xs holds = recursion_from_All P xs (λ k d low. holds (get_or xs k d) (Contains-get_or xs k d low))

-- what is contained among elements that all come after one comes after it too
above_contained : {X : Type 0} (R : X → X → Ordering) (x y : X) (xs : List X) → AllByRecursion (λ z. R x z ≡ Less) xs → Contains xs y → R x y ≡ Less
above_contained R x y xs above at = All-contains (λ z. R x z ≡ Less) xs y (All-from_recursion (λ z. R x z ≡ Less) xs above) at

module _ {X : Type 0} (R : X → X → Ordering) where
  -- no elements are in order
  pub sorted_none : IsStrictlySortedBy R []
  unfolding IsStrictlySortedBy
  sorted_none = tt

  pub sorted_one : (x : X) → IsStrictlySortedBy R (x ∷ [])
  unfolding IsStrictlySortedBy
  sorted_one x = (tt, tt)

  -- two lists one after another, where all of the first come before all of the second
  pub sorted_both : (xs ys : List X) → IsStrictlySortedBy R xs → IsStrictlySortedBy R ys → ((x y : X) → Contains xs x → Contains ys y → R x y ≡ Less) → IsStrictlySortedBy R (xs ++ ys)
  unfolding IsStrictlySortedBy
  sorted_both [] ys first second apart = second
  sorted_both (x ∷ xs) ys first second apart = (
    all_append (λ z. R x z ≡ Less) xs ys first.0 (each_contained (λ z. R x z ≡ Less) ys (λ y at. apart x y (0, omega arith, refl) at)),
    sorted_both xs ys first.1 second (λ z y in_ at. apart z y (Contains-append_right (x ∷ []) xs z in_) at),
  )

  module _ (o : IsTotalOrder R) where
    not_before_itself : (x : X) → R x x ≡ Less → ⊥
    not_before_itself x less = absurd (cc (sym (tied_itself o x) ∙ less))

    same_first : (x y : X) (xs ys : List X) → AllByRecursion (λ z. R x z ≡ Less) xs → AllByRecursion (λ z. R y z ≡ Less) ys → (x ≡ y) ⊎ Contains xs y → (y ≡ x) ⊎ Contains ys x → x ≡ y
    same_first x y xs ys above_x above_y (inl same) other = same
    same_first x y xs ys above_x above_y (inr later) (inl same) = sym same
    same_first x y xs ys above_x above_y (inr later) (inr other) = absurd (not_before_itself x (o.trans x y x (above_contained R x y xs above_x later) (above_contained R y x ys above_y other)))

    rest_contained : (x z : X) (xs ys : List X) → AllByRecursion (λ z. R x z ≡ Less) xs → Contains xs z → (x ≡ z) ⊎ Contains ys z → Contains ys z
    rest_contained x z xs ys above at (inl same) = absurd (not_before_itself x (subst (λ w. R x w ≡ Less) (sym same) (above_contained R x z xs above at)))
    rest_contained x z xs ys above at (inr later) = later

    -- two lists in strict order that contain the same are equal
    pub same_contained : (xs ys : List X) → IsStrictlySortedBy R xs → IsStrictlySortedBy R ys → ((z : X) → Contains xs z → Contains ys z) → ((z : X) → Contains ys z → Contains xs z) → xs ≡ ys
    unfolding IsStrictlySortedBy
    same_contained [] [] sorted other there back = refl
    same_contained [] (y ∷ ys) sorted other there back = absurd (none_contained y (back y (0, omega arith, refl)))
    same_contained (x ∷ xs) [] sorted other there back = absurd (none_contained x (there x (0, omega arith, refl)))
    same_contained (x ∷ xs) (y ∷ ys) sorted other there back =
        let first = same_first x y xs ys sorted.0 other.0 (contains_cases x y xs (back y (0, omega arith, refl))) (contains_cases y x ys (there x (0, omega arith, refl))) in
        let above = subst (λ w. AllByRecursion (λ z. R w z ≡ Less) xs) first sorted.0 in
        let rest = same_contained xs ys sorted.1 other.1
        (λ z at. rest_contained y z xs ys above at (contains_cases y z ys (there z (Contains-append_right (x ∷ []) xs z at))))
        (λ z at. rest_contained y z ys xs other.0 at (subst (λ w. (w ≡ z) ⊎ Contains xs z) first (contains_cases x z xs (back z (Contains-append_right (y ∷ []) ys z at))))) in
        ap (λ w. w ∷ xs) first ∙ ap (λ (ws : List X). y ∷ ws) rest

-- the order of instances
pub instances_total : IsTotalOrder instance_cmp
instances_total = then_total (on_total (λ (item : Instance). item.transfer) nat_cmp_total) (on_total (λ (item : Instance). item.path) paths_total)

-- instances of one transfer come in the order of their paths
pub before_by_path : (a b : Instance) → a.transfer ≡ b.transfer → path_cmp a.path b.path ≡ Less → instance_cmp a b ≡ Less
before_by_path a b same less = ap (λ r. ordering_then r (path_cmp a.path b.path)) (ap (λ n. nat_cmp a.transfer n) (sym same) ∙ tied_itself nat_cmp_total a.transfer) ∙ less

-- those of an earlier transfer come first
pub before_by_transfer : (a b : Instance) → a.transfer < b.transfer → instance_cmp a b ≡ Less
before_by_transfer a b less = ap (λ r. ordering_then r (path_cmp a.path b.path)) (sym (nat_cmp_is a.transfer b.transfer Less less))
