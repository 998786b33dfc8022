-- Entries in the order of their keys that pass a test stand one after another: what a search by halves finds. This belongs
-- to the crate of trees.
use Rattle.std.proofs.Common.{◌≡◌, ℕ, suc, zero, ◌≤◌, Bool, true, false, cond, not, ◌&&◌, List, [], ◌∷◌, length, take, drop, get_or, refl, sym, ap, ◌∙◌, arith}
use Rattle.std.specs.Prelude.{IsTrue}
use Rattle.std.specs.List.{AllWithin, filter}
use Rattle.std.specs.List.Sorted.{IsPartitionedBy, IsPartitionPoint}
use Rattle.std.specs.declared.cmp.Ordering.{Ordering}
use Rattle.std.specs.declared.cmp.Ordering.TheVariants.{Less}
use Rattle.std.specs.FinMap.{is_sorted}
use Rattle.std.proofs.lemmas.Bool.{and_parts}
use Rattle.ext_tree.proofs.ForCallers.{below_at}

filter_none : {X : Type 0} (p : X → Bool) (xs : List X) → AllWithin (λ x. p x ≡ false) xs 0 (length xs) → (filter p xs ≡ []) × (filter (λ x. not (p x)) xs ≡ xs)
filter_none p [] none = (refl, refl)
filter_none p (x ∷ xs) none =
    let here = none zero x (omega arith) (omega arith) in
    let rest = filter_none p xs (λ i d low high. none (suc i) d (omega arith) (omega arith)) in (
      (λ i. cond (here i) (x ∷ filter p xs) (filter p xs)) ∙ rest.0,
      (λ i. cond (not (here i)) (x ∷ filter (λ x. not (p x)) xs) (filter (λ x. not (p x)) xs)) ∙ ap (λ ys. x ∷ ys) rest.1,
    )

-- what passes stands before a partition point, what does not from it on
pub filter_point : {X : Type 0} (p : X → Bool) (xs : List X) (i : ℕ) → i ≤ length xs → IsPartitionPoint (λ x. p x ≡ true) (λ x. p x ≡ false) xs i → (take i xs ≡ filter p xs) × (drop i xs ≡ filter (λ x. not (p x)) xs)
filter_point p xs zero within at =
    let none = filter_none p xs at.1 in
    (sym none.0, sym none.1)
filter_point p [] (suc i) within at = absurd (omega arith)
filter_point p (x ∷ xs) (suc i) within at =
    let here = at.0 zero x (omega arith) (omega arith) in
    let rest = filter_point p xs i (omega arith) ((λ j d low high. at.0 (suc j) d (omega arith) (omega arith)), (λ j d low high. at.1 (suc j) d (omega arith) (omega arith))) in (
      ap (λ ys. x ∷ ys) rest.0 ∙ (λ i. cond (sym here i) (x ∷ filter p xs) (filter p xs)),
      rest.1 ∙ (λ i. cond (not (sym here i)) (x ∷ filter (λ x. not (p x)) xs) (filter (λ x. not (p x)) xs)),
    )

-- a filter after another
pub filter_both : {X : Type 0} (p q : X → Bool) (xs : List X) → filter p (filter q xs) ≡ filter (λ x. q x && p x) xs
filter_both p q [] = refl
filter_both p q (x ∷ xs) =
    let rest = filter_both p q xs in
    elim (q x) as (λ b. filter p (cond b (x ∷ filter q xs) (filter q xs)) ≡ cond (b && p x) (x ∷ filter (λ x. q x && p x) xs) (filter (λ x. q x && p x) xs)) [
      | true ↦ λ i. cond (p x) (x ∷ rest i) (rest i)
      | false ↦ rest
    ]

module _ {K X : Type 0} (R : K → K → Ordering) where
  -- a test that what comes before passes too
  pub rising : (P : K → Bool) → ((x y : K) → R x y ≡ Less → P y ≡ true → P x ≡ true) → (es : List (K × X)) → IsTrue (is_sorted R es) → IsPartitionedBy (λ e. P e.0) es
  rising P down [] h i j d le lt pass = absurd (omega arith)
  rising P down (e ∷ es) h zero zero d le lt pass = pass
  rising P down (e ∷ es) h (suc i) zero d le lt pass = absurd (omega arith)
  rising P down (e ∷ es) h zero (suc j) d le lt pass =
      down e.0 (get_or es j d).0 (below_at R e.0 es j d (and_parts _ _ h).0 (omega arith)) pass
  rising P down (e ∷ es) h (suc i) (suc j) d le lt pass = rising P down es (and_parts _ _ h).1 i j d (omega arith) (omega arith) pass
