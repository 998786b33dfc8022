-- What filtered and mapped lists contain, and where a test splits a list in two.
use Rattle.std.proofs.Common.{◌≡◌, ℕ, zero, suc, ◌≤◌, Bool, true, false, cond, not, List, [], ◌∷◌, length, map, take, drop, refl, sym, ap, ◌∙◌, subst, arith}
use mathlib.Core.Logic.{inl, inr}
use Rattle.std.specs.List.{Contains, filter}
use Rattle.std.specs.List.Sorted.{IsPartitionPoint}
use Rattle.std.proofs.lemmas.Bool.{false≢true}
use Rattle.std.proofs.lemmas.List.Elements.{Contains-append_right}
use Rattle.ext_installed.proofs.ForCallers.{contains_cases, none_contained}

-- the first element is contained
pub first_contained : {X : Type 0} (x : X) (xs : List X) → Contains (x ∷ xs) x
first_contained x xs = (0, omega arith, refl)

-- and what the others contain
pub later_contained : {X : Type 0} (x y : X) (xs : List X) → Contains xs y → Contains (x ∷ xs) y
later_contained x y xs at = Contains-append_right (x ∷ []) xs y at

module _ {X : Type 0} (test : X → Bool) where
  -- what a filter keeps is contained, and passes
  pub filter_parts : (xs : List X) (y : X) → Contains (filter test xs) y → Contains xs y × (test y ≡ true)
  filter_parts [] y at = absurd (none_contained y at)
  filter_parts (x ∷ xs) y at =
      elim (test x) as (λ b. test x ≡ b → Contains (cond b (x ∷ filter test xs) (filter test xs)) y → Contains (x ∷ xs) y ×
      (test y ≡ true)) [
        | true ↦ λ pass kept. elim (contains_cases x y (filter test xs) kept) [
          | inl same ↦ (subst (λ z. Contains (x ∷ xs) z) same (first_contained x xs), subst (λ z. test z ≡ true) same pass)
          | inr later ↦ let rest = filter_parts xs y later in (later_contained x y xs rest.0, rest.1)
        ]
        | false ↦ λ _ kept. let rest = filter_parts xs y kept in (later_contained x y xs rest.0, rest.1)
      ] refl at

  -- what is contained and passes is kept
  pub filter_has : (xs : List X) (y : X) → Contains xs y → test y ≡ true → Contains (filter test xs) y
  filter_has [] y at pass = absurd (none_contained y at)
  filter_has (x ∷ xs) y at pass =
      elim (test x) as (λ b. test x ≡ b → Contains (cond b (x ∷ filter test xs) (filter test xs)) y) [
        | true ↦ λ _. elim (contains_cases x y xs at) [
          | inl same ↦ subst (λ z. Contains (x ∷ filter test xs) z) same (first_contained x (filter test xs))
          | inr later ↦ later_contained x y (filter test xs) (filter_has xs y later pass)
        ]
        | false ↦ λ fails. elim (contains_cases x y xs at) [
          | inl same ↦ absurd (false≢true (sym fails ∙ ap test same ∙ pass))
          | inr later ↦ filter_has xs y later pass
        ]
      ] refl

  -- a filter of what a weaker test keeps is a filter of all
  pub filter_within : (weaker : X → Bool) → ((x : X) → test x ≡ true → weaker x ≡ true) → (xs : List X)
      → filter test (filter weaker xs) ≡ filter test xs
  filter_within weaker follows [] = refl
  filter_within weaker follows (x ∷ xs) =
      elim (weaker x) as (λ b. weaker x ≡ b → filter test (cond b (x ∷ filter weaker xs) (filter weaker xs)) ≡ filter test (x ∷ xs)) [
        | true ↦ λ _. ap (λ (ys : List X). cond (test x) (x ∷ ys) ys) (filter_within weaker follows xs)
        | false ↦ λ not_weaker.
            filter_within weaker follows xs
            ∙ ap (λ b. cond b (x ∷ filter test xs) (filter test xs)) (sym (fails_too x not_weaker))
      ] refl
    where
      fails_too : (y : X) → weaker y ≡ false → test y ≡ false
      fails_too y not_weaker =
          elim (test y) as (λ b. test y ≡ b → b ≡ false) [
            | true ↦ λ pass. absurd
                (false≢true (sym not_weaker ∙ follows y pass))
            | false ↦ λ _. refl
          ] refl

-- the elements before the point at which a test splits a list are those that pass it, and the others are those that don't
pub split_at_point : {X : Type 0} (test : X → Bool) (xs : List X) (i : ℕ) → i ≤ length xs
    → IsPartitionPoint (λ x. test x ≡ true) (λ x. test x ≡ false) xs i
    → (take i xs ≡ filter test xs) × (drop i xs ≡ filter (λ x. not (test x)) xs)
split_at_point test [] zero within at = (refl, refl)
split_at_point test [] (suc i) within at = absurd (omega (arith, within))
split_at_point test (x ∷ xs) zero within at =
    let fails = at.1 zero x (omega arith) (omega arith) in
    let rest = split_at_point test xs zero (omega arith)
    ((λ j d low high. absurd (omega (arith, high))), (λ j d low high. at.1 (suc j) d (omega arith) (omega (arith, high)))) in (
      rest.0 ∙ ap (λ b. cond b (x ∷ filter test xs) (filter test xs)) (sym fails),
      ap (λ ys. x ∷ ys) rest.1 ∙ ap (λ b. cond (not b) (x ∷ filter (λ y. not (test y)) xs) (filter (λ y. not (test y)) xs)) (sym fails),
    )
split_at_point test (x ∷ xs) (suc i) within at =
    let passes = at.0 zero x (omega arith) (omega arith) in
    let rest = split_at_point test xs i (omega (arith, within)) (
      (λ j d low high. at.0 (suc j) d (omega arith) (omega (arith, high))),
      (λ j d low high. at.1 (suc j) d (omega (arith, low)) (omega (arith, high))),
    ) in (
      ap (λ ys. x ∷ ys) rest.0 ∙ ap (λ b. cond b (x ∷ filter test xs) (filter test xs)) (sym passes),
      rest.1 ∙ ap (λ b. cond (not b) (x ∷ filter (λ y. not (test y)) xs) (filter (λ y. not (test y)) xs)) (sym passes),
    )

-- what a mapped list contains is the image of what is contained
pub map_parts : {X Y : Type 0} (f : X → Y) (xs : List X) (y : Y) → Contains (map f xs) y → (x : X) × Contains xs x × (f x ≡ y)
map_parts f [] y at = absurd (none_contained y at)
map_parts f (x ∷ xs) y at = elim (contains_cases (f x) y (map f xs) at) [
  | inl same ↦ (x, first_contained x xs, same)
  | inr later ↦ let rest = map_parts f xs y later in (rest.0, later_contained x rest.0 xs rest.1, rest.2)
]

-- the image of what is contained is contained
pub map_has : {X Y : Type 0} (f : X → Y) (xs : List X) (x : X) → Contains xs x → Contains (map f xs) (f x)
map_has f [] x at = absurd (none_contained x at)
map_has f (z ∷ xs) x at = elim (contains_cases z x xs at) [
  | inl same ↦ subst (λ w. Contains (f z ∷ map f xs) (f w)) same (first_contained (f z) (map f xs))
  | inr later ↦ later_contained (f z) (f x) (map f xs) (map_has f xs x later)
]
