-- What stands in a list, and lists that match one by one.
use Rattle.std.proofs.Common.{◌≡◌, ℕ, zero, suc, ◌<◌, List, [], ◌∷◌, ◌++◌, length, ◌⊎◌, inl, inr, refl, sym, subst, arith}
use Rattle.std.specs.Prelude.{map, slice_index_or}
use Rattle.std.specs.List.{AllByRecursion, AllZip, Contains}
use Rattle.std.proofs.lemmas.List.Elements.{All-contains, All-from_recursion, Contains-append_right, Contains-get_or, recursion_from_All}

module _ {X : Type 0} where
  -- nothing stands in the empty list
  pub none_in_empty : (q : X) → ¬ Contains [] q
  none_in_empty q c = omega (arith, c.1)

  -- the first element stands in a list, and so do the others
  pub first_in : (x : X) (xs : List X) → Contains (x ∷ xs) x
  first_in x xs = (zero, omega arith, refl)

  pub later_in : (x : X) (xs : List X) (q : X) → Contains xs q → Contains (x ∷ xs) q
  later_in x xs q c = (suc c.0, omega (arith, c.1), c.2)

  first_or_later_at : (x : X) (xs : List X) (q : X) (k : ℕ) → k < length (x ∷ xs) → slice_index_or (x ∷ xs) k q ≡ q → (x ≡ q) ⊎ Contains xs q
  first_or_later_at x xs q zero below is = inl is
  first_or_later_at x xs q (suc k) below is = inr (k, omega arith, is)

  -- an element is the first or one of the others
  pub first_or_later : (x : X) (xs : List X) (q : X) → Contains (x ∷ xs) q → (x ≡ q) ⊎ Contains xs q
  first_or_later x xs q c = first_or_later_at x xs q c.0 c.1 c.2

  -- an element that stands between others is among them
  pub among_others : (xs before after : List X) (x : X) → xs ≡ before ++ x ∷ after → Contains xs x
  among_others xs before after x is = subst (λ ys. Contains ys x) (sym is) (Contains-append_right before (x ∷ after) x (first_in x after))

  -- what holds of each element holds of one
  pub holds_of : (P : X → Type 0) (xs : List X) (x : X) → AllByRecursion P xs → Contains xs x → P x
  holds_of P xs x all c = All-contains P xs x (All-from_recursion P xs all) c

  -- what holds of each one that stands there holds of all
  pub holds_of_all : (P : X → Type 0) (xs : List X) → ((x : X) → Contains xs x → P x) → AllByRecursion P xs
  holds_of_all P xs each = recursion_from_All P xs (λ k d below. each (slice_index_or xs k d) (Contains-get_or xs k d below))

module _ {X Y : Type 0} (R : X → Y → Type 0) where
  -- one more of each
  pub zip_push : (xs : List X) (ys : List Y) (x : X) (y : Y) → AllZip R xs ys → R x y → AllZip R (xs ++ x ∷ []) (ys ++ y ∷ [])
  zip_push [] [] x y all one = (one, tt)
  zip_push [] (b ∷ ys) x y all one = absurd all
  zip_push (a ∷ xs) [] x y all one = absurd all
  zip_push (a ∷ xs) (b ∷ ys) x y all one = (all.0, zip_push xs ys x y all.1 one)

  -- an element of the one list has one in the other that matches it
  pub zip_right : (xs : List X) (ys : List Y) (x : X) → AllZip R xs ys → Contains xs x → (y : Y) × Contains ys y × R x y
  zip_right [] ys x all c = absurd (none_in_empty x c)
  zip_right (a ∷ xs) [] x all c = absurd all
  zip_right (a ∷ xs) (b ∷ ys) x all c =
      elim (first_or_later a xs x c) [
        | inl is ↦ (b, first_in b ys, subst (λ q. R q b) is all.0)
        | inr later ↦ (let rest = zip_right xs ys x all.1 later in (rest.0, later_in b ys rest.0 rest.1, rest.2))
      ]

  pub zip_left : (xs : List X) (ys : List Y) (y : Y) → AllZip R xs ys → Contains ys y → (x : X) × Contains xs x × R x y
  zip_left xs [] y all c = absurd (none_in_empty y c)
  zip_left [] (b ∷ ys) y all c = absurd all
  zip_left (a ∷ xs) (b ∷ ys) y all c =
      elim (first_or_later b ys y c) [
        | inl is ↦ (a, first_in a xs, subst (λ q. R a q) is all.0)
        | inr later ↦ (let rest = zip_left xs ys y all.1 later in (rest.0, later_in a xs rest.0 rest.1, rest.2))
      ]

  -- what each matching one tells of an element
  pub zip_tells : (P : X → Type 0) → ((x : X) (y : Y) → R x y → P x) → (xs : List X) (ys : List Y) → AllZip R xs ys → AllByRecursion P xs
  zip_tells P tells [] [] all = tt
  zip_tells P tells [] (b ∷ ys) all = absurd all
  zip_tells P tells (a ∷ xs) [] all = absurd all
  zip_tells P tells (a ∷ xs) (b ∷ ys) all = (tells a b all.0, zip_tells P tells xs ys all.1)

  -- two values that matching elements share
  pub zip_same : {Z : Type 0} (f : X → Z) (g : Y → Z) → ((x : X) (y : Y) → R x y → f x ≡ g y) → (xs : List X) (ys : List Y) → AllZip R xs ys → map f xs ≡ map g ys
  zip_same f g same [] [] all = refl
  zip_same f g same [] (b ∷ ys) all = absurd all
  zip_same f g same (a ∷ xs) [] all = absurd all
  zip_same f g same (a ∷ xs) (b ∷ ys) all = let first = same a b all.0 in let rest = zip_same f g same xs ys all.1 in (λ i. first i ∷ rest i)

  -- both are empty where one is
  pub zip_some : (xs : List X) (ys : List Y) → AllZip R xs ys → 0 < length xs → 0 < length ys
  zip_some [] ys all some = absurd (omega arith)
  zip_some (a ∷ xs) [] all some = absurd all
  zip_some (a ∷ xs) (b ∷ ys) all some = omega arith
