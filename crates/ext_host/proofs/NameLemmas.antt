-- Paths and a name directly below the root: what comes before it, is at or below it, and comes after it.
use Rattle.std.proofs.Common.{◌≡◌, ℕ, true, false, not, ◌&&◌, ◌||◌, List, [], ◌∷◌, ◌⊎◌, inl, inr, refl, sym, ap, ◌∙◌, subst}
use Rattle.std.proofs.lemmas.Bool.{false≢true, true≢false}
use Rattle.std.specs.List.{AllByRecursion}
use Rattle.std.specs.Ordering.{eq_by_cmp, is_eq, is_gt, is_lt, ordering_reverse, ordering_then}
use Rattle.std.specs.declared.cmp.Ordering.{Ordering}
use Rattle.std.specs.declared.cmp.Ordering.TheVariants.{Less, Equal, Greater}
use Rattle.ext_lines.specs.ByteOrder.{bytes_cmp, bytes_exact, bytes_total}
use Rattle.ext_text.specs.Path.{is_prefix, path_cmp}
use Rattle.ext_text.proofs.ForCallers.{is_equal, is_greater, is_less}
use Rattle.ext_host.specs.Base.{comes_after, comes_before, first_name_cmp, stands_at}
use Rattle.ext_host.specs.Host.{is_in}

flip_less : (x y : List ℕ) → bytes_cmp x y ≡ Less → bytes_cmp y x ≡ Greater
flip_less x y less = bytes_total.antisymm y x ∙ ap ordering_reverse less

flip_greater : (x y : List ℕ) → bytes_cmp x y ≡ Greater → bytes_cmp y x ≡ Less
flip_greater x y greater = bytes_total.antisymm y x ∙ ap ordering_reverse greater

less_or_equal : (r s : Ordering) → ordering_then r s ≡ Less → (r ≡ Less) ⊎ (r ≡ Equal)
less_or_equal Less s h = inl refl
less_or_equal Equal s h = inr refl
less_or_equal Greater s h = inl h

greater_not_less : Greater ≡ Less → ⊥
greater_not_less h = false≢true (ap is_lt h)

pub before_down : (n : List ℕ) (x y : List (List ℕ)) → path_cmp x y ≡ Less → comes_before n y ≡ true → comes_before n x ≡ true
before_down n [] y less before = refl
before_down n (a ∷ x) [] less before = absurd (greater_not_less less)
before_down n (a ∷ x) (m ∷ y) less before =
    let m_below = flip_greater n m (is_greater _ before) in
    elim (less_or_equal (bytes_cmp a m) (path_cmp x y) less) [
      | inl first ↦ ap is_gt (flip_less a n (bytes_total.trans a m n first m_below))
      | inr tied ↦ ap is_gt (flip_less a n (bytes_total.congr a m n tied ∙ m_below))
    ]

after_up : (n : List ℕ) (x y : List (List ℕ)) → path_cmp x y ≡ Less → comes_after n x ≡ true → comes_after n y ≡ true
after_up n [] y less after = absurd (false≢true after)
after_up n (a ∷ x) [] less after = absurd (greater_not_less less)
after_up n (a ∷ x) (m ∷ y) less after =
    elim (less_or_equal (bytes_cmp a m) (path_cmp x y) less) [
      | inl first ↦ ap is_lt (bytes_total.trans n a m (is_less _ after) first)
      | inr tied ↦ subst (λ k. is_lt (bytes_cmp n k) ≡ true) (bytes_exact a m tied) after
    ]

pub after_down : (n : List ℕ) (x y : List (List ℕ)) → path_cmp x y ≡ Less → not (comes_after n y) ≡ true → not (comes_after n x) ≡ true
after_down n x y less out =
    elim (comes_after n x) as (λ b. comes_after n x ≡ b → not b ≡ true) [
      | true ↦ λ after. absurd (false≢true (sym (ap not (after_up n x y less after)) ∙ out))
      | false ↦ λ _. refl
    ] refl

-- neither before nor after is at the name
pub neither : (n : List ℕ) (x : List (List ℕ)) → (not (comes_before n x) && not (comes_after n x)) ≡ stands_at n x
neither n x = elim (first_name_cmp n x) as (λ o. (not (is_gt o) && not (is_lt o)) ≡ is_eq o) [ Less ↦ refl | Equal ↦ refl | Greater ↦ refl ]

-- what comes before a name comes before what does not
pub before_first : (n : List ℕ) (x y : List (List ℕ)) → comes_before n x ≡ true → comes_before n y ≡ false → path_cmp x y ≡ Less
before_first n [] [] before out = absurd (true≢false out)
before_first n [] (m ∷ y) before out = refl
before_first n (a ∷ x) [] before out = absurd (true≢false out)
before_first n (a ∷ x) (m ∷ y) before out =
    ap (λ r. ordering_then r (path_cmp x y))
    (elim (bytes_cmp n m) as (λ o. bytes_cmp n m ≡ o → is_gt o ≡ false → bytes_cmp a m ≡ Less) [
      | Less ↦ λ less _. bytes_total.trans a n m (flip_greater n a (is_greater _ before)) less
      | Equal ↦ λ tied _. subst (λ k. bytes_cmp a k ≡ Less) (bytes_exact n m tied) (flip_greater n a (is_greater _ before))
      | Greater ↦ λ _ gt. absurd (true≢false gt)
    ] refl out)

-- what is at a name comes before what comes after it
pub at_first : (n : List ℕ) (x y : List (List ℕ)) → stands_at n x ≡ true → comes_after n y ≡ true → path_cmp x y ≡ Less
at_first n [] y at after = absurd (false≢true at)
at_first n (a ∷ x) [] at after = absurd (false≢true after)
at_first n (a ∷ x) (m ∷ y) at after =
    ap (λ r. ordering_then r (path_cmp x y)) (sym (bytes_total.congr n a m (is_equal _ at)) ∙ is_less _ after)

pub at_not_before : (n : List ℕ) (x : List (List ℕ)) → stands_at n x ≡ true → comes_before n x ≡ false
at_not_before n x at = ap is_gt (is_equal (first_name_cmp n x) at)

pub after_not_before : (n : List ℕ) (x : List (List ℕ)) → comes_after n x ≡ true → comes_before n x ≡ false
after_not_before n x after = ap is_gt (is_less (first_name_cmp n x) after)

-- a path at or below a name
pub prefix_at : (n : List ℕ) (p : List (List ℕ)) → is_prefix (n ∷ []) p ≡ stands_at n p
prefix_at n [] = refl
prefix_at n (m ∷ p) = elim (eq_by_cmp bytes_cmp n m) as (λ b. (b && true) ≡ b) [ true ↦ refl | false ↦ refl ]

-- what comes before a name is in none of the names that do not come before it
pub in_none : (n : List ℕ) (names : List (List ℕ)) (p : List (List ℕ)) → AllByRecursion (λ m. is_lt (bytes_cmp m n) ≡ false) names → comes_before n p ≡ true → is_in names p ≡ false
in_none n [] p up before = refl
in_none n (m ∷ names) p up before =
    ap (λ b. b || is_in names p) (prefix_at m p ∙ apart p before) ∙ in_none n names p up.1 before
  where
    apart : (q : List (List ℕ)) → comes_before n q ≡ true → stands_at m q ≡ false
    apart [] h = refl
    apart (a ∷ q) h =
        elim (eq_by_cmp bytes_cmp m a) as (λ b. eq_by_cmp bytes_cmp m a ≡ b → b ≡ false) [
          | true ↦ λ tied.
              let less : bytes_cmp m n ≡ Less = bytes_total.congr m a n (is_equal _ tied) ∙ flip_greater n a (is_greater _ h) in
              absurd (true≢false (sym (ap is_lt less) ∙ up.0))
          | false ↦ λ _. refl
        ] refl

-- whether a path is in one of the names depends on its first name
pub in_first : (names : List (List ℕ)) (a m : List ℕ) (p q : List (List ℕ)) → a ≡ m → is_in names (a ∷ p) ≡ is_in names (m ∷ q)
in_first names a m p q same = ap (λ k. is_in names (k ∷ q)) same
