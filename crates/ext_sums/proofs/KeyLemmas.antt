-- Keys of texts, where they differ, are ordered as the texts.
use Rattle.std.proofs.Common.{◌≡◌, ℕ, zero, suc, ◌<◌, true, false, ltb, List, [], ◌∷◌, refl, sym, ap, subst, ◌∙◌, arith}
use Rattle.std.specs.Cmp.{nat_cmp_total, tied_itself}
use Rattle.std.specs.Ordering.{MatchOrdering, nat_cmp, ordering_reverse, ordering_then}
use Rattle.std.specs.declared.cmp.Ordering.TheVariants.{Less, Equal, Greater}
use Rattle.std.proofs.lemmas.Bool.{lt-ltb, ltb-false, ltb-true}
use Rattle.std.proofs.lemmas.Cmp.{ranked}
use Rattle.ext_lines.specs.ByteOrder.{bytes_cmp, bytes_total}
use Rattle.ext_sums.specs.Sorting.{AreBytes, byte_at, key_of}

less_is : (a b : ℕ) → a < b → nat_cmp a b ≡ Less
less_is a b lt = rw (lt-ltb a b lt) refl

-- the first place where two texts differ orders them, where 0 stands after the end
first_less : (n : ℕ) (x y : List ℕ) → ((i : ℕ) → i < n → byte_at x i ≡ byte_at y i) → byte_at x n < byte_at y n → bytes_cmp x y ≡ Less
first_less n [] [] same lt = absurd (omega arith)
first_less n [] (b ∷ y) same lt = refl
first_less n (a ∷ x) [] same lt = absurd (omega arith)
first_less zero (a ∷ x) (b ∷ y) same lt = ap (λ r. ordering_then r (bytes_cmp x y)) (less_is a b lt)
first_less (suc n) (a ∷ x) (b ∷ y) same lt =
    let first : a ≡ b = same 0 (omega arith) in
    ap (λ r. ordering_then r (bytes_cmp x y)) (ap (nat_cmp a) (sym first) ∙ tied_itself nat_cmp_total a)
    ∙ first_less n x y (λ i less. same (suc i) (omega arith)) lt

-- equal keys are of equal bytes
same_bytes : (n : ℕ) (x y : List ℕ) → AreBytes x → AreBytes y → key_of n x ≡ key_of n y → (i : ℕ) → i < n → byte_at x i ≡ byte_at y i
same_bytes zero x y xs ys same i less = absurd (omega arith)
same_bytes (suc n) x y xs ys same i less =
    let small = xs n in
    let little = ys n in
    elim (ltb i n) as (λ b. ltb i n ≡ b → byte_at x i ≡ byte_at y i) [
      | true ↦ λ p. same_bytes n x y xs ys (omega arith) i (ltb-true i n p)
      | false ↦ λ p. let last : n ≡ i = omega (arith, ltb-false i n p) in subst (λ k. byte_at x k ≡ byte_at y k) last (omega arith)
    ] refl

-- the text with the smaller key comes first
key_less : (n : ℕ) (x y : List ℕ) → AreBytes x → AreBytes y → key_of n x < key_of n y → bytes_cmp x y ≡ Less
key_less zero x y xs ys less = absurd (omega arith)
key_less (suc n) x y xs ys less =
    let small = xs n in
    let little = ys n in
    elim (ltb (key_of n x) (key_of n y)) as (λ b. ltb (key_of n x) (key_of n y) ≡ b → bytes_cmp x y ≡ Less) [
      | true ↦ λ p. key_less n x y xs ys (ltb-true _ _ p)
      | false ↦ λ p.
          let not_less = ltb-false (key_of n x) (key_of n y) p in
          let same : key_of n x ≡ key_of n y = omega arith in
          first_less n x y (same_bytes n x y xs ys same) (omega arith)
    ] refl

-- keys first, and then the texts, is the order of the texts
pub key_order : (x y : List ℕ) → AreBytes x → AreBytes y → ordering_then (nat_cmp (key_of 8 x) (key_of 8 y)) (bytes_cmp x y) ≡ bytes_cmp x y
key_order x y xs ys =
    let kx = key_of 8 x in
    let ky = key_of 8 y in
    elim (nat_cmp kx ky) as (λ r. MatchOrdering r (kx < ky) (kx ≡ ky) (ky < kx) → ordering_then r (bytes_cmp x y) ≡ bytes_cmp x y) [
      | Less ↦ λ less. sym (key_less 8 x y xs ys less)
      | Equal ↦ λ same. refl
      | Greater ↦ λ more. sym (bytes_total.antisymm x y ∙ ap ordering_reverse (key_less 8 y x ys xs more))
    ] (ranked kx ky (nat_cmp kx ky) refl)
