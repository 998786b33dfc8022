-- Lists that ascend: their first elements, and one element more.
use Rattle.std.proofs.Common.{◌≡◌, List, [], ◌∷◌, ◌++◌}
use Rattle.std.specs.List.{AllByRecursion}
use Rattle.std.specs.declared.cmp.Ordering.{Ordering}
use Rattle.std.specs.declared.cmp.Ordering.TheVariants.{Less}
use Rattle.ext_text.proofs.ForCallers.{all_append, all_prefix}
use Rattle.ext_host.specs.Valid.{AreAscending}

module _ {X : Type 0} (R : X → X → Ordering) where
  -- the first elements ascend
  pub ascending_prefix : (xs ys : List X) → AreAscending R (xs ++ ys) → AreAscending R xs
  ascending_prefix [] ys up = tt
  ascending_prefix (x ∷ xs) ys up = (all_prefix (λ y. R x y ≡ Less) xs ys up.0, ascending_prefix xs ys up.1)

  -- one more that comes after each ascends too
  pub ascending_push : (xs : List X) (y : X) → AreAscending R xs → AllByRecursion (λ x. R x y ≡ Less) xs → AreAscending R (xs ++ y ∷ [])
  ascending_push [] y up below = (tt, tt)
  ascending_push (x ∷ xs) y up below = (all_append (λ z. R x z ≡ Less) xs (y ∷ []) up.0 (below.0, tt), ascending_push xs y up.1 below.1)

  module _ (trans : (x y z : X) → R x y ≡ Less → R y z ≡ Less → R x z ≡ Less) where
    -- what comes after the last comes after each
    pub all_below_last : (xs : List X) (last y : X) → AreAscending R (xs ++ last ∷ []) → R last y ≡ Less → AllByRecursion (λ x. R x y ≡ Less) (xs ++ last ∷ [])
    all_below_last [] last y up less = (less, tt)
    all_below_last (x ∷ xs) last y up less = (trans x last y (last_of xs up.0) less, all_below_last xs last y up.1 less)
      where
        last_of : (zs : List X) → AllByRecursion (λ z. R x z ≡ Less) (zs ++ last ∷ []) → R x last ≡ Less
        last_of [] all = all.0
        last_of (z ∷ zs) all = last_of zs all.1

    -- so it may stand next
    pub ascending_next : (xs : List X) (last y : X) → AreAscending R (xs ++ last ∷ []) → R last y ≡ Less → AreAscending R ((xs ++ last ∷ []) ++ y ∷ [])
    ascending_next xs last y up less = ascending_push (xs ++ last ∷ []) y up (all_below_last xs last y up less)
