-- Lists whose elements match one by one.
use Rattle.std.proofs.Common.{List, [], ◌∷◌, ◌++◌}
use Rattle.ext_view.specs.Matched.{AreMatched}

module _ {X Y : Type 0} (R : X → Y → Type 0) where
  -- one more of each
  pub matched_push : (xs : List X) (ys : List Y) (x : X) (y : Y) → AreMatched R xs ys → R x y → AreMatched R (xs ++ x ∷ []) (ys ++ y ∷ [])
  matched_push [] [] x y all one = (one, tt)
  matched_push [] (b ∷ ys) x y all one = absurd all
  matched_push (a ∷ xs) [] x y all one = absurd all
  matched_push (a ∷ xs) (b ∷ ys) x y all one = (all.0, matched_push xs ys x y all.1 one)
