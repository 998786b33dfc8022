-- Two lists whose elements match one by one.
use Rattle.std.specs.Prelude.{List, [], ◌∷◌}

-- they are of one length, and each element of the one matches the element at its place in the other
abbrev pub AreMatched : {X Y : Type 0} → (X → Y → Type 0) → List X → List Y → Type 0
AreMatched R [] [] = Unit {0}
AreMatched R [] (y ∷ ys) = ⊥
AreMatched R (x ∷ xs) [] = ⊥
AreMatched R (x ∷ xs) (y ∷ ys) = R x y × AreMatched R xs ys
