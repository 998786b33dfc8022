-- The names that a walk has left, which the code keeps with the next one last.
use Rattle.std.specs.Prelude.{ℕ, List, map, reverse}
use Rattle.std.specs.Borrow.{Bor}

-- the names that are still to be walked, the next one first
abbrev pub upcoming : List (Bor (List ℕ)) → List (List ℕ)
upcoming names = reverse (map (λ r. r.now) names)
