-- A loop over names in order: what it keeps.
use Rattle.std.specs.Prelude.{List, ◌++◌}
use Rattle.std.specs.List.{AllByRecursion}
use Rattle.std.specs.declared.cmp.Ordering.{Ordering}
use Rattle.std.specs.List.Sorted.{IsStrictlySortedBy}

-- the names so far and those to come are in order, and this holds of each of the first
pub record IsListedSoFar {X : Type 0} (cmp : X → X → Ordering) (P : X → Type 0) (names left : List X) : Type 0 where
  pub sorted : IsStrictlySortedBy cmp (names ++ left)
  pub each : AllByRecursion P names
