-- Reading a file of the depot piece by piece.
use Rattle.std.proofs.Common.{◌≡◌, ℕ, ◌+◌, ◌≤◌, List, ◌++◌, length, drop, Option, IfSome}
use Rattle.ext_depot.specs.Depot.{DepotState, IsKept}
use Rattle.ext_depot.specs.DepotText.{most_text}

-- the file begins with these bytes
abbrev pub Begins : Option (List ℕ) → List ℕ → Type 0
Begins stored bytes = IfSome stored (λ all. all ≡ bytes ++ drop (length bytes) all)

-- these bytes were read of the file at the path, at most one more than the limit
pub record HasRead (old new : DepotState) (path : List (List ℕ)) (bytes : List ℕ) : Type 0 where
  pub kept : IsKept old new
  pub within : length bytes ≤ most_text + 1
  pub begins : IfSome old.contents (λ files. Begins (files path) bytes)
