-- Reading the lines of a release file one after another.
use Rattle.std.specs.Prelude.{◌≡◌, ℕ, ◌+◌, ◌≤◌, Bool, true, false, List, ◌++◌, length}
use Rattle.std.specs.FinMap.{FinMap, get}
use Rattle.std.specs.List.{AllByRecursion}
use Rattle.ext_lines.specs.Lines.{lines_of}
use Rattle.ext_lines.specs.ByteOrder.{bytes_cmp}
use Rattle.ext_release.specs.Line.{ReleaseLine, is_faulty, line_of}
use Rattle.ext_release.specs.Release.{assigned, leaves, value_after}

-- after a sound line each key has what the line leaves it; `false` tells that the line is faulty
abbrev pub FollowsAs : ReleaseLine → FinMap bytes_cmp (List ℕ) → FinMap bytes_cmp (List ℕ) → Bool → Type 0
FollowsAs line old new true = (is_faulty line ≡ false) × ((key : List ℕ) → get new key ≡ leaves (assigned line key) (get old key))
FollowsAs line old new false = is_faulty line ≡ true

-- so many lines were read, none of them is faulty, and the rest is left
pub record IsSoFar (bytes rest : List ℕ) (number : ℕ) (release : FinMap bytes_cmp (List ℕ)) : Type 0 where
  pub done : List (List ℕ)
  pub whole : lines_of bytes ≡ done ++ lines_of rest
  pub count : length done ≡ number
  pub size : number + length rest ≤ length bytes
  pub sound : AllByRecursion (λ l. is_faulty (line_of l) ≡ false) done
  pub values : (key : List ℕ) → get release key ≡ value_after done key
