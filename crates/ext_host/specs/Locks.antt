-- Paths that no command may write or cut, since a merged class shows there what its extensions have: this project's own.
use Rattle.std.specs.Prelude.{ℕ, Bool, List, [], ◌∷◌}
use Rattle.std.specs.List.{list_any}
use Rattle.ext_text.specs.Path.{are_related}

-- the path is in, at or above one of the names, which stand directly below the root
abbrev pub locks : List (List ℕ) → List (List ℕ) → Bool
locks names path = list_any (λ name. are_related (name ∷ []) path) names
