-- Paths in path order, each once: which paths are among them, and which stand above or below one of them.
use Rattle.std.specs.Prelude.{ℕ, Bool, if◌then◌else◌, List, [], ◌∷◌, Option, Some, None}
use Rattle.std.specs.List.{list_any}
use Rattle.std.specs.Ordering.{eq_by_cmp, is_lt}
use Rattle.ext_text.specs.Path.{path_cmp, is_prefix, are_related}

-- the path is one of them
abbrev pub is_among : List (List (List ℕ)) → List (List ℕ) → Bool
is_among paths q = list_any (λ p. eq_by_cmp path_cmp q p) paths

-- the path is one of them or lies below one
abbrev pub covers : List (List (List ℕ)) → List (List ℕ) → Bool
covers paths q = list_any (λ p. is_prefix p q) paths

-- one of them is the path or lies below it
abbrev pub has_below : List (List (List ℕ)) → List (List ℕ) → Bool
has_below paths q = list_any (λ p. is_prefix q p) paths

-- one of them is related to the path
abbrev pub meets : List (List (List ℕ)) → List (List ℕ) → Bool
meets paths q = list_any (λ p. are_related p q) paths

-- the first of the paths that does not come before a path
abbrev pub first_from : List (List ℕ) → List (List (List ℕ)) → Option (List (List ℕ))
first_from q [] = None
first_from q (p ∷ ps) = if is_lt (path_cmp p q) then first_from q ps else Some p
