-- The first names of a path. A path begins with each of its prefixes, the root and itself among them; a proper prefix is
-- shorter than the whole, and so the root is a proper prefix of each other path.
use Rattle.std.specs.Prelude.{ℕ, ◌-◌, Bool, true, false, not, ◌&&◌, ◌||◌, List, [], ◌∷◌, length, take}
use Rattle.std.specs.Ordering.{eq_by_cmp}
use Rattle.ext_lines.specs.ByteOrder.{bytes_cmp}

-- all names but the last; the root's parent is the root
abbrev pub parent : List (List ℕ) → List (List ℕ)
parent names = take (length names - 1) names

-- the second path is the first one or lies below it
abbrev pub is_prefix : List (List ℕ) → List (List ℕ) → Bool
is_prefix [] q = true
is_prefix (n ∷ p) [] = false
is_prefix (n ∷ p) (m ∷ q) = eq_by_cmp bytes_cmp n m && is_prefix p q

-- the second path lies below the first
abbrev pub is_proper_prefix : List (List ℕ) → List (List ℕ) → Bool
is_proper_prefix p q = is_prefix p q && not (is_prefix q p)

-- one of the paths is a prefix of the other
abbrev pub are_related : List (List ℕ) → List (List ℕ) → Bool
are_related p q = is_prefix p q || is_prefix q p
