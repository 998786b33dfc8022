-- How the least path that is in the way is found: in path order, the first path that is related to another one is a prefix of
-- the next.
use Rattle.std.specs.Prelude.{◌≡◌, ◌≢◌, ℕ, Bool, false, if◌then◌else◌, IsTrue, List, [], ◌∷◌, Option, Some, None}
use Rattle.std.specs.declared.cmp.Ordering.TheVariants.{Less}
use Rattle.ext_text.specs.Path.{is_prefix, path_cmp}
use Rattle.ext_text.specs.SortedPaths.{is_among}
use Rattle.ext_updated.specs.Clash.{MeetsAnother}

-- the first of the paths is the path or lies below it
abbrev pub begins_below : List (List ℕ) → List (List (List ℕ)) → Bool
begins_below p [] = false
begins_below p (q ∷ ps) = is_prefix p q

-- the first of the paths that the next one is or lies below
abbrev pub first_met : List (List (List ℕ)) → Option (List (List ℕ))
first_met [] = None
first_met (p ∷ ps) = if begins_below p ps then Some p else first_met ps

-- the least of the paths that are related to another one
abbrev pub IsLeastMet : List (List (List ℕ)) → Option (List (List ℕ)) → Type 0
IsLeastMet paths None = (p : List (List ℕ)) → ¬ MeetsAnother paths p
IsLeastMet paths (Some p) = MeetsAnother paths p × ((q : List (List ℕ)) → MeetsAnother paths q → path_cmp q p ≢ Less)

-- the least of the paths
abbrev pub IsLeastPath : List (List (List ℕ)) → Option (List (List ℕ)) → Type 0
IsLeastPath paths None = (q : List (List ℕ)) → is_among paths q ≡ false
IsLeastPath paths (Some p) = IsTrue (is_among paths p) × ((q : List (List ℕ)) → IsTrue (is_among paths q) → path_cmp q p ≢ Less)
