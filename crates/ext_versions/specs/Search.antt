-- What a search by halves finds.
use Rattle.std.specs.Prelude.{ℕ, Bool, false, if◌then◌else◌, List, [], ◌∷◌, Option, Some, None}
use Rattle.std.specs.Ordering.{is_lt}
use Rattle.std.specs.Str.{bytes_eq}
use Rattle.ext_vers.specs.Version.{order_of}

-- the first of the versions that does not come before a version
abbrev pub version_from : List ℕ → List (List ℕ) → Option (List ℕ)
version_from v [] = None
version_from v (w ∷ ws) = if is_lt (order_of w v) then version_from v ws else Some w

-- there is a version and it is the one
abbrev pub is_found : List ℕ → Option (List ℕ) → Bool
is_found v None = false
is_found v (Some w) = bytes_eq v w
