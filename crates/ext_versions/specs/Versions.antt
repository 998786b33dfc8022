-- Which versions stand in a list, and the ascending list of them. Versions are told apart by their bytes, and ascend in the order
-- of versions, equal ones in that of their bytes.
use Rattle.std.specs.Prelude.{◌≡◌, ℕ, Bool, false, List, slice_get, Option, Some, None}
use Rattle.std.specs.List.{list_all, list_any}
use Rattle.std.specs.List.Sorted.{IsStrictlySortedBy}
use Rattle.std.specs.Str.{bytes_eq}
use Rattle.ext_vers.specs.Version.{order_of}

-- the version is one of them
abbrev pub has_version : List (List ℕ) → List ℕ → Bool
has_version versions v = list_any (bytes_eq v) versions

-- the place of the version among them, counted from 0; None where it is none of them
abbrev pub IsPlaceOf : List (List ℕ) → List ℕ → Option ℕ → Type 0
IsPlaceOf versions v (Some place) = slice_get versions place ≡ Some v
IsPlaceOf versions v None = has_version versions v ≡ false

-- each of the lists has the version
abbrev pub each_has_version : List (List (List ℕ)) → List ℕ → Bool
each_has_version lists v = list_all (λ versions. has_version versions v) lists

-- the same versions, ascending and each once
pub record AreVersions (versions ordered : List (List ℕ)) : Type 0 where
  pub order : IsStrictlySortedBy order_of ordered
  pub same : (v : List ℕ) → has_version ordered v ≡ has_version versions v

-- the versions that each of the lists has, ascending and each once
pub record AreCommon (lists : List (List (List ℕ))) (ordered : List (List ℕ)) : Type 0 where
  pub order : IsStrictlySortedBy order_of ordered
  pub same : (v : List ℕ) → has_version ordered v ≡ each_has_version lists v
