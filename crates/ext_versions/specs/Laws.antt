-- What makes "the versions that .." one list.
use Rattle.std.specs.Prelude.{◌≡◌, ℕ, ◌↔◌, List, true}
use Rattle.std.specs.List.{Contains}
use Rattle.std.specs.List.Sorted.{IsStrictlySortedBy}
use Rattle.ext_vers.specs.Version.{order_of}
use Rattle.ext_versions.specs.Versions.{AreCommon, AreVersions, has_version}

-- two ascending lists with the same versions are equal
abbrev pub OneList : Type 0
OneList =
    (a b : List (List ℕ)) → IsStrictlySortedBy order_of a → IsStrictlySortedBy order_of b
    → ((v : List ℕ) → has_version a v ≡ has_version b v) → a ≡ b

-- versions have one ascending list
abbrev pub OneOfVersions : Type 0
OneOfVersions = (versions a b : List (List ℕ)) → AreVersions versions a → AreVersions versions b → a ≡ b

-- lists have one ascending list of the versions that they share
abbrev pub OneCommon : Type 0
OneCommon = (lists : List (List (List ℕ))) (a b : List (List ℕ)) → AreCommon lists a → AreCommon lists b → a ≡ b

-- a list has a version exactly where it is at some place of it
abbrev pub HasWhatItContains : Type 0
HasWhatItContains = (versions : List (List ℕ)) (v : List ℕ) → (has_version versions v ≡ true) ↔ Contains versions v
