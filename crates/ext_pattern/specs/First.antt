-- What the first of some patterns that matches a name makes of it. That the first one decides is this project's own: a later
-- pattern is not tried, whatever it would catch.
use Rattle.std.specs.Prelude.{◌≡◌, ◌⊎◌, ℕ, List, [], ◌∷◌, Option, Some, None}
use Rattle.std.specs.List.{AllByRecursion}
use Rattle.ext_vers.specs.Version.{IsVersion}
use Rattle.ext_pattern.specs.declared.caught.Caught.{Caught}
use Rattle.ext_pattern.specs.Matching.{IsMatch, IsSpan, digest_bytes, text_at}
use Rattle.ext_pattern.specs.Pattern.{IsPattern, PatternView}

-- the first of the patterns that matches the name catches this version and digest
abbrev pub IsFirstMatch : List PatternView → List ℕ → List ℕ → Option (List ℕ) → Type 0
IsFirstMatch [] name version digest = ⊥
IsFirstMatch (p ∷ ps) name version digest =
    IsMatch p name version digest
    ⊎ (((v : List ℕ) (d : Option (List ℕ)) → ¬ IsMatch p name v d) × IsFirstMatch ps name version digest)

-- what `first_match` gives: nothing, where no pattern matches the name, or what the first one that does caught
abbrev pub FirstMatches : List PatternView → List ℕ → Option Caught → Type 0
FirstMatches patterns name None = (version : List ℕ) (digest : Option (List ℕ)) → ¬ IsFirstMatch patterns name version digest
FirstMatches patterns name (Some caught) =
    IsSpan name caught.version × IsFirstMatch patterns name (text_at name caught.version) (digest_bytes caught.digest)

-- the version is one, and the first of the patterns that matches the name catches no other version and no other digest
pub record IsOnlyMatch (patterns : List PatternView) (name v : List ℕ) (d : Option (List ℕ)) : Type 0 where
  pub version : IsVersion v
  pub one : (w : List ℕ) (e : Option (List ℕ)) → IsFirstMatch patterns name w e → (w ≡ v) × (e ≡ d)

-- by the first of the patterns that matches, a name has one version and one digest at most
abbrev pub OneFirstMatch : Type 0
OneFirstMatch =
    (patterns : List PatternView) (name v w : List ℕ) (d e : Option (List ℕ)) → AllByRecursion IsPattern patterns
    → IsFirstMatch patterns name v d → IsFirstMatch patterns name w e → (v ≡ w) × (d ≡ e)

-- what it has as the version is one
abbrev pub FirstMatchHasVersion : Type 0
FirstMatchHasVersion =
    (patterns : List PatternView) (name version : List ℕ) (digest : Option (List ℕ)) → AllByRecursion IsPattern patterns
    → IsFirstMatch patterns name version digest → IsVersion version
