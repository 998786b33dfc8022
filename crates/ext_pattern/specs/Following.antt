-- Following the parts of a pattern through a name.
use Rattle.std.specs.Prelude.{◌≡◌, ◌↔◌, ℕ, true, false, List, [], ◌∷◌, drop, Option, Some, None}
use Rattle.ext_text.specs.declared.digest.Digest.{Digest as Bytes32}
use Rattle.ext_pattern.specs.declared.following.SoFar.{SoFar}
use Rattle.ext_pattern.specs.declared.part.Part.{Part}
use Rattle.ext_pattern.specs.declared.wildcard.Wildcard.{Wildcard}
use Rattle.ext_pattern.specs.declared.wildcard.Wildcard.TheVariants.{Version, Digest}
use Rattle.ext_pattern.specs.Matching.{IsDividedBy, IsSpan, TakesText, text_at}
use Rattle.ext_pattern.specs.Part.{has}

-- no wildcard stands twice
abbrev pub AreOnce : List Part → Type 0
AreOnce [] = Unit {0}
AreOnce (part ∷ parts) = (has part.wildcard parts ≡ false) × AreOnce parts

-- nothing was caught by this wildcard
abbrev pub IsUncaught : Wildcard → SoFar → Type 0
IsUncaught Version so_far = so_far.version ≡ None
IsUncaught Digest so_far = so_far.digest ≡ None

-- nothing was caught by a wildcard of these parts
abbrev pub AreUncaught : SoFar → List Part → Type 0
AreUncaught so_far parts = (w : Wildcard) → has w parts ≡ true → IsUncaught w so_far

-- the version is what was caught, if it was
abbrev pub AgreesAt : List ℕ → Option (ℕ × ℕ) → List ℕ → Type 0
AgreesAt name None version = Unit {0}
AgreesAt name (Some span) version = version ≡ text_at name span

-- so is the digest
abbrev pub AgreesWith : Option Bytes32 → Option (List ℕ) → Type 0
AgreesWith None digest = Unit {0}
AgreesWith (Some caught) digest = digest ≡ Some caught.0

-- both are
abbrev pub AgreesSoFar : List ℕ → SoFar → List ℕ → Option (List ℕ) → Type 0
AgreesSoFar name so_far version digest = AgreesAt name so_far.version version × AgreesWith so_far.digest digest

-- both are, and something was caught at all
abbrev pub AgreesCaught : List ℕ → Option SoFar → List ℕ → Option (List ℕ) → Type 0
AgreesCaught name None version digest = ⊥
AgreesCaught name (Some so_far) version digest = AgreesSoFar name so_far version digest

-- the version that was caught, if it was, stands in the name
abbrev pub SpanIsWithin : List ℕ → Option (ℕ × ℕ) → Type 0
SpanIsWithin name None = Unit {0}
SpanIsWithin name (Some span) = IsSpan name span

-- what was caught stands in the name, if anything was
abbrev pub CaughtIsWithin : List ℕ → Option SoFar → Type 0
CaughtIsWithin name None = Unit {0}
CaughtIsWithin name (Some so_far) = SpanIsWithin name so_far.version

-- a wildcard leaves what the other one caught
abbrev pub SparesOther : Wildcard → SoFar → SoFar → Type 0
SparesOther Version so_far caught = caught.digest ≡ so_far.digest
SparesOther Digest so_far caught = caught.version ≡ so_far.version

-- this was caught where a wildcard takes a text, beside what was caught before: the versions and digests that agree with it
-- are those that agreed before and are taken there
abbrev pub IsCaughtBy : Wildcard → List ℕ → List ℕ → SoFar → Option SoFar → Type 0
IsCaughtBy wildcard name text so_far caught = (version : List ℕ) (digest : Option (List ℕ)) → (AgreesSoFar name so_far version digest × TakesText wildcard text version digest) ↔ AgreesCaught name caught version digest

-- the same where parts follow from an index of the name on
abbrev pub IsCaughtFrom : List Part → List ℕ → ℕ → SoFar → Option SoFar → Type 0
IsCaughtFrom parts name from so_far caught = (version : List ℕ) (digest : Option (List ℕ)) → (AgreesSoFar name so_far version digest × IsDividedBy parts (drop from name) version digest) ↔ AgreesCaught name caught version digest
