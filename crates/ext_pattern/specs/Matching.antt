-- What a pattern makes of a name, as a division of the name. That a wildcard takes the text up to the first occurrence of the
-- literal after it, and what a version and a digest are, is this project's own.
use Rattle.std.specs.Prelude.{◌≡◌, ℕ, ◌<◌, ◌≤◌, false, List, [], ◌∷◌, ◌++◌, length, Option, Some, None}
use Rattle.std.specs.List.{slice_range}
use Rattle.std.specs.Option.{option_map}
use Rattle.hex.specs.Hex.{encode_lower}
use Rattle.memchr.specs.Find.{OccursAt}
use Rattle.ext_text.specs.Digest.{IsDigest}
use Rattle.ext_text.specs.declared.digest.Digest.{Digest as Bytes32}
use Rattle.ext_vers.specs.Version.{IsVersion}
use Rattle.ext_pattern.specs.declared.caught.Caught.{Caught}
use Rattle.ext_pattern.specs.declared.part.Part.{Part}
use Rattle.ext_pattern.specs.declared.wildcard.Wildcard.{Wildcard}
use Rattle.ext_pattern.specs.declared.wildcard.Wildcard.TheVariants.{Version, Digest}
use Rattle.ext_pattern.specs.Part.{has}
use Rattle.ext_pattern.specs.Pattern.{PatternView}

-- the whole is a text, a literal and a rest. The text ends where the literal first occurs, or with the whole where the
-- literal is empty
pub record EndsAtLiteral (whole text literal rest : List ℕ) : Type 0 where
  pub parted : whole ≡ text ++ literal ++ rest
  pub first : 0 < length literal → (k : ℕ) → k < length text → ¬ OccursAt (text ++ literal) literal k
  pub last : length literal ≡ 0 → rest ≡ []

-- a wildcard takes a text: `@v` a version, which is what is caught as the version, and `@h` the digits of a digest, which is
-- what is caught as the digest
abbrev pub TakesText : Wildcard → List ℕ → List ℕ → Option (List ℕ) → Type 0
TakesText Version text version digest = (text ≡ version) × IsVersion version
TakesText Digest text version digest = (bytes : List ℕ) × (text ≡ encode_lower bytes) × IsDigest bytes × (digest ≡ Some bytes)

-- a text is divided by parts: each wildcard takes its text, and nothing is left
abbrev pub IsDividedBy : List Part → List ℕ → List ℕ → Option (List ℕ) → Type 0
IsDividedBy [] whole version digest = whole ≡ []
IsDividedBy (part ∷ parts) whole version digest = (text : List ℕ) × (rest : List ℕ) × EndsAtLiteral whole text part.literal rest × TakesText part.wildcard text version digest × IsDividedBy parts rest version digest

-- a name matches a pattern, and this version and digest are caught; no digest where there is no `@h`
pub record IsMatch (p : PatternView) (name version : List ℕ) (digest : Option (List ℕ)) : Type 0 where
  pub rest : List ℕ
  pub begins : name ≡ p.first ++ rest
  pub follows : IsDividedBy p.parts rest version digest
  pub no_digest : has Digest p.parts ≡ false → digest ≡ None

-- where a text begins and ends in a name
abbrev pub IsSpan : List ℕ → ℕ × ℕ → Type 0
IsSpan name span = (span.0 ≤ span.1) × (span.1 ≤ length name)

-- the text that stands there
abbrev pub text_at : List ℕ → ℕ × ℕ → List ℕ
text_at name span = slice_range name span.0 span.1

-- the bytes of a digest, if there is one
abbrev pub digest_bytes : Option Bytes32 → Option (List ℕ)
digest_bytes digest = option_map (λ d. d.0) digest

-- what `matches` gives: nothing, where the name matches with no version and no digest, or what was caught
abbrev pub Matches : PatternView → List ℕ → Option Caught → Type 0
Matches p name None = (version : List ℕ) (digest : Option (List ℕ)) → ¬ IsMatch p name version digest
Matches p name (Some caught) = IsSpan name caught.version × IsMatch p name (text_at name caught.version) (digest_bytes caught.digest)
