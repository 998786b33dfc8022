-- Laws of patterns.
use Rattle.std.specs.Prelude.{◌≡◌, ℕ, List, [], Option, Ok, Err}
use Rattle.std.specs.Option.{unwrap_or}
use Rattle.ext_text.specs.Digest.{IsDigest}
use Rattle.ext_text.specs.Name.{IsName}
use Rattle.ext_vers.specs.Version.{IsVersion}
use Rattle.ext_pattern.specs.declared.reading.PatternErr.{PatternErr}
use Rattle.ext_pattern.specs.Faults.{IsPatternFault}
use Rattle.ext_pattern.specs.Filling.{filled}
use Rattle.ext_pattern.specs.Matching.{IsMatch}
use Rattle.ext_pattern.specs.Pattern.{IsPattern, PatternView, pattern_text}
use Rattle.ext_pattern.specs.Reading.{pattern_of}

-- what is read of a text is a pattern, and the text is how it is written
abbrev pub ReadIsWritten : Type 0
ReadIsWritten = (text : List ℕ) (p : PatternView) → pattern_of text ≡ Ok p → IsPattern p × (text ≡ pattern_text p)

-- each pattern is read from the text that writes it
abbrev pub WrittenIsRead : Type 0
WrittenIsRead = (p : PatternView) → IsPattern p → pattern_of (pattern_text p) ≡ Ok p

-- a text that is read as none has the fault that is told, which is its first from the left
abbrev pub FaultIsFirst : Type 0
FaultIsFirst = (text : List ℕ) (fault : PatternErr) → pattern_of text ≡ Err fault → IsPatternFault text fault

-- a name matches a pattern with one version and one digest at most
abbrev pub OneMatch : Type 0
OneMatch = (p : PatternView) (name v w : List ℕ) (d e : Option (List ℕ)) → IsPattern p → IsMatch p name v d → IsMatch p name w e → (v ≡ w) × (d ≡ e)

-- what matches as a version is one
abbrev pub MatchHasVersion : Type 0
MatchHasVersion = (p : PatternView) (name version : List ℕ) (digest : Option (List ℕ)) → IsPattern p → IsMatch p name version digest → IsVersion version

-- a name that matches is the pattern filled with what was caught; where there is no `@h`, any digest does
abbrev pub MatchIsFilled : Type 0
MatchIsFilled = (p : PatternView) (name version : List ℕ) (digest : Option (List ℕ)) → IsMatch p name version digest → name ≡ filled p version (unwrap_or digest [])

-- a pattern filled with a version and a digest is a name
abbrev pub FilledIsName : Type 0
FilledIsName = (p : PatternView) (version digest : List ℕ) → IsPattern p → IsVersion version → IsDigest digest → IsName (filled p version digest)
