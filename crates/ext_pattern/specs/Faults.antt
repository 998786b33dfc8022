-- The faults of a text that is no pattern, each in the words of its rule. What stands before a fault is sound, so it is the first
-- from the left.
use Rattle.std.specs.Prelude.{◌≡◌, ◌⊎◌, ℕ, ◌+◌, ◌<◌, true, false, List, [], ◌∷◌, ◌++◌, length, None, slice_index}
use Rattle.ext_lines.specs.Split.{Lacks}
use Rattle.ext_pattern.specs.declared.part.Part.{Part}
use Rattle.ext_pattern.specs.declared.reading.PatternErr.{PatternErr}
use Rattle.ext_pattern.specs.declared.reading.PatternErr.TheVariants.{OutOfMemory, Unknown, Adjacent, Repeated, BadByte, NoVersion, TooLong}
use Rattle.ext_pattern.specs.declared.wildcard.Wildcard.{Wildcard}
use Rattle.ext_pattern.specs.declared.wildcard.Wildcard.TheVariants.{Version}
use Rattle.ext_pattern.specs.Literal.{is_literal}
use Rattle.ext_pattern.specs.Part.{AreParts, ends_in_wildcard, has, most_of_parts}
use Rattle.ext_pattern.specs.Pattern.{PatternView, pattern_text}
use Rattle.ext_pattern.specs.Wildcard.{letter_of, wildcard_of}

-- nothing is left of a text, or an `@`
abbrev pub IsAtEnd : List ℕ → Type 0
IsAtEnd rest = (rest ≡ []) ⊎ ((more : List ℕ) × (rest ≡ 64 ∷ more))

-- the text before the first `@`, or all of it, is no literal
pub record IsNoLiteral (text : List ℕ) : Type 0 where
  pub literal : List ℕ
  pub rest : List ℕ
  pub whole : text ≡ literal ++ rest
  pub lacks : Lacks 64 literal
  pub ends : IsAtEnd rest
  pub faulty : is_literal literal ≡ false

-- the literal before the first `@`, and parts that may follow one another
pub record IsSound (p : PatternView) : Type 0 where
  pub first : is_literal p.first ≡ true
  pub parts : AreParts [] p.parts

-- the fault of a text that follows an `@`, after these parts: its first byte names no wildcard, and is told as 0 where there is
-- none; or it names one, and no byte stands between that and the
-- wildcard before it; or else one that stands before; or else what follows it is no literal
abbrev pub IsFaultAt : List Part → List ℕ → PatternErr → Type 0
IsFaultAt before text OutOfMemory = ⊥
IsFaultAt before text (Unknown byte) = (byte ≡ slice_index text 0) × (wildcard_of byte ≡ None)
IsFaultAt before text Adjacent = (w : Wildcard) × (more : List ℕ) × (text ≡ letter_of w ∷ more) × (ends_in_wildcard before ≡ true)
IsFaultAt before text Repeated = (w : Wildcard) × (more : List ℕ) × (text ≡ letter_of w ∷ more) × (ends_in_wildcard before ≡ false) × (has w before ≡ true)
IsFaultAt before text BadByte = (w : Wildcard) × (more : List ℕ) × (text ≡ letter_of w ∷ more) × (ends_in_wildcard before ≡ false) × (has w before ≡ false) × IsNoLiteral more
IsFaultAt before text NoVersion = ⊥
IsFaultAt before text TooLong = ⊥

-- the fault of a text that is sound: there is no version, or there is one and the names are too long
abbrev pub IsFaultOf : PatternView → PatternErr → Type 0
IsFaultOf p OutOfMemory = ⊥
IsFaultOf p (Unknown byte) = ⊥
IsFaultOf p Adjacent = ⊥
IsFaultOf p Repeated = ⊥
IsFaultOf p BadByte = ⊥
IsFaultOf p NoVersion = has Version p.parts ≡ false
IsFaultOf p TooLong = (has Version p.parts ≡ true) × (255 < length p.first + most_of_parts p.parts)

-- a sound text, an `@` and a fault after it
pub record IsFaultAfter (text : List ℕ) (fault : PatternErr) : Type 0 where
  pub before : PatternView
  pub rest : List ℕ
  pub whole : text ≡ pattern_text before ++ 64 ∷ rest
  pub sound : IsSound before
  pub there : IsFaultAt before.parts rest fault

-- a sound text that is no pattern
pub record IsFaultAtEnd (text : List ℕ) (fault : PatternErr) : Type 0 where
  pub all : PatternView
  pub whole : text ≡ pattern_text all
  pub sound : IsSound all
  pub there : IsFaultOf all fault

-- the first fault of a text from the left
abbrev pub IsPatternFault : List ℕ → PatternErr → Type 0
IsPatternFault text fault = ((fault ≡ BadByte) × IsNoLiteral text) ⊎ (IsFaultAfter text fault ⊎ IsFaultAtEnd text fault)
