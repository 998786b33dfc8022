-- What reading a pattern gives. The text is split at each `@`. What stands after an `@` is a letter, which names a wildcard,
-- and a literal. So the faults are told from the left: of a literal, and at an `@` of its letter, of where it stands, and of
-- its literal.
use Rattle.std.specs.Prelude.{◌≡◌, ℕ, Bool, if◌then◌else◌, not, ◌==◌, nat_le, List, [], ◌∷◌, ◌++◌, length, ◌+◌, Option, Some, None, Result, Ok, Err}
use Rattle.std.specs.List.{slice_split}
use Rattle.ext_pattern.specs.declared.part.Part.{Part}
use Rattle.ext_pattern.specs.declared.reading.PatternErr.{PatternErr}
use Rattle.ext_pattern.specs.declared.reading.PatternErr.TheVariants.{OutOfMemory, Unknown, Adjacent, Repeated, BadByte, NoVersion, TooLong}
use Rattle.ext_pattern.specs.declared.wildcard.Wildcard.{Wildcard}
use Rattle.ext_pattern.specs.declared.wildcard.Wildcard.TheVariants.{Version}
use Rattle.ext_pattern.specs.Literal.{is_literal}
use Rattle.ext_pattern.specs.Part.{ends_in_wildcard, has, most_of_parts}
use Rattle.ext_pattern.specs.Pattern.{PatternView}
use Rattle.ext_pattern.specs.Wildcard.{wildcard_of}

-- what stands before, between and after the `@` of a text
abbrev pub pieces_of : List ℕ → List (List ℕ)
pieces_of text = slice_split (λ b. b == 64) text

-- a wildcard and its literal, after these parts
abbrev pub part_of_wildcard : List Part → Wildcard → List ℕ → Result Part PatternErr
part_of_wildcard before wildcard literal =
    if ends_in_wildcard before then Err Adjacent
    else if has wildcard before then Err Repeated
    else if is_literal literal then Ok (record { wildcard = wildcard; literal = literal })
    else Err BadByte

-- the wildcard that a letter names, if it does, and its literal
abbrev pub part_of_letter : List Part → ℕ → Option Wildcard → List ℕ → Result Part PatternErr
part_of_letter before letter None literal = Err (Unknown letter)
part_of_letter before letter (Some wildcard) literal = part_of_wildcard before wildcard literal

-- the byte after an `@` that no other byte of its piece follows: none, told as 0, or the next `@`
abbrev pub byte_after : Bool → ℕ
byte_after is_last = if is_last then 0 else 64

-- the piece after an `@`, after these parts
abbrev pub part_of : List Part → List ℕ → Bool → Result Part PatternErr
part_of before [] is_last = Err (Unknown (byte_after is_last))
part_of before (letter ∷ literal) is_last = part_of_letter before letter (wildcard_of letter) literal

-- the first fault, or what follows the part
abbrev pub after_part : Result Part PatternErr → (Part → Result (List Part) PatternErr) → Result (List Part) PatternErr
after_part (Err fault) parts = Err fault
after_part (Ok part) parts = parts part

-- the pieces after each `@`, after these parts
abbrev pub parts_of : List Part → List (List ℕ) → Result (List Part) PatternErr
parts_of before [] = Ok before
parts_of before (piece ∷ pieces) = after_part (part_of before piece (length pieces == 0)) (λ part. parts_of (before ++ part ∷ []) pieces)

-- the pattern of these parts: a version is among them, and its names are not too long
abbrev pub pattern_of_parts : List ℕ → Result (List Part) PatternErr → Result PatternView PatternErr
pattern_of_parts first (Err fault) = Err fault
pattern_of_parts first (Ok parts) =
    if not (has Version parts) then Err NoVersion
    else if nat_le (length first + most_of_parts parts) 255 then Ok (record { first = first; parts = parts })
    else Err TooLong

-- the pattern of pieces; a text has one at least
abbrev pub pattern_of_pieces : List (List ℕ) → Result PatternView PatternErr
pattern_of_pieces [] = Err NoVersion
pattern_of_pieces (first ∷ pieces) = if is_literal first then pattern_of_parts first (parts_of [] pieces) else Err BadByte

-- the pattern that a text writes, or its first fault
abbrev pub pattern_of : List ℕ → Result PatternView PatternErr
pattern_of text = pattern_of_pieces (pieces_of text)

-- a fault that a call gives is the one that is read; memory may always run out
abbrev pub FailsAsRead : {X : Type 0} → PatternErr → Result X PatternErr → Type 0
FailsAsRead OutOfMemory read = Unit {0}
FailsAsRead (Unknown byte) read = read ≡ Err (Unknown byte)
FailsAsRead Adjacent read = read ≡ Err Adjacent
FailsAsRead Repeated read = read ≡ Err Repeated
FailsAsRead BadByte read = read ≡ Err BadByte
FailsAsRead NoVersion read = read ≡ Err NoVersion
FailsAsRead TooLong read = read ≡ Err TooLong

-- what a call gives is what reading says
abbrev pub GivesAsRead : {X : Type 0} → Result X PatternErr → Result X PatternErr → Type 0
GivesAsRead (Ok value) read = read ≡ Ok value
GivesAsRead (Err fault) read = FailsAsRead fault read

-- what reading a text gives: the pattern that it writes, or its first fault; memory may run out for any text
abbrev pub ReadsPattern : List ℕ → Result PatternView PatternErr → Type 0
ReadsPattern text result = GivesAsRead result (pattern_of text)

-- the pieces of a text that is left, if one is
abbrev pub pieces_left : Option (List ℕ) → List (List ℕ)
pieces_left None = []
pieces_left (Some text) = pieces_of text
