-- Reading a pattern, part by part: what is read is written so, and what is written is read.
use Rattle.std.proofs.Common.{◌≡◌, ℕ, Bool, true, false, cond, not, eqb, List, [], ◌∷◌, ◌++◌, length, map, Option, Some, None, Result, Ok, Err, refl, sym, ap, ◌∙◌, subst, append_assoc, arith}
use Rattle.std.specs.Borrow.{Bor}
use Rattle.std.specs.Option.{is_some, option_map}
use Rattle.std.proofs.lemmas.Bool.{eqb-true, ne_eqb, not-false, not-true}
use Rattle.std.proofs.lemmas.List.{append-nil}
use Rattle.std.proofs.lemmas.List.Splits.{length-slice_split}
use Rattle.ext_pattern.specs.declared.part.Part.{Part}
use Rattle.ext_pattern.specs.declared.reading.PatternErr.{PatternErr}
use Rattle.ext_pattern.specs.declared.reading.PatternErr.TheVariants.{OutOfMemory, Unknown, Adjacent, Repeated, BadByte, NoVersion, TooLong}
use Rattle.ext_pattern.specs.declared.wildcard.Wildcard.{Wildcard}
use Rattle.ext_pattern.specs.declared.wildcard.Wildcard.TheVariants.{Version, Digest}
use Rattle.ext_pattern.specs.Literal.{is_literal}
use Rattle.ext_pattern.specs.Part.{AreParts, IsNextPart, ends_in_wildcard, has, part_text}
use Rattle.ext_pattern.specs.Reading.{FailsAsRead, after_part, part_of, part_of_letter, parts_of, pieces_left, pieces_of}
use Rattle.ext_pattern.specs.Wildcard.{letter_of, wildcard_of}

-- a text that is left has a piece
pub left_last : (left : Option (Bor (List ℕ))) (last : Bool) → is_some left ≡ not last → last ≡ eqb (length (pieces_left (option_map (λ t. t.now) left))) 0
left_last None last is = not-false last (sym is)
left_last (Some text) last is =
    not-true last (sym is) ∙ sym (ne_eqb _ 0 (λ e. omega (arith, length-slice_split (λ b. eqb b 64) text.now)))

-- a byte that names a wildcard is its letter
pub letter_named : (b : ℕ) (w : Wildcard) → wildcard_of b ≡ Some w → b ≡ letter_of w
letter_named b w is = by_tests (eqb b 118) (eqb b 104) refl refl w is
  where
    by_tests : (s t : Bool) → eqb b 118 ≡ s → eqb b 104 ≡ t → (v : Wildcard) → cond s (Some Version) (cond t (Some Digest) None) ≡ Some v → b ≡ letter_of v
    by_tests true t h g Version e = eqb-true b 118 h
    by_tests true t h g Digest e = absurd (cc e)
    by_tests false true h g Version e = absurd (cc e)
    by_tests false true h g Digest e = eqb-true b 104 g
    by_tests false false h g v e = absurd (cc e)

-- and its letter names it
pub named_letter : (w : Wildcard) → wildcard_of (letter_of w) ≡ Some w
named_letter Version = refl
named_letter Digest = refl

placed : (before : List Part) (w : Wildcard) (literal : List ℕ) (part : Part) (r s t : Bool) → ends_in_wildcard before ≡ r → has w before ≡ s → is_literal literal ≡ t → ◌≡◌ {A = Result Part PatternErr} (cond r (Err Adjacent) (cond s (Err Repeated) (cond t (Ok (record { wildcard = w; literal = literal })) (Err BadByte)))) (Ok part) → IsNextPart before part × (part ≡ record { wildcard = w; literal = literal })
placed before w literal part true s t ends stands is e = absurd (cc e)
placed before w literal part false true t ends stands is e = absurd (cc e)
placed before w literal part false false false ends stands is e = absurd (cc e)
placed before w literal part false false true ends stands is e =
    let same : ◌≡◌ {A = Part} (record { wildcard = w; literal = literal }) part = cc e in
    (subst (IsNextPart before) same (record { apart = ends; once = stands; literal = is }), sym same)

lettered : (before : List Part) (b : ℕ) (literal : List ℕ) (part : Part) (o : Option Wildcard) → wildcard_of b ≡ o → part_of_letter before b o literal ≡ Ok part → IsNextPart before part × (b ∷ literal ≡ part_text part)
lettered before b literal part None named e = absurd (cc e)
lettered before b literal part (Some w) named e =
    let is = placed before w literal part (ends_in_wildcard before) (has w before) (is_literal literal) refl refl refl e in
    (is.0, ap (λ (x : ℕ). x ∷ literal) (letter_named b w named) ∙ ap part_text (sym is.1))

-- a part that is read may come there, and its piece is how it is written
pub part_read : (before : List Part) (piece : List ℕ) (last : Bool) (part : Part) → part_of before piece last ≡ Ok part → IsNextPart before part × (piece ≡ part_text part)
part_read before [] last part e = absurd (cc e)
part_read before (b ∷ literal) last part e = lettered before b literal part (wildcard_of b) refl e

-- a part that may come there is read from how it is written
pub part_written : (before : List Part) (part : Part) (last : Bool) → IsNextPart before part → part_of before (part_text part) last ≡ Ok part
part_written before part last next =
    ap (λ (o : Option Wildcard). part_of_letter before (letter_of part.wildcard) o part.literal) (named_letter part.wildcard)
    ∙ ap (λ (t : Bool). cond t (Err Adjacent) (cond (has part.wildcard before) (Err Repeated) (cond (is_literal part.literal) (Ok part) (Err BadByte)))) next.apart
    ∙ ap (λ (t : Bool). cond t (Err Repeated) (cond (is_literal part.literal) (Ok part) (Err BadByte))) next.once
    ∙ ap (λ (t : Bool). cond t (Ok part) (Err BadByte)) next.literal

-- parts that were read of pieces, after others
pub record AreRead (before : List Part) (pieces : List (List ℕ)) (all : List Part) : Type 0 where
  pub more : List Part
  pub whole : all ≡ before ++ more
  pub may : AreParts before more
  pub written : pieces ≡ map part_text more

read_on : (before : List Part) (piece : List ℕ) (pieces : List (List ℕ)) (all : List Part) (part : Part) → IsNextPart before part → piece ≡ part_text part → AreRead (before ++ part ∷ []) pieces all → AreRead before (piece ∷ pieces) all
read_on before piece pieces all part next text later = record {
  more = part ∷ later.more;
  whole = later.whole ∙ append_assoc before (part ∷ []) later.more;
  may = (next, later.may);
  written = ap (λ (t : List ℕ). t ∷ pieces) text ∙ ap (λ (ts : List (List ℕ)). part_text part ∷ ts) later.written;
}

read_first : (before : List Part) (piece : List ℕ) (pieces : List (List ℕ)) (all : List Part) (r : Result Part PatternErr) → part_of before piece (eqb (length pieces) 0) ≡ r → after_part r (λ part. parts_of (before ++ part ∷ []) pieces) ≡ Ok all → ((part : Part) → parts_of (before ++ part ∷ []) pieces ≡ Ok all → AreRead (before ++ part ∷ []) pieces all) → AreRead before (piece ∷ pieces) all
read_first before piece pieces all (Err fault) is e later = absurd (cc e)
read_first before piece pieces all (Ok part) is e later =
    let first = part_read before piece (eqb (length pieces) 0) part is in
    read_on before piece pieces all part first.0 first.1 (later part e)

-- what is read of pieces are parts that may come there, and the pieces are how they are written
pub parts_read : (before : List Part) (pieces : List (List ℕ)) (all : List Part) → parts_of before pieces ≡ Ok all → AreRead before pieces all
parts_read before [] all e = record { more = []; whole = sym (cc e) ∙ sym (append-nil before); may = tt; written = refl }
parts_read before (piece ∷ pieces) all e =
    read_first before piece pieces all (part_of before piece (eqb (length pieces) 0)) refl e (λ part later. parts_read (before ++ part ∷ []) pieces all later)

-- parts that may come there are read from how they are written
pub parts_written : (before more : List Part) → AreParts before more → parts_of before (map part_text more) ≡ Ok (before ++ more)
parts_written before [] may = ap Ok (sym (append-nil before))
parts_written before (part ∷ parts) may =
    ap (λ (r : Result Part PatternErr). after_part r (λ p. parts_of (before ++ p ∷ []) (map part_text parts))) (part_written before part (eqb (length (map part_text parts)) 0) may.0)
    ∙ parts_written (before ++ part ∷ []) parts may.1
    ∙ ap Ok (append_assoc before (part ∷ []) parts)

fails_after : (fault : PatternErr) (r : Result Part PatternErr) (parts : Part → Result (List Part) PatternErr) → FailsAsRead fault r → FailsAsRead fault (after_part r parts)
fails_after OutOfMemory r parts is = tt
fails_after (Unknown byte) r parts is = ap (λ (x : Result Part PatternErr). after_part x parts) is
fails_after Adjacent r parts is = ap (λ (x : Result Part PatternErr). after_part x parts) is
fails_after Repeated r parts is = ap (λ (x : Result Part PatternErr). after_part x parts) is
fails_after BadByte r parts is = ap (λ (x : Result Part PatternErr). after_part x parts) is
fails_after NoVersion r parts is = ap (λ (x : Result Part PatternErr). after_part x parts) is
fails_after TooLong r parts is = ap (λ (x : Result Part PatternErr). after_part x parts) is

-- a fault at the first of the pieces that are left is that of all pieces
pub fails_so : (fault : PatternErr) (before parts : List Part) (rest after : Option (Bor (List ℕ))) (text : Bor (List ℕ)) (piece : List ℕ) (last : Bool) (all : Result (List Part) PatternErr) → parts ≡ before → rest ≡ Some text → pieces_of text.now ≡ piece ∷ pieces_left (option_map (λ t. t.now) after) → is_some after ≡ not last → FailsAsRead fault (part_of parts piece last) → parts_of before (pieces_left (option_map (λ t. t.now) rest)) ≡ all → FailsAsRead fault all
fails_so fault before parts rest after text piece last all same left next is fails invariant =
    let pieces = pieces_left (option_map (λ t. t.now) after) in
    let P : Bool → Type 0 = λ l. FailsAsRead fault (part_of parts piece l) in
    let Q : Result (List Part) PatternErr → Type 0 = λ r. FailsAsRead fault r in
    let R : List Part → Type 0 = λ ps. FailsAsRead fault (part_of ps piece (eqb (length pieces) 0)) in
    let whole : parts_of before (piece ∷ pieces) ≡ all =
    ap (parts_of before) (sym next) ∙ ap (λ (r : Option (Bor (List ℕ))). parts_of before (pieces_left (option_map (λ t. t.now) r))) (sym left) ∙ invariant
    in
    subst Q whole (fails_after fault (part_of before piece (eqb (length pieces) 0)) (λ part. parts_of (before ++ part ∷ []) pieces) (subst R same (subst P (left_last after last is) fails)))

-- where no piece is left, the parts may stand in a pattern
pub parts_may : (parts : List Part) (rest : Option (Bor (List ℕ))) (pieces : List (List ℕ)) → rest ≡ None → parts_of parts (pieces_left (option_map (λ t. t.now) rest)) ≡ parts_of [] pieces → AreParts [] parts
parts_may parts rest pieces none invariant =
    let whole : parts_of [] pieces ≡ Ok parts =
    sym invariant ∙ ap (λ (r : Option (Bor (List ℕ))). parts_of parts (pieces_left (option_map (λ t. t.now) r))) none
    in
    let all = parts_read [] pieces parts whole in
    let May : List Part → Type 0 = λ ps. AreParts [] ps in
    subst May (sym all.whole) all.may
