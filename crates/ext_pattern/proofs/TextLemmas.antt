-- A pattern and the text that writes it.
use Rattle.std.proofs.Common.{◌≡◌, ℕ, ◌+◌, ◌≤◌, Bool, true, false, cond, not, eqb, leb, List, [], ◌∷◌, ◌++◌, length, map, Result, Ok, Err, refl, sym, ap, ◌∙◌, subst}
use Rattle.std.specs.List.{flat_map, join_with_byte, list_all}
use Rattle.std.proofs.lemmas.Bool.{and_parts, le-leb, leb-true}
use Rattle.std.proofs.lemmas.List.{append-nil}
use Rattle.std.proofs.lemmas.List.Splits.{join_with_byte-slice_split, slice_split_at}
use Rattle.ext_lines.specs.Plain.{is_plain_text}
use Rattle.ext_lines.specs.Split.{Lacks}
use Rattle.ext_lines.proofs.ForCallers.{lacks_all, lacks_cons, lacks_nil, one_part}
use Rattle.ext_pattern.specs.declared.part.Part.{Part}
use Rattle.ext_pattern.specs.declared.reading.PatternErr.{PatternErr}
use Rattle.ext_pattern.specs.declared.reading.PatternErr.TheVariants.{BadByte, NoVersion, TooLong}
use Rattle.ext_pattern.specs.declared.wildcard.Wildcard.{Wildcard}
use Rattle.ext_pattern.specs.declared.wildcard.Wildcard.TheVariants.{Version, Digest}
use Rattle.ext_pattern.specs.Literal.{is_literal, is_literal_byte}
use Rattle.ext_pattern.specs.Part.{AreParts, has, most_of_parts, part_text}
use Rattle.ext_pattern.specs.Pattern.{IsPattern, PatternView, pattern_text}
use Rattle.ext_pattern.specs.Reading.{parts_of, pattern_of, pattern_of_parts, pattern_of_pieces, pieces_of}
use Rattle.ext_pattern.specs.Wildcard.{letter_of}
use Rattle.ext_pattern.proofs.ReadingLemmas.{parts_read, parts_written}

-- the pieces, joined by `@`, are the first literal and the parts as they are written
pub joined : (first : List ℕ) (parts : List Part) → join_with_byte 64 (first ∷ map part_text parts) ≡ first ++ flat_map (λ part. 64 ∷ part_text part) parts
joined first [] = sym (append-nil first)
joined first (part ∷ parts) = ap (λ (t : List ℕ). first ++ 64 ∷ t) (joined (part_text part) parts)

other_bytes : (text : List ℕ) → list_all is_literal_byte text ≡ true → Lacks 64 text
other_bytes [] all = lacks_nil 64
other_bytes (b ∷ text) all =
    let both = and_parts (is_literal_byte b) (list_all is_literal_byte text) all in
    lacks_cons 64 b text (and_parts (not (eqb b 47)) (not (eqb b 64)) both.0).1 (other_bytes text both.1)

-- a literal has no `@`
pub literal_lacks : (text : List ℕ) → is_literal text ≡ true → Lacks 64 text
literal_lacks text is = other_bytes text (and_parts (is_plain_text text) (list_all is_literal_byte text) is).1

part_lacks : (before : List Part) (part : Part) → is_literal part.literal ≡ true → Lacks 64 (part_text part)
part_lacks before part is = lacks_cons 64 (letter_of part.wildcard) part.literal (letter_differs part.wildcard) (literal_lacks part.literal is)
  where
    letter_differs : (w : Wildcard) → not (eqb (letter_of w) 64) ≡ true
    letter_differs Version = refl
    letter_differs Digest = refl

-- the pieces of what is written are the first literal and the parts
pieces_written : (first : List ℕ) (before parts : List Part) → Lacks 64 first → AreParts before parts → pieces_of (first ++ flat_map (λ part. 64 ∷ part_text part) parts) ≡ first ∷ map part_text parts
pieces_written first before [] lacks may = ap pieces_of (append-nil first) ∙ one_part 64 first lacks
pieces_written first before (part ∷ parts) lacks may =
    slice_split_at (λ b. eqb b 64) first 64 (part_text part ++ flat_map (λ p. 64 ∷ part_text p) parts) (lacks_all 64 first lacks) refl
    ∙ ap (λ (ts : List (List ℕ)). first ∷ ts) (pieces_written (part_text part) (before ++ part ∷ []) parts (part_lacks before part may.0.literal) may.1)

pub written_is_read : (p : PatternView) → IsPattern p → pattern_of (pattern_text p) ≡ Ok p
written_is_read p is =
    ap pattern_of_pieces (pieces_written p.first [] p.parts (literal_lacks p.first is.first) is.parts)
    ∙ ap (λ (t : Bool). cond t (pattern_of_parts p.first (parts_of [] (map part_text p.parts))) (Err BadByte)) is.first
    ∙ ap (pattern_of_parts p.first) (parts_written [] p.parts is.parts)
    ∙ ap (λ (t : Bool). cond (not t) (Err NoVersion) (cond (leb (length p.first + most_of_parts p.parts) 255) (Ok p) (Err TooLong))) is.version
    ∙ ap (λ (t : Bool). cond t (Ok p) (Err TooLong)) (le-leb _ 255 is.short)

judged : (first : List ℕ) (parts : List Part) (p : PatternView) (s t : Bool) → has Version parts ≡ s → leb (length first + most_of_parts parts) 255 ≡ t → ◌≡◌ {A = Result PatternView PatternErr} (cond (not s) (Err NoVersion) (cond t (Ok (record { first = first; parts = parts })) (Err TooLong))) (Ok p) → (has Version parts ≡ true) × (length first + most_of_parts parts ≤ 255) × (p ≡ record { first = first; parts = parts })
judged first parts p false t has short e = absurd (cc e)
judged first parts p true false has short e = absurd (cc e)
judged first parts p true true has short e = (has, leb-true _ 255 short, sym (cc e))

whole_read : (first : List ℕ) (pieces : List (List ℕ)) (p : PatternView) (r : Result (List Part) PatternErr) → is_literal first ≡ true → parts_of [] pieces ≡ r → pattern_of_parts first r ≡ Ok p → IsPattern p × (first ∷ pieces ≡ p.first ∷ map part_text p.parts)
whole_read first pieces p (Err fault) literal is e = absurd (cc e)
whole_read first pieces p (Ok parts) literal is e =
    let all = parts_read [] pieces parts is in
    let end = judged first parts p (has Version parts) (leb (length first + most_of_parts parts) 255) refl refl e in
    let P : PatternView → Type 0 = λ q. IsPattern q × (first ∷ pieces ≡ q.first ∷ map part_text q.parts) in
    let May : List Part → Type 0 = λ ps. AreParts [] ps in
    subst P (sym end.2) (
      record { first = literal; parts = subst May (sym all.whole) all.may; version = end.0; short = end.1 },
      ap (λ (ts : List (List ℕ)). first ∷ ts) (all.written ∙ ap (map part_text) (sym all.whole)),
    )

first_read : (first : List ℕ) (pieces : List (List ℕ)) (p : PatternView) (t : Bool) → is_literal first ≡ t → cond t (pattern_of_parts first (parts_of [] pieces)) (Err BadByte) ≡ Ok p → IsPattern p × (first ∷ pieces ≡ p.first ∷ map part_text p.parts)
first_read first pieces p false literal e = absurd (cc e)
first_read first pieces p true literal e = whole_read first pieces p (parts_of [] pieces) literal refl e

pieces_read : (pieces : List (List ℕ)) (p : PatternView) → pattern_of_pieces pieces ≡ Ok p → IsPattern p × (pieces ≡ p.first ∷ map part_text p.parts)
pieces_read [] p e = absurd (cc e)
pieces_read (first ∷ pieces) p e = first_read first pieces p (is_literal first) refl e

pub read_is_written : (text : List ℕ) (p : PatternView) → pattern_of text ≡ Ok p → IsPattern p × (text ≡ pattern_text p)
read_is_written text p e =
    let all = pieces_read (pieces_of text) p e in
    (all.0, sym (join_with_byte-slice_split 64 text) ∙ ap (join_with_byte 64) all.1 ∙ joined p.first p.parts)
