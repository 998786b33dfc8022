-- The fault that reading a text tells is its first from the left.
use Rattle.std.proofs.Common.{◌≡◌, ℕ, ◌+◌, Bool, true, false, cond, not, eqb, leb, List, [], ◌∷◌, ◌++◌, length, map, Option, Some, None, Result, Ok, Err, refl, sym, ap, subst, ◌∙◌, append_assoc, arith}
use Rattle.std.specs.Prelude.{slice_index}
use mathlib.Core.Logic.{inl, inr}
use Rattle.std.specs.List.{AllByRecursion, flat_map, join_with_byte, onto_first}
use Rattle.std.proofs.lemmas.Bool.{leb-false, ne_eqb}
use Rattle.std.proofs.lemmas.List.{append-nil}
use Rattle.std.proofs.lemmas.List.Elements.{All-tail}
use Rattle.std.proofs.lemmas.List.Splits.{join_with_byte-slice_split, length-slice_split}
use Rattle.ext_lines.specs.Split.{Lacks}
use Rattle.ext_lines.proofs.ForCallers.{Differs, lacks_cons, lacks_nil}
use Rattle.ext_text.proofs.ForCallers.{all_back}
use Rattle.ext_pattern.specs.declared.part.Part.{Part}
use Rattle.ext_pattern.specs.declared.reading.PatternErr.{PatternErr}
use Rattle.ext_pattern.specs.declared.reading.PatternErr.TheVariants.{Unknown, Adjacent, Repeated, BadByte, NoVersion, TooLong}
use Rattle.ext_pattern.specs.declared.wildcard.Wildcard.{Wildcard}
use Rattle.ext_pattern.specs.declared.wildcard.Wildcard.TheVariants.{Version}
use Rattle.ext_pattern.specs.Faults.{IsFaultAfter, IsFaultAt, IsFaultAtEnd, IsFaultOf, IsNoLiteral, IsPatternFault}
use Rattle.ext_pattern.specs.Literal.{is_literal}
use Rattle.ext_pattern.specs.Part.{AreParts, ends_in_wildcard, has, most_of_parts, part_text}
use Rattle.ext_pattern.specs.Pattern.{PatternView}
use Rattle.ext_pattern.specs.Reading.{after_part, byte_after, part_of, part_of_letter, parts_of, pattern_of, pattern_of_parts, pattern_of_pieces, pieces_of}
use Rattle.ext_pattern.specs.Wildcard.{letter_of, wildcard_of}
use Rattle.ext_pattern.proofs.ReadingLemmas.{letter_named, part_read, parts_read}
use Rattle.ext_pattern.proofs.TextLemmas.{joined}

onto_lacks : (b : ℕ) (pieces : List (List ℕ)) → Differs 64 b → AllByRecursion (Lacks 64) pieces → AllByRecursion (Lacks 64) (onto_first b pieces)
onto_lacks b [] other all = (lacks_cons 64 b [] other (lacks_nil 64), tt)
onto_lacks b (piece ∷ pieces) other all = (lacks_cons 64 b piece other all.0, all.1)

-- no piece of a text has an `@`
pieces_lack : (text : List ℕ) → AllByRecursion (Lacks 64) (pieces_of text)
pieces_lack [] = (lacks_nil 64, tt)
pieces_lack (b ∷ text) =
    elim (eqb b 64) as (λ t. eqb b 64 ≡ t → AllByRecursion (Lacks 64) (cond t ([] ∷ pieces_of text) (onto_first b (pieces_of text)))) [
      | true ↦ λ _. (lacks_nil 64, pieces_lack text)
      | false ↦ λ other. onto_lacks b (pieces_of text) (ap not other) (pieces_lack text)
    ] refl

-- what is joined begins with its first piece, which ends there
joined_ends : (piece : List ℕ) (others : List (List ℕ)) → Lacks 64 piece → is_literal piece ≡ false → IsNoLiteral (join_with_byte 64 (piece ∷ others))
joined_ends piece [] lacks faulty = record { literal = piece; rest = []; whole = sym (append-nil piece); lacks = lacks; ends = inl refl; faulty = faulty }
joined_ends piece (next ∷ others) lacks faulty = record { literal = piece; rest = 64 ∷ join_with_byte 64 (next ∷ others); whole = refl; lacks = lacks; ends = inr (join_with_byte 64 (next ∷ others), refl); faulty = faulty }

joined_first : (b : ℕ) (literal : List ℕ) (others : List (List ℕ)) → join_with_byte 64 ((b ∷ literal) ∷ others) ≡ b ∷ join_with_byte 64 (literal ∷ others)
joined_first b literal [] = refl
joined_first b literal (next ∷ others) = refl

-- pieces after those of parts
joined_on : (first piece : List ℕ) (parts : List Part) (others : List (List ℕ)) → join_with_byte 64 (first ∷ (map part_text parts ++ piece ∷ others)) ≡ (first ++ flat_map (λ part. 64 ∷ part_text part) parts) ++ 64 ∷ join_with_byte 64 (piece ∷ others)
joined_on first piece [] others = ap (λ (t : List ℕ). t ++ 64 ∷ join_with_byte 64 (piece ∷ others)) (sym (append-nil first))
joined_on first piece (part ∷ parts) others =
    ap (λ (t : List ℕ). first ++ 64 ∷ t) (joined_on (part_text part) piece parts others)
    ∙ sym (append_assoc first (64 ∷ (part_text part ++ flat_map (λ p. 64 ∷ part_text p) parts)) (64 ∷ join_with_byte 64 (piece ∷ others)))

-- a piece of no byte
no_letter : (others : List (List ℕ)) → byte_after (eqb (length others) 0) ≡ slice_index (join_with_byte 64 ([] ∷ others)) 0
no_letter [] = refl
no_letter (next ∷ others) = ap byte_after (ne_eqb (length (next ∷ others)) 0 (λ e. omega arith))

no_wildcard : (last : Bool) → wildcard_of (byte_after last) ≡ None
no_wildcard true = refl
no_wildcard false = refl

placed_fault : (before : List Part) (w : Wildcard) (literal text more : List ℕ) (fault : PatternErr) (r s t : Bool) → ends_in_wildcard before ≡ r → has w before ≡ s → is_literal literal ≡ t → ◌≡◌ {A = Result Part PatternErr} (cond r (Err Adjacent) (cond s (Err Repeated) (cond t (Ok (record { wildcard = w; literal = literal })) (Err BadByte)))) (Err fault) → text ≡ letter_of w ∷ more → (is_literal literal ≡ false → IsNoLiteral more) → IsFaultAt before text fault
placed_fault before w literal text more fault true s t ends stands is e same none =
    let P : PatternErr → Type 0 = λ f. IsFaultAt before text f in
    let told : ◌≡◌ {A = PatternErr} Adjacent fault = cc e in
    subst P told (w, more, same, ends)
placed_fault before w literal text more fault false true t ends stands is e same none =
    let P : PatternErr → Type 0 = λ f. IsFaultAt before text f in
    let told : ◌≡◌ {A = PatternErr} Repeated fault = cc e in
    subst P told (w, more, same, ends, stands)
placed_fault before w literal text more fault false false false ends stands is e same none =
    let P : PatternErr → Type 0 = λ f. IsFaultAt before text f in
    let told : ◌≡◌ {A = PatternErr} BadByte fault = cc e in
    subst P told (w, more, same, ends, stands, none is)
placed_fault before w literal text more fault false false true ends stands is e same none = absurd (cc e)

lettered_fault : (before : List Part) (b : ℕ) (literal : List ℕ) (others : List (List ℕ)) (fault : PatternErr) (o : Option Wildcard) → Lacks 64 literal → wildcard_of b ≡ o → part_of_letter before b o literal ≡ Err fault → IsFaultAt before (join_with_byte 64 ((b ∷ literal) ∷ others)) fault
lettered_fault before b literal others fault None lacks named e =
    let P : PatternErr → Type 0 = λ f. IsFaultAt before (join_with_byte 64 ((b ∷ literal) ∷ others)) f in
    let told : ◌≡◌ {A = PatternErr} (Unknown b) fault = cc e in
    subst P told (sym (ap (λ (t : List ℕ). slice_index t 0) (joined_first b literal others)), named)
lettered_fault before b literal others fault (Some w) lacks named e =
    placed_fault before w literal (join_with_byte 64 ((b ∷ literal) ∷ others)) (join_with_byte 64 (literal ∷ others)) fault (ends_in_wildcard before) (has w before) (is_literal literal) refl refl refl e
    (joined_first b literal others ∙ ap (λ (x : ℕ). x ∷ join_with_byte 64 (literal ∷ others)) (letter_named b w named))
    (joined_ends literal others lacks)

-- a fault of a piece is one of the text that it begins
piece_fault : (before : List Part) (piece : List ℕ) (others : List (List ℕ)) (fault : PatternErr) → Lacks 64 piece → part_of before piece (eqb (length others) 0) ≡ Err fault → IsFaultAt before (join_with_byte 64 (piece ∷ others)) fault
piece_fault before [] others fault lacks e =
    let P : PatternErr → Type 0 = λ f. IsFaultAt before (join_with_byte 64 ([] ∷ others)) f in
    let told : ◌≡◌ {A = PatternErr} (Unknown (byte_after (eqb (length others) 0))) fault = cc e in
    subst P told (no_letter others, no_wildcard (eqb (length others) 0))
piece_fault before (b ∷ literal) others fault lacks e = lettered_fault before b literal others fault (wildcard_of b) (All-tail (λ x. not (eqb x 64) ≡ true) b literal lacks) refl e

-- pieces of sound parts, and the piece at which they have a fault
record AreFaulty (before : List Part) (pieces : List (List ℕ)) (fault : PatternErr) : Type 0 where
  pub more : List Part
  pub may : AreParts before more
  pub piece : List ℕ
  pub others : List (List ℕ)
  pub whole : pieces ≡ map part_text more ++ piece ∷ others
  pub there : part_of (before ++ more) piece (eqb (length others) 0) ≡ Err fault

faulty_on : (before : List Part) (piece : List ℕ) (pieces : List (List ℕ)) (part : Part) (fault : PatternErr) → part_of before piece (eqb (length pieces) 0) ≡ Ok part → AreFaulty (before ++ part ∷ []) pieces fault → AreFaulty before (piece ∷ pieces) fault
faulty_on before piece pieces part fault is later =
    let first = part_read before piece (eqb (length pieces) 0) part is in
    record {
      more = part ∷ later.more;
      may = (first.0, later.may);
      piece = later.piece;
      others = later.others;
      whole = ap (λ (t : List ℕ). t ∷ pieces) first.1 ∙ ap (λ (ts : List (List ℕ)). part_text part ∷ ts) later.whole;
      there = ap (λ (ps : List Part). part_of ps later.piece (eqb (length later.others) 0)) (sym (append_assoc before (part ∷ []) later.more)) ∙ later.there;
    }

faulty_first : (before : List Part) (piece : List ℕ) (pieces : List (List ℕ)) (fault : PatternErr) (r : Result Part PatternErr) → part_of before piece (eqb (length pieces) 0) ≡ r → after_part r (λ part. parts_of (before ++ part ∷ []) pieces) ≡ Err fault → ((part : Part) → parts_of (before ++ part ∷ []) pieces ≡ Err fault → AreFaulty (before ++ part ∷ []) pieces fault) → AreFaulty before (piece ∷ pieces) fault
faulty_first before piece pieces fault (Err told) is e later =
    let same : ◌≡◌ {A = Result Part PatternErr} (Err told) (Err fault) = ap (λ (r : Result (List Part) PatternErr). fault_again r) e in
    record { more = []; may = tt; piece = piece; others = pieces; whole = refl; there = ap (λ (ps : List Part). part_of ps piece (eqb (length pieces) 0)) (append-nil before) ∙ is ∙ same }
  where
    fault_again : Result (List Part) PatternErr → Result Part PatternErr
    fault_again (Err f) = Err f
    fault_again (Ok ps) = Err NoVersion
faulty_first before piece pieces fault (Ok part) is e later = faulty_on before piece pieces part fault is (later part e)

faulty_parts : (before : List Part) (pieces : List (List ℕ)) (fault : PatternErr) → parts_of before pieces ≡ Err fault → AreFaulty before pieces fault
faulty_parts before [] fault e = absurd (cc e)
faulty_parts before (piece ∷ pieces) fault e =
    faulty_first before piece pieces fault (part_of before piece (eqb (length pieces) 0)) refl e (λ part later. faulty_parts (before ++ part ∷ []) pieces fault later)

-- a fault at an `@`
fault_after : (text first : List ℕ) (pieces : List (List ℕ)) (fault : PatternErr) → pieces_of text ≡ first ∷ pieces → is_literal first ≡ true → parts_of [] pieces ≡ Err fault → IsFaultAfter text fault
fault_after text first pieces fault is literal e =
    let at = faulty_parts [] pieces fault e in
    let P : List (List ℕ) → Type 0 = λ ps. AllByRecursion (Lacks 64) ps in
    let all = subst P (is ∙ ap (λ (ts : List (List ℕ)). first ∷ ts) at.whole) (pieces_lack text) in
    record {
      before = record { first = first; parts = at.more };
      rest = join_with_byte 64 (at.piece ∷ at.others);
      whole = sym (join_with_byte-slice_split 64 text) ∙ ap (join_with_byte 64) (is ∙ ap (λ (ts : List (List ℕ)). first ∷ ts) at.whole) ∙ joined_on first at.piece at.more at.others;
      sound = record { first = literal; parts = at.may };
      there = piece_fault at.more at.piece at.others fault (all_back (Lacks 64) (map part_text at.more) (at.piece ∷ at.others) all.1).0 at.there;
    }

judged_fault : (p : PatternView) (fault : PatternErr) (s t : Bool) → has Version p.parts ≡ s → leb (length p.first + most_of_parts p.parts) 255 ≡ t → ◌≡◌ {A = Result PatternView PatternErr} (cond (not s) (Err NoVersion) (cond t (Ok p) (Err TooLong))) (Err fault) → IsFaultOf p fault
judged_fault p fault false t stands short e = let P : PatternErr → Type 0 = λ f. IsFaultOf p f in let told : ◌≡◌ {A = PatternErr} NoVersion fault = cc e in subst P told stands
judged_fault p fault true false stands short e = let P : PatternErr → Type 0 = λ f. IsFaultOf p f in let told : ◌≡◌ {A = PatternErr} TooLong fault = cc e in subst P told (stands, leb-false _ 255 short)
judged_fault p fault true true stands short e = absurd (cc e)

-- a fault of all
fault_at_end : (text first : List ℕ) (pieces : List (List ℕ)) (parts : List Part) (fault : PatternErr) → pieces_of text ≡ first ∷ pieces → is_literal first ≡ true → parts_of [] pieces ≡ Ok parts → pattern_of_parts first (Ok parts) ≡ Err fault → IsFaultAtEnd text fault
fault_at_end text first pieces parts fault is literal read e =
    let all = parts_read [] pieces parts read in
    let May : List Part → Type 0 = λ ps. AreParts [] ps in
    let written : pieces ≡ map part_text parts = all.written ∙ ap (map part_text) (sym all.whole) in
    record {
      all = record { first = first; parts = parts };
      whole = sym (join_with_byte-slice_split 64 text) ∙ ap (join_with_byte 64) (is ∙ ap (λ (ts : List (List ℕ)). first ∷ ts) written) ∙ joined first parts;
      sound = record { first = literal; parts = subst May (sym all.whole) all.may };
      there = judged_fault (record { first = first; parts = parts }) fault (has Version parts) (leb (length first + most_of_parts parts) 255) refl refl e;
    }

fault_of_parts : (text first : List ℕ) (pieces : List (List ℕ)) (fault : PatternErr) (r : Result (List Part) PatternErr) → pieces_of text ≡ first ∷ pieces → is_literal first ≡ true → parts_of [] pieces ≡ r → pattern_of_parts first r ≡ Err fault → IsPatternFault text fault
fault_of_parts text first pieces fault (Err told) is literal read e =
    let same : ◌≡◌ {A = Result (List Part) PatternErr} (Err told) (Err fault) = ap fault_again e in
    inr (inl (fault_after text first pieces fault is literal (read ∙ same)))
  where
    fault_again : Result PatternView PatternErr → Result (List Part) PatternErr
    fault_again (Err f) = Err f
    fault_again (Ok p) = Err NoVersion
fault_of_parts text first pieces fault (Ok parts) is literal read e = inr (inr (fault_at_end text first pieces parts fault is literal read e))

fault_of_first : (text first : List ℕ) (pieces : List (List ℕ)) (fault : PatternErr) (t : Bool) → pieces_of text ≡ first ∷ pieces → is_literal first ≡ t → cond t (pattern_of_parts first (parts_of [] pieces)) (Err BadByte) ≡ Err fault → IsPatternFault text fault
fault_of_first text first pieces fault false is literal e =
    let P : List (List ℕ) → Type 0 = λ ps. AllByRecursion (Lacks 64) ps in
    let N : List ℕ → Type 0 = λ t. IsNoLiteral t in
    let whole : join_with_byte 64 (first ∷ pieces) ≡ text = ap (join_with_byte 64) (sym is) ∙ join_with_byte-slice_split 64 text in
    let told : ◌≡◌ {A = PatternErr} fault BadByte = cc e in
    inl (told, subst N whole (joined_ends first pieces (subst P is (pieces_lack text)).0 literal))
fault_of_first text first pieces fault true is literal e = fault_of_parts text first pieces fault (parts_of [] pieces) is literal refl e

fault_of_pieces : (text : List ℕ) (pieces : List (List ℕ)) (fault : PatternErr) → pieces_of text ≡ pieces → pattern_of_pieces pieces ≡ Err fault → IsPatternFault text fault
fault_of_pieces text [] fault is e = absurd (omega (arith, ap length is, length-slice_split (λ b. eqb b 64) text))
fault_of_pieces text (first ∷ pieces) fault is e = fault_of_first text first pieces fault (is_literal first) is refl e

pub fault_is_first : (text : List ℕ) (fault : PatternErr) → pattern_of text ≡ Err fault → IsPatternFault text fault
fault_is_first text fault e = fault_of_pieces text (pieces_of text) fault refl e
