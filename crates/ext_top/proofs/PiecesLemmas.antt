-- A file that is written in pieces.
use Rattle.std.proofs.Common.{◌≡◌, ℕ, ◌+◌, ◌≤◌, List, [], ◌++◌, length, take, drop, Option, Some, None, Ok, Err, refl, sym, ap, ◌∙◌, subst, arith, append_assoc, length-append}
use Rattle.std.specs.Io.KnownBytes.{Appends}
use Rattle.std.proofs.Math.Seq.{take-add, take-append_seam}
use Rattle.std.proofs.lemmas.List.{length-take-le, take-append-drop, take_all}
use Rattle.ext_io.specs.SinkState.{SinkState}
use Rattle.ext_host.specs.Shelf as shelf
use Rattle.ext_host.specs.Shelf.{stored}
use Rattle.ext_top.specs.Replying.{WritesBytes, WritesFile, WritesMany, WritesNext, WritesPartly, WritesPiece}
use Rattle.ext_top.specs.declared.stop.Stop.{Stop}
use Rattle.ext_top.specs.declared.stop.Stop.TheVariants.{WriteFault, DiskFault, DepotFault, OutOfMemory, BadStore, Unfinished}
use Rattle.ext_top.proofs.LineLemmas.{adds_nothing}

-- the first bytes were written, where a file of the listed size stands there
abbrev pub WritesFirst : shelf.Told → ℕ → ℕ → SinkState → SinkState → Type 0
WritesFirst told size at k l = (bytes : List ℕ) → told ≡ stored bytes → length bytes ≡ size → Appends k.written l.written (take at bytes)

pub appends_then : (k l m : Option (List ℕ)) (xs ys : List ℕ) → Appends k l xs → Appends l m ys → Appends k m (xs ++ ys)
appends_then None l m xs ys one two = tt
appends_then (Some k) None m xs ys one two = absurd one
appends_then (Some k) (Some l) None xs ys one two = absurd two
appends_then (Some k) (Some l) (Some m) xs ys one two = two ∙ (ap (λ zs. zs ++ ys) one ∙ append_assoc k xs ys)

appends_same : (k l : Option (List ℕ)) (xs ys : List ℕ) → xs ≡ ys → Appends k l xs → Appends k l ys
appends_same k l xs ys is one = subst (Appends k l) is one

-- the next bytes after the first are the first of more
first_more : (bytes piece : List ℕ) (at count : ℕ) → drop at bytes ≡ piece ++ drop (at + count) bytes → length piece ≡ count → take at bytes ++ piece ≡ take (at + count) bytes
first_more bytes piece at count is long =
    let next : take count (drop at bytes) ≡ piece = ap (take count) is ∙ (ap (λ n. take n (piece ++ drop (at + count) bytes)) (sym long) ∙ take-append_seam piece (drop (at + count) bytes)) in
    sym (take-add at count bytes ∙ ap (λ xs. take at bytes ++ xs) next)

pub first_none : (told : shelf.Told) (size : ℕ) (k : SinkState) → WritesFirst told size 0 k k
first_none told size k = λ bytes is long. adds_nothing k.written

pub first_then : (told : shelf.Told) (size at count : ℕ) (k l m : SinkState) → WritesFirst told size at k l → WritesPiece told size at l m (Ok count) → WritesFirst told size (at + count) k m
first_then told size at count k l m first next = λ bytes is long.
    let (piece, more, count_is, appends) = next bytes is long in
    appends_same k.written m.written (take at bytes ++ piece) (take (at + count) bytes) (first_more bytes piece at count more count_is)
    (appends_then k.written l.written m.written (take at bytes) piece (first bytes is long) appends)

pub first_all : {T : Type 0} (told : shelf.Told) (size at : ℕ) (k l : SinkState) (done : T) → size ≤ at → WritesFirst told size at k l → WritesFile {T = T} told size k l (Ok done)
first_all told size at k l done all first = λ bytes is long.
    appends_same k.written l.written (take at bytes) bytes (take_all at bytes (omega (arith, long, all))) (first bytes is long)

-- whatever the bytes are, so many of them were written
pub many_none : (k : SinkState) → WritesMany 0 k k
many_none k = ([], refl, adds_nothing k.written)

pub many_then : (m n : ℕ) (j k l : SinkState) → WritesMany m j k → WritesMany n k l → WritesMany (m + n) j l
many_then m n j k l (xs, is, one) (ys, also, two) = (xs ++ ys, length-append xs ys ∙ (λ i. is i + also i), appends_then j.written k.written l.written xs ys one two)

pub many_all : (size at : ℕ) (k l : SinkState) → size ≤ at → at ≤ size → WritesMany at k l → WritesMany size k l
many_all size at k l all within many = let same : at ≡ size = omega arith in subst (λ n. WritesMany n k l) same many

pub many_piece : (buffer : List ℕ) (count : ℕ) (k l : SinkState) → count ≤ length buffer → WritesBytes {T = Unit {0}} (take count buffer) k l (Ok tt) → WritesMany count k l
many_piece buffer count k l within writes = (take count buffer, length-take-le count buffer within, writes)

-- a piece that was not written
part_then : (T : Type 0) (bytes : List ℕ) (at : ℕ) (k l m : SinkState) (stop : Stop) → Appends k.written l.written (take at bytes) → WritesNext bytes at l m (Err stop) → WritesPartly {T = T} bytes k m (Err stop)
part_then T bytes at k l m WriteFault first (prefix, (rest, is, some), appends) = (
  take at bytes ++ prefix,
  (rest, sym (take-append-drop at bytes) ∙ (ap (λ xs. take at bytes ++ xs) is ∙ sym (append_assoc (take at bytes) prefix rest)), some),
  appends_then k.written l.written m.written (take at bytes) prefix first appends,
)
part_then T bytes at k l m DiskFault first same = (take at bytes, (drop at bytes, sym (take-append-drop at bytes)), subst (λ (n : SinkState). Appends k.written n.written (take at bytes)) (sym same) first)
part_then T bytes at k l m DepotFault first never = absurd never
part_then T bytes at k l m OutOfMemory first same = (take at bytes, (drop at bytes, sym (take-append-drop at bytes)), subst (λ (n : SinkState). Appends k.written n.written (take at bytes)) (sym same) first)
part_then T bytes at k l m (BadStore why) first never = absurd never
part_then T bytes at k l m Unfinished first never = absurd never

pub first_stopped : (T : Type 0) (told : shelf.Told) (size at : ℕ) (k l m : SinkState) (stop : Stop) → WritesFirst told size at k l → WritesPiece told size at l m (Err stop) → WritesFile {T = T} told size k m (Err stop)
first_stopped T told size at k l m stop first next = λ bytes is long. part_then T bytes at k l m stop (first bytes is long) (next bytes is long)
