-- The pieces of a file in memory: where each begins, and what is read of them.
use Rattle.std.proofs.Common.{◌≡◌, ℕ, ◌+◌, ◌-◌, ◌<◌, ◌≤◌, List, [], ◌∷◌, ◌++◌, length, take, drop, get_or, refl, sym, ap, ◌∙◌, subst, zero, suc, inl, inr, arith, append_assoc, append-nil, length-append, length-drop, length-take-le, take-append-drop, drop-drop}
use Rattle.std.proofs.lemmas.List.{drop_all, drop_more, drop-append-le, take-append-le}
use Rattle.std.proofs.lemmas.Bool.{cases_lt}
use Rattle.std.proofs.Math.Seq.{drop-append-add, take-append-add}
use Rattle.ext_io.specs.Device.{IsReadAt}
use Rattle.ext_disk.specs.Pieces.{joined, AreLaid, IsLaid}
use Rattle.ext_disk.specs.declared.pieces.Part.{Part}

pub joined_append : (xs ys : List Part) → joined (xs ++ ys) ≡ joined xs ++ joined ys
joined_append [] ys = refl
joined_append (x ∷ xs) ys = ap (λ l. x.piece ++ l) (joined_append xs ys) ∙ sym (append_assoc x.piece (joined xs) (joined ys))

pub joined_push : (xs : List Part) (part : Part) → joined (xs ++ part ∷ []) ≡ joined xs ++ part.piece
joined_push xs part = joined_append xs (part ∷ []) ∙ ap (λ l. joined xs ++ l) (append-nil part.piece)

laid_push : (before : ℕ) (xs : List Part) (part : Part) → AreLaid before xs → part.start ≡ before + length (joined xs) → AreLaid before (xs ++ part ∷ [])
laid_push before [] part laid start = (omega (arith, start), tt)
laid_push before (x ∷ xs) part laid start =
    let both = length-append x.piece (joined xs) in
    (laid.0, laid_push (before + length x.piece) xs part laid.1 (omega (arith, start, both)))

-- one more piece is laid after the others
pub pieces_push : (xs more : List Part) (size size' : ℕ) (part : Part) → IsLaid xs size → part.start ≡ size → size' ≡ size + length part.piece → more ≡ xs ++ part ∷ [] → IsLaid more size'
pieces_push xs more size size' part laid start size_is more_is =
    let before = laid.size_is in
    let both = length-append (joined xs) part.piece in
    let pushed = ap length (joined_push xs part) in
    subst (λ l. IsLaid l size') (sym more_is) (record {
      starts = laid_push 0 xs part laid.starts (omega (arith, start, before));
      size_is = omega (arith, size_is, before, both, pushed);
    })

none_within : (i : ℕ) → i < 0 → ⊥
none_within i within = omega arith

laid_start : (before : ℕ) (xs : List Part) (i : ℕ) (d : Part) → AreLaid before xs → i < length xs → (get_or xs i d).start ≡ before + length (joined (take i xs))
laid_start before [] i d laid within = absurd (none_within i within)
laid_start before (x ∷ xs) zero d laid within = let start = laid.0 in omega (arith, start)
laid_start before (x ∷ xs) (suc i) d laid within =
    let more = laid_start (before + length x.piece) xs i d laid.1 (omega (arith, within)) in
    let both = length-append x.piece (joined (take i xs)) in
    omega (arith, more, both)

-- from the byte of that number on, the bytes are those of the part of that index and of those after it
pub part_found : (xs : List Part) (i at : ℕ) (part : Part) → AreLaid 0 xs → i < length xs → part ≡ get_or xs i part → part.start ≤ at
    → drop at (joined xs) ≡ drop (at - part.start) (joined (drop i xs))
part_found xs i at part laid within is begun =
    let prefix = joined (take i xs) in
    let known = laid_start 0 xs i part laid within in
    let same : part.start ≡ (get_or xs i part).start = ap (λ (p : Part). p.start) is in
    let start : part.start ≡ length prefix = omega (arith, known, same) in
    let whole : joined xs ≡ prefix ++ joined (drop i xs) = ap joined (sym (take-append-drop i xs)) ∙ joined_append (take i xs) (drop i xs) in
    let count : at ≡ length prefix + (at - part.start) = omega (arith, start, begun) in
    ap (drop at) whole ∙ ap (λ k. drop k (prefix ++ joined (drop i xs))) count ∙ drop-append-add prefix (joined (drop i xs)) (at - part.start)

-- after the first so many bytes
pub drop_both : (n : ℕ) (xs ys : List ℕ) → drop n (xs ++ ys) ≡ drop n xs ++ drop (n - length xs) ys
drop_both n xs ys = elim (cases_lt (length xs) n) [
  | inl past ↦
      let count : n ≡ length xs + (n - length xs) = omega (arith, past) in
      ap (λ k. drop k (xs ++ ys)) count ∙ drop-append-add xs ys (n - length xs)
      ∙ ap (λ l. l ++ drop (n - length xs) ys) (sym (drop_all n xs (omega (arith, past))))
  | inr within ↦
      let none : n - length xs ≡ 0 = omega (arith, within) in
      drop-append-le n xs ys within ∙ ap (λ k. drop n xs ++ drop k ys) (sym none)
]

pub joined_next : (xs : List Part) (i : ℕ) (part : Part) → i < length xs → part ≡ get_or xs i part → joined (drop i xs) ≡ part.piece ++ joined (drop (i + 1) xs)
joined_next xs i part within is = ap joined (drop_more xs i part within ∙ ap (λ (p : Part). p ∷ drop (i + 1) xs) (sym is))

-- the bytes that were read of one piece stand in the buffer after those before them
pub read_after : (buf sub post bytes : List ℕ) (count more from : ℕ) → count < length buf → more ≤ length sub → drop from bytes ≡ take more sub ++ drop (from + more) bytes
    → take count buf ++ drop from bytes ≡ take (count + more) (take count buf ++ (sub ++ post)) ++ drop (from + more) bytes
read_after buf sub post bytes count more from within fits read =
    let size : length (take count buf) ≡ count = length-take-le count buf (omega (arith, within)) in
    let both_parts : take (count + more) (take count buf ++ (sub ++ post)) ≡ take count buf ++ take more sub =
    ap (λ k. take (k + more) (take count buf ++ (sub ++ post))) (sym size) ∙ take-append-add (take count buf) (sub ++ post) more ∙ ap (λ l. take count buf ++ l) (take-append-le more sub post fits) in
    ap (λ l. take count buf ++ l) read ∙ sym (append_assoc (take count buf) (take more sub) (drop (from + more) bytes)) ∙ ap (λ l. l ++ drop (from + more) bytes) (sym both_parts)

-- one more piece was read, or a part of it
read_step : (all buf buf' piece rest : List ℕ) (count more from : ℕ) → all ≡ take count buf ++ drop from (piece ++ rest) → take count buf ++ drop from piece ≡ take (count + more) buf' ++ drop (from + more) piece
    → all ≡ take (count + more) buf' ++ (drop (from + more) piece ++ drop (from - length piece) rest)
read_step all buf buf' piece rest count more from so_far read =
    so_far ∙ ap (λ l. take count buf ++ l) (drop_both from piece rest) ∙ sym (append_assoc (take count buf) (drop from piece) (drop (from - length piece) rest))
    ∙ ap (λ l. l ++ drop (from - length piece) rest) read ∙ append_assoc (take (count + more) buf') (drop (from + more) piece) (drop (from - length piece) rest)

-- so far, in terms of the parts
abbrev pub IsReadSoFar : List Part → ℕ → List ℕ → ℕ → ℕ → ℕ → Type 0
IsReadSoFar parts passed buf count from i = drop passed (joined parts) ≡ take count buf ++ drop from (joined (drop i parts))

-- a whole piece, and the next one follows
pub read_next : (parts : List Part) (part : Part) (i : ℕ) (buf buf' bytes : List ℕ) (passed count more from room from' : ℕ) → IsReadSoFar parts passed buf count from i → i < length parts → part ≡ get_or parts i part
    → bytes ≡ part.piece → take count buf ++ drop from bytes ≡ take (count + more) buf' ++ drop (from + more) bytes → room ≡ length bytes - from → room ≤ more → from' ≡ from - length bytes
    → IsReadSoFar parts passed buf' (count + more) from' (i + 1)
read_next parts part i buf buf' bytes passed count more from room from' so_far within is same read room_is whole from_is =
    let rest = joined (drop (i + 1) parts) in
    let known : drop passed (joined parts) ≡ take count buf ++ drop from (bytes ++ rest) =
    so_far ∙ ap (λ l. take count buf ++ drop from l) (joined_next parts i part within is ∙ ap (λ l. l ++ rest) (sym same)) in
    read_step (drop passed (joined parts)) buf buf' bytes rest count more from known read
    ∙ ap (λ l. take (count + more) buf' ++ (l ++ drop (from - length bytes) rest)) (drop_all (from + more) bytes (omega (arith, room_is, whole)))
    ∙ ap (λ k. take (count + more) buf' ++ drop k rest) (sym from_is)

-- what was read so far, and what is left
pub read_so_far : (all buf left : List ℕ) (passed count : ℕ) → count ≤ length buf → drop passed all ≡ take count buf ++ left → drop passed all ≡ take count buf ++ drop (passed + count) all
read_so_far all buf left passed count within so_far =
    let size = length-take-le count buf within in
    let left_is : drop count (drop passed all) ≡ left =
    ap (drop count) so_far ∙ ap (λ k. drop k (take count buf ++ left)) (omega (arith, size)) ∙ drop-append-add (take count buf) left 0 in
    so_far ∙ ap (λ l. take count buf ++ l) (sym left_is ∙ drop-drop count passed all)

not_short : (count more from size room : ℕ) → count + more ≡ 0 → (more ≡ 0 → size ≤ from) → room ≡ size - from → more < room → ⊥
not_short count more from size room none end room_is short =
    let at_end : size ≤ from = end (omega (arith, none)) in
    omega (arith, at_end, room_is, short)

-- a part of a piece, which fills the buffer
pub read_part : (parts : List Part) (part : Part) (i : ℕ) (buf buf' bytes : List ℕ) (passed count more from room : ℕ) → IsReadSoFar parts passed buf count from i → i < length parts → part ≡ get_or parts i part
    → bytes ≡ part.piece → take count buf ++ drop from bytes ≡ take (count + more) buf' ++ drop (from + more) bytes → count + more ≤ length buf' → (more ≡ 0 → length bytes ≤ from)
    → room ≡ length bytes - from → more < room → IsReadAt (joined parts) passed buf' (count + more)
read_part parts part i buf buf' bytes passed count more from room so_far within is same read fits end room_is short =
    let rest = joined (drop (i + 1) parts) in
    let known : drop passed (joined parts) ≡ take count buf ++ drop from (bytes ++ rest) =
    so_far ∙ ap (λ l. take count buf ++ drop from l) (joined_next parts i part within is ∙ ap (λ l. l ++ rest) (sym same)) in
    record {
      moved = read_so_far (joined parts) buf' _ passed (count + more) fits (read_step (drop passed (joined parts)) buf buf' bytes rest count more from known read);
      end = λ none. absurd (not_short count more from (length bytes) room none end room_is short);
    }

none_left : (all buf : List ℕ) (passed count : ℕ) → count ≡ 0 → drop passed all ≡ take count buf ++ [] → length all ≤ passed
none_left all buf passed count none so_far =
    let empty : drop passed all ≡ [] = so_far ∙ ap (λ k. take k buf ++ []) none in
    let gone = ap length empty in
    let size = length-drop passed all in
    omega (arith, gone, size)

-- every piece was read
pub read_last : (parts : List Part) (i : ℕ) (buf : List ℕ) (passed count from : ℕ) → IsReadSoFar parts passed buf count from i → length parts ≤ i → count ≤ length buf → IsReadAt (joined parts) passed buf count
read_last parts i buf passed count from so_far past fits =
    let none : drop from (joined (drop i parts)) ≡ [] = ap (λ l. drop from (joined l)) (drop_all i parts past) ∙ drop_all from [] (omega arith) in
    record {
      moved = read_so_far (joined parts) buf (drop from (joined (drop i parts))) passed count fits so_far;
      end = λ nothing. none_left (joined parts) buf passed count nothing (so_far ∙ ap (λ l. take count buf ++ l) none);
    }

-- from another byte of other bytes, where the same ones follow
pub read_moved : (all rest buf : List ℕ) (at passed count : ℕ) → drop at all ≡ drop passed rest → IsReadAt rest passed buf count → IsReadAt all at buf count
read_moved all rest buf at passed count same read = record {
  moved = same ∙ read.moved ∙ ap (λ l. take count buf ++ l) (sym (drop-drop count passed rest) ∙ ap (drop count) (sym same) ∙ drop-drop count at all);
  end = λ none.
      let past = read.end none in
      let gone = ap length same in
      let size = length-drop at all in
      let other = length-drop passed rest in
      omega (arith, past, gone, size, other);
}
