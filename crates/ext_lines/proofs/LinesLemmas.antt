-- The lines of a text, one by one.
use Rattle.std.proofs.Common.{◌≡◌, ℕ, suc, ◌-◌, ◌<◌, false, List, [], ◌∷◌, ◌++◌, length, length-append, take, refl, sym, ap, ◌∙◌, arith, append_assoc, eqb}
use Rattle.std.specs.List.{AllByRecursion}
use Rattle.std.proofs.lemmas.Bool.{true≢false}
use Rattle.std.proofs.lemmas.List.Splits.{length-slice_split}
use Rattle.std.proofs.lemmas.List.Concat.{flat_map-append}
use Rattle.ext_lines.specs.Split.{Lacks, IsSplit}
use Rattle.ext_lines.specs.Lines.{ended_lines, lines_of, lines_text, text_lines, whole_lines}
use Rattle.ext_lines.proofs.SplitLemmas.{first_part, one_part}

-- without a newline there is one
pub last_line : (text : List ℕ) → Lacks 10 text → lines_of text ≡ text ∷ []
last_line text lacks = one_part 10 text lacks

-- the first line, and those of the shorter rest
pub first_line : (text line after : List ℕ) → IsSplit 10 text line after → (lines_of text ≡ line ∷ lines_of after) × (length after < length text)
first_line text line after is =
    (first_part 10 text line after is, omega (arith, ap length is.whole, length-append line (10 ∷ after)))

but_last : {X : Type 0} (x : X) (xs : List X) → 0 < length xs → take (length (x ∷ xs) - 1) (x ∷ xs) ≡ x ∷ take (length xs - 1) xs
but_last x xs some =
    let count : length (x ∷ xs) - 1 ≡ suc (length xs - 1) = omega arith in
    ap (λ k. take k (x ∷ xs)) count

some_line : (text : List ℕ) → 0 < length (lines_of text)
some_line text = omega (arith, length-slice_split (λ b. eqb b 10) text)

-- the first line, and those after it
pub whole_lines-split : (text line more : List ℕ) → IsSplit 10 text line more → whole_lines text ≡ line ∷ whole_lines more
whole_lines-split text line more split =
    ap (λ (lines : List (List ℕ)). take (length lines - 1) lines) (first_part 10 text line more split)
    ∙ but_last line (lines_of more) (some_line more)

-- without a newline there is none
pub whole_lines-lacks : (text : List ℕ) → Lacks 10 text → whole_lines text ≡ []
whole_lines-lacks text lacks = ap (λ (lines : List (List ℕ)). take (length lines - 1) lines) (one_part 10 text lacks)

-- lines and the text after them
pub whole_lines-text : (lines : List (List ℕ)) (rest : List ℕ) → AllByRecursion (Lacks 10) lines → whole_lines (lines_text lines ++ rest) ≡ lines ++ whole_lines rest
whole_lines-text [] rest lacks = refl
whole_lines-text (l ∷ lines) rest lacks =
    whole_lines-split (lines_text (l ∷ lines) ++ rest) l (lines_text lines ++ rest) (record { whole = regrouped; prefix_lacks = lacks.0 })
    ∙ ap (λ ls. l ∷ ls) (whole_lines-text lines rest lacks.1)
  where
    regrouped : lines_text (l ∷ lines) ++ rest ≡ l ++ 10 ∷ (lines_text lines ++ rest)
    regrouped = append_assoc (l ++ 10 ∷ []) (lines_text lines) rest ∙ append_assoc l (10 ∷ []) (lines_text lines ++ rest)

ended-more : (line : List ℕ) (lines : List (List ℕ)) → 0 < length lines → ended_lines (line ∷ lines) ≡ line ∷ ended_lines lines
ended-more line [] some = absurd (omega arith)
ended-more line (next ∷ lines) some = refl

-- the first line, and those of the shorter rest
pub text_lines-split : (text line after : List ℕ) → IsSplit 10 text line after → (text_lines text ≡ line ∷ text_lines after) × (length after < length text)
text_lines-split text line after is =
    let first = first_line text line after is in
    (ap ended_lines first.0 ∙ ended-more line (lines_of after) (some_line after), first.1)

-- without a newline the whole text is the only line
pub text_lines-lacks : (text : List ℕ) → Lacks 10 text → 0 < length text → text_lines text ≡ text ∷ []
text_lines-lacks [] lacks some = absurd (omega arith)
text_lines-lacks (b ∷ bs) lacks some = ap ended_lines (last_line (b ∷ bs) lacks)

-- a text that is not empty has bytes
pub some_bytes : (text : List ℕ) → eqb (length text) 0 ≡ false → 0 < length text
some_bytes [] empty = absurd (true≢false empty)
some_bytes (b ∷ bs) some = omega arith

-- one more line
pub lines_text-push : (lines : List (List ℕ)) (l more : List ℕ) → lines_text (lines ++ l ∷ []) ++ more ≡ lines_text lines ++ (l ++ 10 ∷ more)
lines_text-push [] l more = append_assoc (l ++ 10 ∷ []) [] more ∙ append_assoc l (10 ∷ []) more
lines_text-push (x ∷ lines) l more =
    append_assoc (x ++ 10 ∷ []) (lines_text (lines ++ l ∷ [])) more
    ∙ ap (λ t. (x ++ 10 ∷ []) ++ t) (lines_text-push lines l more)
    ∙ sym (append_assoc (x ++ 10 ∷ []) (lines_text lines) (l ++ 10 ∷ more))

-- more lines
pub lines_text-append : (xs ys : List (List ℕ)) → lines_text (xs ++ ys) ≡ lines_text xs ++ lines_text ys
lines_text-append xs ys = flat_map-append (λ line. line ++ 10 ∷ []) xs ys
