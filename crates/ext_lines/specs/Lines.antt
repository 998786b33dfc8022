-- The lines of a text. A newline ends a line; whether one has to end the last line is each format's own.
use Rattle.std.specs.Prelude.{◌≡◌, ℕ, ◌-◌, ◌<◌, ◌==◌, List, [], ◌∷◌, ◌++◌, length, take, Option, MatchOption}
use Rattle.std.specs.Borrow.{Bor}
use Rattle.std.specs.List.{flat_map, slice_split}

-- lines with their newlines
abbrev pub lines_text : List (List ℕ) → List ℕ
lines_text lines = flat_map (λ line. line ++ 10 ∷ []) lines

-- the lines of a text; the last may be empty
abbrev pub lines_of : List ℕ → List (List ℕ)
lines_of text = slice_split (λ b. b == 10) text

-- the lines of a text that a newline ends
abbrev pub whole_lines : List ℕ → List (List ℕ)
whole_lines text = let lines = lines_of text in take (length lines - 1) lines

-- one line, and none where it is empty
abbrev pub unless_empty : List ℕ → List (List ℕ)
unless_empty [] = []
unless_empty (b ∷ line) = (b ∷ line) ∷ []

-- lines without an empty last one
abbrev pub ended_lines : List (List ℕ) → List (List ℕ)
ended_lines [] = []
ended_lines (line ∷ []) = unless_empty line
ended_lines (line ∷ next ∷ lines) = line ∷ ended_lines (next ∷ lines)

-- the lines of a text whose last line may lack its newline: no line follows a last newline
abbrev pub text_lines : List ℕ → List (List ℕ)
text_lines text = ended_lines (lines_of text)

-- the first line of a text, and the text of the other lines, if there are any
abbrev pub IsNextLine : List ℕ → List ℕ → Option (Bor (List ℕ)) → Type 0
IsNextLine text line after = MatchOption after (lines_of text ≡ line ∷ []) (λ more. (lines_of text ≡ line ∷ lines_of more.now) × (length more.now < length text))
