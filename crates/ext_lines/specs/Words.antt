-- The words of a text. os-release(5) and systemd.syntax(7) speak of lists whose parts are separated by spaces; that a tab
-- separates them too is this project's own.
use Rattle.std.specs.Prelude.{◌≡◌, ℕ, ◌<◌, Bool, not, ◌==◌, List, [], ◌∷◌, length, Option, MatchOption}
use Rattle.std.specs.Borrow.{Bor}
use Rattle.std.specs.List.{filter, list_any, slice_split}
use Rattle.std.specs.Str.{bytes_eq}
use Rattle.ext_lines.specs.Blanks.{is_blank}

-- the longest runs without a blank: what stands between blanks and is not empty
abbrev pub words_of : List ℕ → List (List ℕ)
words_of text = filter (λ piece. not (length piece == 0)) (slice_split is_blank text)

-- whether the word is one of the text's
abbrev pub has_word : List ℕ → List ℕ → Bool
has_word word text = list_any (bytes_eq word) (words_of text)

-- the first word of a text, and the text after it, if there is one
abbrev pub IsNextWord : List ℕ → Option (Bor (List ℕ) × Bor (List ℕ)) → Type 0
IsNextWord text found = MatchOption found (words_of text ≡ []) (λ parts. (words_of text ≡ parts.0.now ∷ words_of parts.1.now) × (length parts.1.now < length text))
