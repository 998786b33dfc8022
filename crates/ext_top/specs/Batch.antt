-- A batch: the lines that its bytes are, which a run looks at one after another. This project's own.
use Rattle.std.specs.Prelude.{◌≡◌, ℕ, ◌⊎◌, true, false, List, [], ◌∷◌, ◌++◌}
use Rattle.ext_lines.specs.Lines.{text_lines}
use Rattle.ext_lines.specs.Words.{words_of}
use Rattle.ext_cmd.specs.Line.{IsLineUsage, counts_for_nothing, may_be_line}
use Rattle.ext_cmd.specs.Words.{IsWellFormed, command_words}
use Rattle.ext_top.specs.Exits.{Line, does, unread, wrong}

-- the most bytes of a source
abbrev pub most_source : ℕ
most_source = 16777216

-- the line that words are which don't count for nothing; of words that found no memory to be read nothing is known
abbrev pub IsLineOf : List (List ℕ) → Line → Type 0
IsLineOf words (does command) =
    (counts_for_nothing words ≡ false) × IsWellFormed command × (may_be_line command ≡ true) × (words ≡ command_words command)
IsLineOf words (wrong place) = (counts_for_nothing words ≡ false) × IsLineUsage words place
IsLineOf words unread = Unit {0}

-- the lines of texts, in their order: none for a text that counts for nothing, and else one
abbrev pub AreLines : List (List ℕ) → List Line → Type 0
AreLines [] lines = lines ≡ []
AreLines (text ∷ texts) lines =
    ((counts_for_nothing (words_of text) ≡ true) × AreLines texts lines)
    ⊎ ((line : Line) × (more : List Line) × (lines ≡ line ∷ more) × IsLineOf (words_of text) line × AreLines texts more)

-- these are the lines of the first texts of a source, and of no others
pub record AreFirstLines (bytes : List ℕ) (lines : List Line) (others : List (List ℕ)) : Type 0 where
  pub looked : List (List ℕ)
  pub parts : text_lines bytes ≡ looked ++ others
  pub are : AreLines looked lines
