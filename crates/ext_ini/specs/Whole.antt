-- Whole lines: what a line and those that it goes on with make. A line whose last byte is a backslash goes on with the next
-- that is no comment, and the backslash becomes a space: that is systemd.syntax(7)'s. That a backslash before it makes no
-- difference, that a comment never goes on, and the number of a whole line are this project's own.
use Rattle.std.specs.Prelude.{ℕ, ◌+◌, if◌then◌else◌, List, [], ◌∷◌, ◌++◌, Option, Some, None}
use Rattle.std.specs.Option.{option_or, option_to_list}
use Rattle.ext_lines.specs.Split.{before_last}
use Rattle.ext_ini.specs.declared.whole.Whole.{Whole}
use Rattle.ext_ini.specs.Line.{fault_of, file_lines, is_comment}

-- the whole line that goes on, or else one that begins here
abbrev pub begun : Option Whole → ℕ → Whole
begun None number = record { number = number; text = []; fault = None }
begun (Some whole) number = whole

-- the first fault counts
abbrev pub with_fault : Whole → Option ℕ → Whole
with_fault whole fault = record { number = whole.number; text = whole.text; fault = option_or whole.fault fault }

-- with the text of a line more
abbrev pub extended : Whole → Option ℕ → List ℕ → Whole
extended whole fault more = record { number = whole.number; text = whole.text ++ more; fault = option_or whole.fault fault }

-- what a comment leaves, as any line does: the whole line that ends with it, if one does, and the one that goes on after it.
-- Between lines that go on it leaves its fault alone, and any other is an empty whole line
abbrev pub of_comment : Option Whole → ℕ → Option ℕ → List Whole × Option Whole
of_comment None number fault = (extended (begun None number) fault [] ∷ [], None)
of_comment (Some whole) number fault = ([], Some (with_fault whole fault))

-- a line without a backslash at its end ends a whole line
abbrev pub ended : Option Whole → ℕ → Option ℕ → List ℕ → List Whole × Option Whole
ended pending number fault line = (extended (begun pending number) fault line ∷ [], None)

-- the text before a backslash goes on after a space
abbrev pub going_on : Option Whole → ℕ → Option ℕ → List ℕ → List Whole × Option Whole
going_on pending number fault prefix = ([], Some (extended (begun pending number) fault (prefix ++ 32 ∷ [])))

-- by the text before the backslash, if the line ends in one
abbrev pub of_line : Option Whole → ℕ → Option ℕ → List ℕ → Option (List ℕ) → List Whole × Option Whole
of_line pending number fault line None = ended pending number fault line
of_line pending number fault line (Some prefix) = going_on pending number fault prefix

-- what any line leaves; it is judged as it stands, without its carriage return
abbrev pub left_by : Option Whole → ℕ → List ℕ → List Whole × Option Whole
left_by pending number line =
    if is_comment line then of_comment pending number (fault_of number line) else of_line pending number (fault_of number line) line (before_last 92 line)

-- the whole lines of lines, the first of which has this number, after a whole line that goes on. At the end it ends
abbrev pub wholes_of : Option Whole → ℕ → List (List ℕ) → List Whole
wholes_of pending number [] = option_to_list pending
wholes_of pending number (l ∷ ls) = let left = left_by pending number l in left.0 ++ wholes_of left.1 (number + 1) ls

-- the whole lines of a file
abbrev pub file_wholes : List ℕ → List Whole
file_wholes bytes = wholes_of None 1 (file_lines bytes)
