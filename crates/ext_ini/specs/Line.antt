-- The lines of a unit file, after systemd.syntax(7). That comments have to be text, and that no bracket stands in the name of
-- a section, is this project's own.
use Rattle.std.specs.Prelude.{ℕ, Bool, false, not, ◌&&◌, ◌||◌, ◌==◌, if◌then◌else◌, List, [], ◌∷◌, length, map, Option, Some, None}
use Rattle.std.specs.List.{list_all}
use Rattle.std.specs.Str.Lines.{strip_carriage_return}
use Rattle.ext_lines.specs.Blanks.{after_blanks}
use Rattle.ext_lines.specs.Lines.{text_lines}
use Rattle.ext_lines.specs.Plain.{is_plain_text_with_tabs}

-- the lines of a file. No line follows a last newline, and one carriage return at the end of a line does not count
abbrev pub file_lines : List ℕ → List (List ℕ)
file_lines bytes = map strip_carriage_return (text_lines bytes)

-- whether the first byte is `#` or `;`
abbrev pub begins_comment : List ℕ → Bool
begins_comment [] = false
begins_comment (b ∷ bs) = b == 35 || b == 59

-- whether the first byte after blanks is
abbrev pub is_comment : List ℕ → Bool
is_comment line = begins_comment (after_blanks line)

-- the number of a line that is no text
abbrev pub fault_of : ℕ → List ℕ → Option ℕ
fault_of number line = if is_plain_text_with_tabs line then None else Some number

-- no bracket
abbrev pub is_no_bracket : ℕ → Bool
is_no_bracket b = not (b == 91) && not (b == 93)

-- bytes that are no brackets, and one at least
abbrev pub is_section_name : List ℕ → Bool
is_section_name name = not (length name == 0) && list_all is_no_bracket name
