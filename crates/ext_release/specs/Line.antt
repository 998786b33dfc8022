-- The lines of a release file. Assignments, empty lines and comments are os-release(5)'s; which keys there are, what is
-- skipped and what is faulty is this project's own.
use Rattle.std.specs.Prelude.{ℕ, Bool, true, false, if◌then◌else◌, ◌&&◌, ◌||◌, ◌==◌, nat_le, List, [], ◌∷◌, Option, Some, None}
use Rattle.std.specs.List.{list_all}
use Rattle.std.specs.Str.Lines.{strip_carriage_return}
use Rattle.ext_lines.specs.Blanks.{trimmed}
use Rattle.ext_lines.specs.Plain.{is_plain_text_with_tabs}
use Rattle.ext_lines.specs.Split.{split_of}
use Rattle.ext_release.specs.Value.{unquoted}

-- what a line means: it is faulty, it is skipped, or it sets a key to a value
pub data ReleaseLine : Type 0 where
  Faulty : ReleaseLine
  Skipped : ReleaseLine
  Sets : List ℕ → List ℕ → ReleaseLine

-- a capital letter of ASCII, or `_`
abbrev pub begins_key : ℕ → Bool
begins_key b = (nat_le 65 b && nat_le b 90) || b == 95

-- such a byte, or a digit
abbrev pub is_key_byte : ℕ → Bool
is_key_byte b = begins_key b || (nat_le 48 b && nat_le b 57)

-- capital letters, digits and `_`, and the first is no digit
abbrev pub is_key : List ℕ → Bool
is_key [] = false
is_key (b ∷ bs) = begins_key b && list_all is_key_byte bs

-- a text that stands for no value is a fault
abbrev pub sets : List ℕ → Option (List ℕ) → ReleaseLine
sets key None = Faulty
sets key (Some value) = Sets key value

-- an assignment to what is no key is skipped
abbrev pub assigns : List ℕ → List ℕ → ReleaseLine
assigns key text = if is_key key then sets key (unquoted (trimmed text)) else Skipped

-- a text without `=` is skipped
abbrev pub assignment : Option (List ℕ × List ℕ) → ReleaseLine
assignment None = Skipped
assignment (Some parts) = assigns parts.0 parts.1

-- what a line without its carriage return means. Empty lines and comments are skipped, as they have no `=` or no key
-- before it
abbrev pub meaning : List ℕ → ReleaseLine
meaning text = if is_plain_text_with_tabs text then assignment (split_of 61 (trimmed text)) else Faulty

-- what a line means; one carriage return at its end does not count
abbrev pub line_of : List ℕ → ReleaseLine
line_of line = meaning (strip_carriage_return line)

-- whether a line is faulty
abbrev pub is_faulty : ReleaseLine → Bool
is_faulty Faulty = true
is_faulty Skipped = false
is_faulty (Sets key value) = false
