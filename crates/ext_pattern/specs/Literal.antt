-- Literals: the bytes of a pattern that stand for themselves. Which they may be is this project's own: what a name may have, but
-- for the `@` before a wildcard.
use Rattle.std.specs.Prelude.{ℕ, Bool, not, ◌&&◌, ◌==◌, List}
use Rattle.std.specs.List.{list_all}
use Rattle.ext_lines.specs.Plain.{is_plain_text}

-- neither `/` nor `@`
abbrev pub is_literal_byte : ℕ → Bool
is_literal_byte b = not (b == 47) && not (b == 64)

-- UTF-8 without control bytes, `/` and `@`
abbrev pub is_literal : List ℕ → Bool
is_literal text = is_plain_text text && list_all is_literal_byte text
