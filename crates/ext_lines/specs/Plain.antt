-- Text without control bytes. ASCII has two ranges of them: the bytes below 32, and the byte 127.
use Rattle.std.specs.Prelude.{ℕ, Bool, not, ◌&&◌, ◌||◌, ◌==◌, nat_le, List}
use Rattle.std.specs.List.{list_all}
use Rattle.std.specs.Str.{is_utf8}

-- no control byte
abbrev pub is_plain_byte : ℕ → Bool
is_plain_byte b = nat_le 32 b && not (b == 127)

-- a tab, or no control byte
abbrev pub is_plain_or_tab : ℕ → Bool
is_plain_or_tab b = b == 9 || is_plain_byte b

-- UTF-8 without control bytes
abbrev pub is_plain_text : List ℕ → Bool
is_plain_text text = list_all is_plain_byte text && is_utf8 text

-- UTF-8 without control bytes other than tabs
abbrev pub is_plain_text_with_tabs : List ℕ → Bool
is_plain_text_with_tabs text = list_all is_plain_or_tab text && is_utf8 text
