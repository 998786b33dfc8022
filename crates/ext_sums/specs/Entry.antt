-- The lines of a manifest, which sha256sum(1) writes: a digest, a space, a second one or `*`, and a name. Which names there
-- are, and that no line is a comment or escapes its name, is this project's own.
use Rattle.std.specs.Prelude.{ℕ, Bool, not, if◌then◌else◌, ◌&&◌, ◌||◌, ◌==◌, List, [], ◌∷◌, length, take, drop, Option, Some, None, Result, Ok, Err}
use Rattle.std.specs.List.{list_all}
use Rattle.std.specs.Option.{option_map}
use Rattle.hex.specs.Hex.{decode_of, is_hex_digit}
use Rattle.hex.specs.declared.error.FromHexError.{FromHexError}
use Rattle.ext_lines.specs.Plain.{is_plain_text}

-- a name and its digest, both as their bytes
abbrev pub Entry : Type 0
Entry = List ℕ × List ℕ

-- 64 hexadecimal digits, each of either case
abbrev pub is_digest_text : List ℕ → Bool
is_digest_text text = length text == 64 && list_all is_hex_digit text

-- what decoding gave, and nothing where it failed
abbrev pub decoded : Result (List ℕ) FromHexError → List ℕ
decoded (Ok bytes) = bytes
decoded (Err e) = []

-- the bytes that digits write, two digits a byte
abbrev pub bytes_of : List ℕ → List ℕ
bytes_of digits = decoded (decode_of digits)

-- at least one byte, UTF-8 without control bytes
abbrev pub is_listed_name : List ℕ → Bool
is_listed_name name = not (length name == 0) && is_plain_text name

-- the name after the digits: a space stands before it, and a second one or `*`
abbrev pub name_of : List ℕ → Option (List ℕ)
name_of [] = None
name_of (a ∷ []) = None
name_of (a ∷ b ∷ name) = if a == 32 && (b == 32 || b == 42) && is_listed_name name then Some name else None

-- what a line lists; None where it is no entry
abbrev pub entry_of : List ℕ → Option Entry
entry_of line =
    if is_digest_text (take 64 line) then option_map (λ name. (name, bytes_of (take 64 line))) (name_of (drop 64 line)) else None
