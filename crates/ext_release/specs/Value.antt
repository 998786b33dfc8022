-- Values and their quotes. Both kinds of quotes and the backslash are os-release(5)'s, which follows the shell; that only
-- one piece is quoted, and what a backslash does in each place, is this project's own.
use Rattle.std.specs.Prelude.{ℕ, Bool, if◌then◌else◌, ◌||◌, ◌==◌, List, [], ◌∷◌, ◌++◌, length, Option, Some, None}
use Rattle.std.specs.Option.{option_map}
use Rattle.ext_lines.specs.Split.{split_of}

-- a double quote or a backslash
abbrev pub is_mark : ℕ → Bool
is_mark b = b == 34 || b == 92

-- a double quote, a dollar sign, a backquote or a backslash
abbrev pub is_special : ℕ → Bool
is_special b = b == 34 || b == 36 || b == 96 || b == 92

-- what a backslash and the byte after it stand for inside double quotes: for a special byte alone, else for both
abbrev pub escaped : ℕ → List ℕ
escaped b = if is_special b then b ∷ [] else 92 ∷ b ∷ []

-- a text and the text after it, with a prefix put before the first
abbrev pub with_prefix : List ℕ → Option (List ℕ × List ℕ) → Option (List ℕ × List ℕ)
with_prefix prefix o = option_map (λ parts. (prefix ++ parts.0, parts.1)) o

-- what the text before the double quote that closes stands for, and the text after that quote
abbrev pub split_double : List ℕ → Option (List ℕ × List ℕ)
split_double [] = None
split_double (b ∷ []) = if b == 34 then Some ([], []) else None
split_double (b ∷ c ∷ cs) =
    if b == 34 then Some ([], c ∷ cs)
    else if b == 92 then with_prefix (escaped c) (split_double cs)
    else with_prefix (b ∷ []) (split_double (c ∷ cs))

-- the text inside quotes: the quote closes, and nothing stands after it
abbrev pub closed : Option (List ℕ × List ℕ) → Option (List ℕ)
closed None = None
closed (Some parts) = if length parts.1 == 0 then Some parts.0 else None

-- a text without quotes: a backslash escapes the byte after it, which stands for itself, and at the end stands for nothing
abbrev pub bare : List ℕ → List ℕ
bare [] = []
bare (b ∷ []) = if b == 92 then [] else b ∷ []
bare (b ∷ c ∷ cs) = if b == 92 then c ∷ bare cs else b ∷ bare (c ∷ cs)

-- the value that a text stands for; None where its quote does not close, or where text follows that
abbrev pub unquoted : List ℕ → Option (List ℕ)
unquoted [] = Some []
unquoted (b ∷ bs) =
    if b == 34 then closed (split_double bs)
    else if b == 39 then closed (split_of 39 bs)
    else Some (bare (b ∷ bs))
