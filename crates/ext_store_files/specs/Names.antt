-- The names in the store folder, the paths at which the store keeps things, and the text of `current`. The layout is this
-- project's own:
--
--     current       the name of the current generation, and a newline
--     next          the coming `current`, while a change is made
--     g-N           a folder for generation N
--     g-N/index     its index
--     g-N/abc/de    the file of the number that has the five hexadecimal digits abcde
use Rattle.std.specs.Prelude.{ℕ, ◌^◌, ◌<◌, Bool, ◌&&◌, if◌then◌else◌, nat_lt, List, [], ◌∷◌, ◌++◌, take, drop, Option, Some, None, codes, decimal}
use Rattle.std.specs.Ordering.{eq_by_cmp}
use Rattle.std.specs.Str.Parse.{digits_value}
use Rattle.ext_lines.specs.ByteOrder.{bytes_cmp}
use Rattle.ext_lines.specs.Hexadecimal.{five_digits}
use Rattle.ext_host.specs.Home.{most_files_of_generation}

-- the name of the file that names the current generation
abbrev pub current_name : List ℕ
current_name = codes "current"

-- the name of the coming one
abbrev pub next_name : List ℕ
next_name = codes "next"

-- the name of an index
abbrev pub index_name : List ℕ
index_name = codes "index"

-- `g-` and the number in decimal digits
abbrev pub generation_name : ℕ → List ℕ
generation_name n = codes "g-" ++ decimal n

-- the numbers of generations: 1 to 4,294,967,295
abbrev pub IsGeneration : ℕ → Type 0
IsGeneration n = (0 < n) × (n < 2 ^ 32)

-- the number is one of a generation
abbrev pub is_generation : ℕ → Bool
is_generation n = nat_lt 0 n && nat_lt n (2 ^ 32)

-- this number, where the name is that of its generation
abbrev pub generation_named : ℕ → List ℕ → Option ℕ
generation_named n name = if is_generation n && eq_by_cmp bytes_cmp name (generation_name n) then Some n else None

-- the number of the generation that has the name: it can only be what the digits after two bytes write
abbrev pub generation_of : List ℕ → Option ℕ
generation_of name = generation_named (digits_value 10 (drop 2 name)) name

-- the path of `current`
abbrev pub current_path : List (List ℕ)
current_path = current_name ∷ []

-- the path of `next`
abbrev pub next_path : List (List ℕ)
next_path = next_name ∷ []

-- the path of a generation's folder
abbrev pub generation_path : ℕ → List (List ℕ)
generation_path n = generation_name n ∷ []

-- the path of a generation's index
abbrev pub index_path : ℕ → List (List ℕ)
index_path n = generation_name n ∷ index_name ∷ []

-- the numbers of a generation's files: 0 to 262,143
abbrev pub IsFileNumber : ℕ → Type 0
IsFileNumber k = k < most_files_of_generation

-- the folder of a file: the first three of the digits of its number
abbrev pub home_folder : ℕ → ℕ → List (List ℕ)
home_folder n k = generation_name n ∷ take 3 (five_digits k) ∷ []

-- where a file stands: its name in that folder is the last two of the digits
abbrev pub home_path : ℕ → ℕ → List (List ℕ)
home_path n k = generation_name n ∷ take 3 (five_digits k) ∷ drop 3 (five_digits k) ∷ []

-- the text of `current` for a generation: its name and a newline
abbrev pub current_text : ℕ → List ℕ
current_text n = generation_name n ++ 10 ∷ []
