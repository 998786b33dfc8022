-- What an earlier change may have left in the store folder, which the next one removes before it writes.
use Rattle.std.specs.Prelude.{ℕ, Bool, false, not, ◌||◌, List, [], ◌∷◌, Option, Some, None}
use Rattle.std.specs.BTreeSet.{BTreeSet, contains}
use Rattle.std.specs.Ordering.{eq_by_cmp, nat_cmp}
use Rattle.ext_lines.specs.ByteOrder.{bytes_cmp}
use Rattle.ext_store_files.specs.Names.{next_name, generation_of}

-- the most paths at and below left-overs that one change removes
abbrev pub most_left_overs : ℕ
most_left_overs = 1048576

-- the set has the generation
abbrev pub has_generation : BTreeSet ℕ → ℕ → Bool
has_generation needed n = contains nat_cmp needed n

-- a generation that is not needed
abbrev pub is_left_generation : (ℕ → Bool) → Option ℕ → Bool
is_left_generation needed None = false
is_left_generation needed (Some n) = not (needed n)

-- `next`, and each generation's name that is not needed: neither the current one's nor that of a file's home
abbrev pub is_left_over : (ℕ → Bool) → List ℕ → Bool
is_left_over needed name = eq_by_cmp bytes_cmp name next_name || is_left_generation needed (generation_of name)

-- a path at or below a left-over
abbrev pub is_left_path : (ℕ → Bool) → List (List ℕ) → Bool
is_left_path needed [] = false
is_left_path needed (name ∷ p) = is_left_over needed name
