-- The text of a path, by its bytes alone: its order, its prefixes, and two of them joined. The laws of this crate say
-- that each is what the lists of names have.
use Rattle.std.specs.Prelude.{ℕ, ◌+◌, Bool, true, false, ◌&&◌, ◌==◌, if◌then◌else◌, List, [], ◌∷◌, ◌++◌, length, drop}
use Rattle.std.specs.Cmp.Lexicographic.{slice_cmp}
use Rattle.std.specs.Ordering.{nat_cmp}
use Rattle.std.specs.declared.cmp.Ordering.{Ordering}

-- `/` stands below every other byte
abbrev pub rank : ℕ → ℕ
rank b = if b == 47 then 0 else b

-- texts by the ranks of their bytes, a proper prefix first
abbrev pub text_cmp : List ℕ → List ℕ → Ordering
text_cmp = slice_cmp (λ a b. nat_cmp (rank a) (rank b))

-- a name ends here: the text is at its end, or at a `/`
abbrev pub is_border : List ℕ → Bool
is_border [] = true
is_border (b ∷ bs) = b == 47

-- the second text begins with the first, and a name ends there
abbrev pub goes_on : List ℕ → List ℕ → Bool
goes_on [] text = is_border text
goes_on (a ∷ prefix) [] = false
goes_on (a ∷ prefix) (b ∷ text) = a == b && goes_on prefix text

-- the second text is that of the first path, or of one below it; all are below the root
abbrev pub text_prefix : List ℕ → List ℕ → Bool
text_prefix [] text = true
text_prefix (a ∷ prefix) text = goes_on (a ∷ prefix) text

-- the text of the second path below the first; at the root no `/` counts
abbrev pub text_of_both : List ℕ → List ℕ → List ℕ
text_of_both [] lower = lower
text_of_both (b ∷ upper) [] = b ∷ upper
text_of_both (b ∷ upper) (c ∷ lower) = (b ∷ upper) ++ 47 ∷ c ∷ lower

-- what follows the first text in one that begins with it, without the `/` between
abbrev pub text_after : List ℕ → List ℕ → List ℕ
text_after [] text = text
text_after (a ∷ prefix) text = drop (length (a ∷ prefix) + 1) text
