-- Blanks: spaces and tabs.
use Rattle.std.specs.Prelude.{ℕ, Bool, ◌||◌, ◌==◌, if◌then◌else◌, List, [], ◌∷◌, reverse}

-- a space or a tab
abbrev pub is_blank : ℕ → Bool
is_blank b = b == 32 || b == 9

-- without the blanks that the text begins with
abbrev pub after_blanks : List ℕ → List ℕ
after_blanks [] = []
after_blanks (b ∷ bs) = if is_blank b then after_blanks bs else b ∷ bs

-- without the blanks at the end
abbrev pub before_blanks : List ℕ → List ℕ
before_blanks text = reverse (after_blanks (reverse text))

-- without the blanks at both ends
abbrev pub trimmed : List ℕ → List ℕ
trimmed text = before_blanks (after_blanks text)
