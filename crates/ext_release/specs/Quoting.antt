-- Laws of quoted values: what is written in quotes is read back.
use Rattle.std.specs.Prelude.{◌≡◌, ℕ, false, if◌then◌else◌, ◌==◌, List, [], ◌∷◌, ◌++◌, Some}
use Rattle.std.specs.List.{AllByRecursion, flat_map}
use Rattle.ext_release.specs.Value.{is_special, unquoted}

-- a text as it is written inside double quotes: a backslash stands before each byte that is special there
abbrev pub escaped_text : List ℕ → List ℕ
escaped_text text = flat_map (λ b. if is_special b then 92 ∷ b ∷ [] else b ∷ []) text

-- in double quotes every text can be written
abbrev pub DoubleQuotesAreReadBack : Type 0
DoubleQuotesAreReadBack = (text : List ℕ) → unquoted (34 ∷ escaped_text text ++ 34 ∷ []) ≡ Some text

-- in single quotes a text without one stands for itself
abbrev pub SingleQuotesAreReadBack : Type 0
SingleQuotesAreReadBack = (text : List ℕ) → AllByRecursion (λ b. (b == 39) ≡ false) text → unquoted (39 ∷ text ++ 39 ∷ []) ≡ Some text
