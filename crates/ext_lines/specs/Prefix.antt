-- Prefixes of texts.
use Rattle.std.specs.Prelude.{◌≡◌, ℕ, ◌<◌, List, ◌++◌, length}

-- the text begins with the prefix
abbrev pub IsPrefix : List ℕ → List ℕ → Type 0
IsPrefix prefix text = (rest : List ℕ) × (text ≡ prefix ++ rest)

-- the text begins with the prefix, and more follows
abbrev pub IsProperPrefix : List ℕ → List ℕ → Type 0
IsProperPrefix prefix text = (rest : List ℕ) × (text ≡ prefix ++ rest) × (0 < length rest)

-- some prefix of a text was added at the end
abbrev pub AppendsPrefix : List ℕ → List ℕ → List ℕ → Type 0
AppendsPrefix old new text = (prefix : List ℕ) × IsPrefix prefix text × (new ≡ old ++ prefix)
