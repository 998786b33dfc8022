-- How a path of the host is written for a reader: its text after a `/`.
use Rattle.std.specs.Prelude.{ℕ, List, ◌∷◌}
use Rattle.ext_text.specs.Path.{path_text}

-- a `/`, and the names with a `/` between each two; the root is `/` alone
abbrev pub absolute : List (List ℕ) → List ℕ
absolute path = 47 ∷ path_text path
