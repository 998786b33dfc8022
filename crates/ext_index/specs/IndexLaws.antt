-- The laws of indexes, in the generations that there are.
use Rattle.std.specs.Prelude.{◌≡◌, ℕ, ◌≤◌, List}
use Rattle.ext_host.specs.declared.host.Host.{Host}
use Rattle.ext_host.specs.Home.{last_generation}
use Rattle.ext_index_lines.specs.declared.text_number.TextNumber.{TextNumber}
use Rattle.ext_index.specs.Faulty.{IsFaulty}
use Rattle.ext_index.specs.ValidIndex.{GivesIndex, IsIndexOf}

-- an index is that of one host, as the text of one number
abbrev pub OneHost : Type 0
OneHost = (g : ℕ) (bytes : List ℕ) (a b : Host × ℕ) → g ≤ last_generation → GivesIndex g bytes a → GivesIndex g bytes b → a ≡ b

-- a host has one index of each number
abbrev pub OneText : Type 0
OneText = (number : TextNumber) (g : ℕ) (host : Host) (bytes other : List ℕ) → IsIndexOf number g host bytes → IsIndexOf number g host other → bytes ≡ other

-- no index is faulty
abbrev pub NoFault : Type 0
NoFault = (g : ℕ) (bytes : List ℕ) (line : ℕ) (a : Host × ℕ) → g ≤ last_generation → IsFaulty g bytes line → ¬ GivesIndex g bytes a

-- and what is faulty is faulty at one line
abbrev pub OneFault : Type 0
OneFault = (g : ℕ) (bytes : List ℕ) (line other : ℕ) → g ≤ last_generation → IsFaulty g bytes line → IsFaulty g bytes other → line ≡ other
