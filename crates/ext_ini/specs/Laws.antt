-- What makes reading a unit file plain: it is reading its whole lines, they stand in the order of their numbers, and the first one
-- that is refused is the fault.
use Rattle.std.specs.Prelude.{◌≡◌, ℕ, ◌<◌, ◌≤◌, List, [], ◌∷◌, ◌++◌, length, Option, Some, Ok, Err}
use Rattle.std.specs.Option.{unwrap_or}
use Rattle.ext_ini.specs.declared.err.IniErr.{IniErr}
use Rattle.ext_ini.specs.declared.err.IniErr.TheVariants.{OutOfMemory, BadIni}
use Rattle.ext_ini.specs.declared.err.IniFault.TheVariants.{NotText, NoSection, NoEquals, BadSection}
use Rattle.ext_ini.specs.declared.taking.SoFar.{SoFar}
use Rattle.ext_ini.specs.declared.whole.Whole.{Whole}
use Rattle.ext_ini.specs.Line.{file_lines}
use Rattle.ext_ini.specs.Taking.{nothing, taken}
use Rattle.ext_ini.specs.Whole.{file_wholes}
use Rattle.ext_ini.specs.Reading.{ini_of, read_lines, read_wholes, start}

-- reading line by line is reading whole lines
abbrev pub LinesAreWholes : Type 0
LinesAreWholes = (bytes : List ℕ) → read_lines start 1 (file_lines bytes) ≡ ini_of bytes

-- the number of the last line that a whole line names: of its first line that is no text, or else of its first line
abbrev pub last_named : Whole → ℕ
last_named w = unwrap_or w.fault w.number

-- the numbers that whole lines name ascend, after one number and up to another
abbrev pub Ascend : ℕ → ℕ → List Whole → Type 0
Ascend after last [] = after ≤ last
Ascend after last (w ∷ ws) = (after < w.number) × (w.number ≤ last_named w) × Ascend (last_named w) last ws

-- the whole lines of a file name its lines, and ascend
abbrev pub WholesAscend : Type 0
WholesAscend = (bytes : List ℕ) → Ascend 0 (length (file_lines bytes)) (file_wholes bytes)

-- some whole lines are sound after what was read, and the next is refused
pub record IsFirstRefused (from : SoFar) (ws : List Whole) (e : IniErr) : Type 0 where
  pub before : List Whole
  pub whole : Whole
  pub after : List Whole
  pub so_far : SoFar
  pub parted : ws ≡ before ++ whole ∷ after
  pub sound : read_wholes from before ≡ Ok so_far
  pub refused : taken so_far whole.number whole.text whole.fault ≡ Err e

-- a file is refused for its first whole line that is, and only then
abbrev pub FirstRefused : Type 0
FirstRefused = (bytes : List ℕ) (e : IniErr) → (ini_of bytes ≡ Err e → IsFirstRefused nothing (file_wholes bytes) e) × (IsFirstRefused nothing (file_wholes bytes) e → ini_of bytes ≡ Err e)

-- the line that a refusal names: the first of the whole line that is no text, and for any other fault the first
abbrev pub IsNamed : ℕ → Option ℕ → IniErr → Type 0
IsNamed number fault OutOfMemory = ⊥
IsNamed number fault (BadIni line NotText) = fault ≡ Some line
IsNamed number fault (BadIni line NoSection) = line ≡ number
IsNamed number fault (BadIni line NoEquals) = line ≡ number
IsNamed number fault (BadIni line BadSection) = line ≡ number

-- a refused whole line is told by one of its own lines
abbrev pub RefusalsName : Type 0
RefusalsName = (so_far : SoFar) (number : ℕ) (text : List ℕ) (fault : Option ℕ) (e : IniErr) → taken so_far number text fault ≡ Err e → IsNamed number fault e
