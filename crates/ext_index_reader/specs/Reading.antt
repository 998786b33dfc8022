-- What reading the lines of an index gives.
use Rattle.std.specs.Prelude.{◌≡◌, ◌≢◌, ℕ, ◌+◌, Bool, true, false, List, [], ◌++◌, length, Option, Some, None, Result, Ok, Err}
use Rattle.std.specs.List.{AllByRecursion}
use Rattle.ext_lines.specs.Lines.{lines_text}
use Rattle.ext_lines.specs.Split.{IsSplit, Lacks}
use Rattle.ext_index_reader.specs.State.{at, host_of, start}
use Rattle.ext_index_reader.specs.Step.{StepsThrough, Steps}
use Rattle.ext_index_reader.specs.declared.err.IndexErr.{IndexErr}
use Rattle.ext_index_reader.specs.declared.err.IndexErr.TheVariants.{OutOfMemory, Broken}
use Rattle.ext_index_reader.specs.declared.said.Said.{Said}
use Rattle.ext_index_reader.specs.declared.state.Reading.{Reading}
use Rattle.ext_index_reader.specs.declared.state.SoFar.{SoFar}
use Rattle.ext_index_reader.specs.declared.state.Stage.{Stage}
use Rattle.ext_index_reader.specs.declared.state.Stage.TheVariants as stages

-- what is read after a line, or that the line may not stand there
abbrev pub Takes : ℕ → Reading → List ℕ → Option Reading → Type 0
Takes g r line None = (t : Reading) → ¬ Steps g r line t
Takes g r line (Some t) = Steps g r line t

-- whether a line may stand where so much was read; if so, what was read goes on by it, else it is anything
abbrev pub Reads : ℕ → Reading → Reading → List ℕ → Bool → Type 0
Reads g r t line false = Takes g r line None
Reads g r t line true = Takes g r line (Some t)

-- which line stands next after a line, and what has been read then, or that the line may not stand there
abbrev pub LeadsTo : ℕ → Reading → SoFar → List ℕ → Option Stage → Type 0
LeadsTo g r s line None = Takes g r line None
LeadsTo g r s line (Some stage) = Takes g r line (Some (at s stage))

-- the bytes are lines that may stand one after another from the start on, and a rest; the next line has this number
pub record IsRead (g : ℕ) (bytes rest : List ℕ) (line : ℕ) (reading : Reading) : Type 0 where
  pub lines : List (List ℕ)
  pub text : bytes ≡ lines_text lines ++ rest
  pub lacks : AllByRecursion (Lacks 10) lines
  pub runs : StepsThrough g start lines reading
  pub counted : line ≡ length lines + 1

-- The first line that may not stand where it stands, given the lines before it; lines are counted from 1. Where the text stops,
-- or stops in the middle of a line, it is the line that should stand there; where it goes on after its last line, it is the
-- next one.
pub record StopsAtLine (g : ℕ) (bytes : List ℕ) (line : ℕ) : Type 0 where
  pub rest : List ℕ
  pub reading : Reading
  pub read : IsRead g bytes rest line reading
  pub stop : (next more : List ℕ) → IsSplit 10 rest next more → (t : Reading) → ¬ Steps g reading next t
  pub unended : reading.stage ≡ stages.Done → rest ≢ []

-- the lines run from the start to the end, and this is what they say
pub record RunsThrough (g : ℕ) (bytes : List ℕ) (s : SoFar) : Type 0 where
  pub lines : List (List ℕ)
  pub text : bytes ≡ lines_text lines
  pub runs : StepsThrough g start lines (at s stages.Done)

-- the host and the number of the text that the lines say
pub record IsSaid (g : ℕ) (bytes : List ℕ) (said : Said) : Type 0 where
  pub so_far : SoFar
  pub through : RunsThrough g bytes so_far
  pub host : said.host ≡ host_of so_far
  pub number : said.text ≡ so_far.text

-- what was read where no more lines follow: all, at the end, or that the next line is missing
abbrev pub Finishes : {A : Type 0} → Stage → List ℕ → ℕ → Result A IndexErr → Type 0
Finishes stage rest line (Ok done) = (stage ≡ stages.Done) × (rest ≡ [])
Finishes stage rest line (Err OutOfMemory) = ⊥
Finishes stage rest line (Err (Broken n)) = (n ≡ line) × (stage ≡ stages.Done → rest ≢ [])

-- why lines are not all read
abbrev pub NotAllBy : ℕ → List ℕ → IndexErr → Type 0
NotAllBy g bytes OutOfMemory = Unit {0}
NotAllBy g bytes (Broken line) = StopsAtLine g bytes line

-- what was read after all lines, or why they are not all read
abbrev pub ReadsAll : {A : Type 0} → ℕ → List ℕ → SoFar → Result A IndexErr → Type 0
ReadsAll g bytes s (Ok done) = RunsThrough g bytes s
ReadsAll g bytes s (Err e) = NotAllBy g bytes e

-- what reading gives
abbrev pub ReadsLines : ℕ → List ℕ → Result Said IndexErr → Type 0
ReadsLines g bytes (Ok said) = IsSaid g bytes said
ReadsLines g bytes (Err OutOfMemory) = Unit {0}
ReadsLines g bytes (Err (Broken line)) = StopsAtLine g bytes line
