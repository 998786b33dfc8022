-- How a sample is done: its lines are carried out one after another on a disk in memory, and then its answer is written. This
-- project's own.
use Rattle.std.specs.Prelude.{◌≡◌, ℕ, ◌⊎◌, List, [], ◌∷◌, Option, None, Ok}
use Rattle.ext_io.specs.SinkState.{SinkState}
use Rattle.ext_disk.specs.Disk.{Places}
use Rattle.ext_depot.specs.Depot.{Files}
use Rattle.ext_tree.specs.Tree.{Entries}
use Rattle.ext_host.specs.Held.{HeldFile}
use Rattle.ext_gen.specs.Opened.{Generation}
use Rattle.ext_gen.specs.Store.{State, generation_in}
use Rattle.ext_gen.specs.Sound.{IsDurably}
use Rattle.ext_cmd.specs.Line.{ReadsLineCommand}
use Rattle.ext_cmd.specs.declared.answer.Answer.{Answer}
use Rattle.ext_cmd.specs.declared.command.Command.{Command}
use Rattle.ext_cmd.specs.declared.refusal.Refusal.{Refusal}
use Rattle.ext_intents.specs.declared.intent.Intent.{Intent}
use Rattle.ext_top.specs.Exits.{Line, does, durable, EndsLines}
use Rattle.ext_top.specs.Running.{WritesIntent}
use Rattle.ext_top.specs.Sample.{SampleWants, tree_sample}
use Rattle.ext_top.specs.declared.status.Status.{Status}
use Rattle.ext_top.specs.declared.status.Status.TheVariants.{OutOfMemory}

-- from a state on the lines ended by the machine, none of them stopped, and the disk durably stands for the state after them, whose
-- generation is handed on
pub record Carried (lines : List Line) (files : Option Files) (s : State) (after : Option Generation) (e : Places) : Type 0 where
  pub state : State
  pub last : Option Refusal
  pub sent : List ℕ
  pub ends : EndsLines None s files lines (Ok last) (durable state) sent
  pub generation : after ≡ generation_in state
  pub durably : IsDurably state e

-- so from each state of a generation for which the disk durably stood
abbrev pub Carries : List Line → Option Files → Option Generation → Option Generation → Places → Places → Type 0
Carries lines files from after d e = (s : State) → generation_in s ≡ from → IsDurably s d → Carried lines files s after e

-- one line, whose words these are
abbrev pub CarriesLine : List (List ℕ) → Option Files → Option Generation → Option Generation → Places → Places → Type 0
CarriesLine words files from after d e =
    (command : Command) × ReadsLineCommand words (Ok command) × Carries (does command ∷ []) files from after d e

-- the answer is what the tree comes to
pub record IsSampleOf (es : Entries HeldFile) (answer : Answer) : Type 0 where
  pub is : answer ≡ tree_sample es

-- what a run of a sample writes: what it wants, as every command does that looks at no store; or there was no memory for that, and
-- nothing
abbrev pub WritesSample : ℕ → SinkState → SinkState → Status → Type 0
WritesSample images old new status =
    ((intent : Intent) × SampleWants images intent × WritesIntent intent old new status) ⊎ ((status ≡ OutOfMemory) × (new ≡ old))
