-- The commands that look at no store, `compare`, `layer` and `sample`: their outcomes, from the bytes of the source where they
-- read it.
use Rattle.std.specs.Prelude.{◌≡◌, ℕ, Bool, true, false, List, Option, Some, None}
use Rattle.ext_gen.specs.Store.{none}
use Rattle.ext_cmd.specs.Replies.{answer_text}
use Rattle.ext_cmd.specs.declared.command.Command.{Command}
use Rattle.ext_cmd.specs.declared.command.Command.TheVariants.{Batch, Compare, Layer, Sample}
use Rattle.ext_cmd.specs.declared.refusal.Refusal.{Refusal}
use Rattle.ext_intents.specs.Compare.{compare_intent}
use Rattle.ext_intents.specs.Layer.{LayerWants}
use Rattle.ext_intents.specs.declared.intent.Intent.{Intent}
use Rattle.ext_intents.specs.declared.intent.Intent.TheVariants.{Changes, Answers, Checks, Shows, Refuses}
use Rattle.ext_top.specs.Machine.{Outcome, gives, refuses}
use Rattle.ext_top.specs.Sample.{SampleWants}
use Rattle.ext_top.specs.declared.status.Status.{Status}
use Rattle.ext_top.specs.declared.status.Status.TheVariants.{Done, Refused}

-- `layer` and `batch` read their source to the end first; each other command leaves the source alone
abbrev pub reads_source : Command → Bool
reads_source Layer = true
reads_source Batch = true
reads_source _ = false

-- what it wants, for the bytes of its source, which are none where it reads none
abbrev pub AloneWants : Command → List ℕ → Intent → Type 0
AloneWants Layer bytes intent = LayerWants bytes intent
AloneWants (Compare a b) bytes intent = intent ≡ compare_intent a b
AloneWants (Sample images) bytes intent = SampleWants images intent
AloneWants _ bytes intent = ⊥

-- an answer or a refusal, which touch no state
abbrev pub Says : Intent → Outcome → Type 0
Says (Changes host answer) outcome = ⊥
Says (Answers answer) outcome = outcome ≡ gives none (answer_text answer)
Says Checks outcome = ⊥
Says (Shows held) outcome = ⊥
Says (Refuses refusal) outcome = outcome ≡ refuses refusal

-- it is one of these two
abbrev pub IsAlone : Intent → Type 0
IsAlone (Changes host answer) = ⊥
IsAlone (Answers answer) = Unit {0}
IsAlone Checks = ⊥
IsAlone (Shows held) = ⊥
IsAlone (Refuses refusal) = Unit {0}

-- its outcome
pub record ComesAlone (command : Command) (bytes : List ℕ) (outcome : Outcome) : Type 0 where
  pub intent : Intent
  pub wants : AloneWants command bytes intent
  pub says : Says intent outcome

-- the status of a command that was done or refused
abbrev pub status_of_refusal : Option Refusal → Status
status_of_refusal None = Done
status_of_refusal (Some refusal) = Refused refusal
