-- How a run ends: a command that looks at no store writes what it says; and the words are a command, which ran so.
use Rattle.std.proofs.Common.{◌≡◌, ◌≤◌, ◌+◌, ℕ, Bool, true, false, List, [], inl, inr, Option, Some, None, refl, sym, subst, arith}
use Rattle.std.specs.Prelude.{reverse}
use Rattle.std.specs.Io.KnownBytes.{Appends}
use Rattle.ext_io.specs.SourceState.{SourceState}
use Rattle.ext_io.specs.SinkState.{SinkState}
use Rattle.ext_tree.specs.Tree.{Entries}
use Rattle.ext_tree.specs.declared.stamp.Stamp.{Stamp}
use Rattle.ext_gen.specs.Store.{none}
use Rattle.ext_cmd.specs.Refusals.{refusal_line}
use Rattle.ext_cmd.specs.Replies.{answer_text}
use Rattle.ext_cmd.specs.Words.{IsWellFormed, command_words}
use Rattle.ext_cmd.specs.declared.answer.Answer.{Answer}
use Rattle.ext_cmd.specs.declared.command.Command.{Command}
use Rattle.ext_cmd.specs.declared.refusal.Refusal.{Refusal}
use Rattle.ext_intents.specs.Layer.{LayersWant, LayerWants}
use Rattle.ext_io.specs.Whole.{Stopped}
use Rattle.ext_io.specs.declared.whole.ReadErr.{ReadErr}
use Rattle.ext_io.specs.declared.whole.ReadErr.TheVariants as reads
use Rattle.ext_cmd.specs.declared.command.Command.TheVariants.{Init, ImportFs, Remove, Sysext, Confext, Tree, Cat, Compare, Check, Layer, Migrate, Batch, Sample, Sysupdate, Components}
use Rattle.ext_cmd.specs.declared.command.Command.TheVariants.{Mark, History, HistoryChanges, Rollback, Forget, Portable}
use Rattle.ext_intents.specs.declared.intent.Intent.{Intent}
use Rattle.ext_intents.specs.declared.intent.Intent.TheVariants.{Answers, Refuses}
use Rattle.ext_top.specs.Alone.{AloneWants, IsAlone, reads_source, status_of_refusal}
use Rattle.ext_top.specs.Machine.{Outcome, gives, refuses, refusal_of, reply_of}
use Rattle.ext_top.specs.Batch.{most_source}
use Rattle.ext_top.specs.Devices.{DeviceStates, streams}
use Rattle.ext_top.specs.Running.{CameTo, EndsAlone, Kind, Runs, RunsKind, TakesAll, TakesSome, WritesIntent, WritesLast, WritesOutcome, alone, run_kind, one_line, source_lines, status_of_read}
use Rattle.ext_top.specs.Sampling.{WritesSample}
use Rattle.ext_top.specs.declared.status.Status.{Status}
use Rattle.ext_top.specs.declared.status.Status.TheVariants.{Done, Refused, Usage, ReadFault, WriteFault, DiskFault, DepotFault, OutOfMemory, BadStore, Unfinished, TooLong}

pub answer_written : (answer : Answer) (text : List ℕ) (k l : SinkState) (status : Status) → text ≡ answer_text answer → WritesLast Done text k l status → WritesIntent (Answers answer) k l status
answer_written answer text k l status is writes = (gives none (answer_text answer), refl, inl (subst (λ t. WritesLast Done t k l status) is writes))

pub answer_starved : (answer : Answer) (k : SinkState) → WritesIntent (Answers answer) k k OutOfMemory
answer_starved answer k = (gives none (answer_text answer), refl, inr (refl, refl))

pub refusal_written : (refusal : Refusal) (text : List ℕ) (k l : SinkState) (status : Status) → text ≡ refusal_line refusal → WritesLast (Refused refusal) text k l status → WritesIntent (Refuses refusal) k l status
refusal_written refusal text k l status is writes = (refuses refusal, refl, inl (subst (λ t. WritesLast (Refused refusal) t k l status) is writes))

pub refusal_starved : (refusal : Refusal) (k : SinkState) → WritesIntent (Refuses refusal) k k OutOfMemory
refusal_starved refusal k = (refuses refusal, refl, inr (refl, refl))

-- what `layer` wants is an answer or a refusal
layers_are_alone : (layers : List (Entries Stamp)) (intent : Intent) → LayersWant layers intent → IsAlone intent
layers_are_alone layers intent (layered, of, inl (few, is)) = subst IsAlone (sym is) tt
layers_are_alone layers intent (layered, of, inr (many, is)) = subst IsAlone (sym is) tt

pub layer_is_alone : (bytes : List ℕ) (intent : Intent) → LayerWants bytes intent → IsAlone intent
layer_is_alone bytes intent (inl (trees, is, wants)) = layers_are_alone (reverse trees) intent wants
layer_is_alone bytes intent (inr (line, fault, is)) = subst IsAlone (sym is) tt

whole_ends : (command : Command) (s s' : SourceState) (k k' : SinkState) (outcome : Outcome) (refusal : Option Refusal) → refusal_of outcome ≡ refusal → CameTo command s s' outcome → Appends k.written k'.written (reply_of outcome)
    → EndsAlone command (streams s k) (streams s' k') (status_of_refusal refusal)
whole_ends command s s' k k' outcome None is came written = record { outcome = outcome; came = came; refused = is; written = written }
whole_ends command s s' k k' outcome (Some refusal) is came written = record { outcome = outcome; came = came; refused = is; written = written }

last_ends : (command : Command) (s s' : SourceState) (k k' : SinkState) (outcome : Outcome) (status : Status) → CameTo command s s' outcome → WritesLast (status_of_refusal (refusal_of outcome)) (reply_of outcome) k k' status
    → EndsAlone command (streams s k) (streams s' k') status
last_ends command s s' k k' outcome status came (inl whole) =
    subst (EndsAlone command (streams s k) (streams s' k')) (sym whole.0) (whole_ends command s s' k k' outcome (refusal_of outcome) refl came whole.1)
last_ends command s s' k k' outcome status came (inr part) =
    subst (EndsAlone command (streams s k) (streams s' k')) (sym part.0) (record { outcome = outcome; came = came; written = part.1 }, part.2)

-- a source that was read to its end was not read for more than its limit and one byte
pub some_of_all : (reads : Bool) (old new : SourceState) (bytes : List ℕ) → TakesAll reads old new bytes → TakesSome reads old new (λ n. n ≤ most_source + 1)
some_of_all true old new bytes takes = (bytes, takes.taken, omega (arith, takes.within))
some_of_all false old new bytes takes = takes.0

outcome_ends : (command : Command) (s s' : SourceState) (k k' : SinkState) (outcome : Outcome) (status : Status) → CameTo command s s' outcome → WritesOutcome outcome k k' status → EndsAlone command (streams s k) (streams s' k') status
outcome_ends command s s' k k' outcome status came (inl writes) = last_ends command s s' k k' outcome status came writes
outcome_ends command s s' k k' outcome status came (inr starved) =
    subst (EndsAlone command (streams s k) (streams s' k')) (sym starved.0) (record { source = some_of_all (reads_source command) s s' came.bytes came.takes; sink = starved.1 })

-- what the command wants for the bytes that it took, written, is its end
pub intent_ends : (command : Command) (bytes : List ℕ) (s s' : SourceState) (k k' : SinkState) (intent : Intent) (status : Status) → TakesAll (reads_source command) s s' bytes → AloneWants command bytes intent → WritesIntent intent k k' status
    → EndsAlone command (streams s k) (streams s' k') status
intent_ends command bytes s s' k k' intent status takes wants (outcome, says, writes) =
    outcome_ends command s s' k k' outcome status (record { bytes = bytes; takes = takes; comes = record { intent = intent; wants = wants; says = says } }) writes

-- what a sample writes is its end
pub sample_ends : (images : ℕ) (s : SourceState) (k k' : SinkState) (status : Status) → WritesSample images k k' status → EndsAlone (Sample images) (streams s k) (streams s k') status
sample_ends images s k k' status (inl (intent, wants, writes)) = intent_ends (Sample images) [] s s k k' intent status (refl, refl) wants writes
sample_ends images s k k' status (inr (starved, same)) = subst (EndsAlone (Sample images) (streams s k) (streams s k')) (sym starved) (record { source = refl; sink = same })

-- a source that was not read whole
pub layer_unread : (error : ReadErr) (s s' : SourceState) (k : SinkState) → Stopped s s' most_source error → EndsAlone Layer (streams s k) (streams s' k) (status_of_read error)
layer_unread reads.OutOfMemory s s' k stopped = record { source = stopped; sink = refl }
layer_unread reads.Failed s s' k stopped = (refl, record { source = stopped.0; sink = refl }, stopped.1)
layer_unread reads.TooLong s s' k stopped = (refl, record { source = stopped; sink = refl })

read_no_usage : (error : ReadErr) (place : ℕ) → ¬ (Usage place ≡ status_of_read error)
read_no_usage reads.OutOfMemory place is = cc
read_no_usage reads.Failed place is = cc
read_no_usage reads.TooLong place is = cc

no_usage : (kind : Kind) (command : Command) (old new : DeviceStates) (place : ℕ) → ¬ RunsKind kind command old new (Usage place)
no_usage alone command old new place runs = runs.ends
no_usage source_lines command old new place (inl read) = read.runs.runs.blames
no_usage source_lines command old new place (inr short) = read_no_usage short.error place short.status_is
no_usage one_line command old new place runs = runs.runs.blames

pub command_runs : (words : List (List ℕ)) (command : Command) (old new : DeviceStates) (status : Status) → IsWellFormed command → words ≡ command_words command → RunsKind (run_kind command) command old new status → Runs words old new status
command_runs words command old new Done formed same runs = record { command = command; well_formed = formed; same = same; runs = runs }
command_runs words command old new (Refused refusal) formed same runs = record { command = command; well_formed = formed; same = same; runs = runs }
command_runs words command old new (Usage place) formed same runs = absurd (no_usage (run_kind command) command old new place runs)
command_runs words command old new ReadFault formed same runs = record { command = command; well_formed = formed; same = same; runs = runs }
command_runs words command old new WriteFault formed same runs = record { command = command; well_formed = formed; same = same; runs = runs }
command_runs words command old new DiskFault formed same runs = record { command = command; well_formed = formed; same = same; runs = runs }
command_runs words command old new DepotFault formed same runs = record { command = command; well_formed = formed; same = same; runs = runs }
command_runs words command old new OutOfMemory formed same runs = inr (record { command = command; well_formed = formed; same = same; runs = runs })
command_runs words command old new (BadStore why) formed same runs = record { command = command; well_formed = formed; same = same; runs = runs }
command_runs words command old new Unfinished formed same runs = record { command = command; well_formed = formed; same = same; runs = runs }
command_runs words command old new TooLong formed same runs = record { command = command; well_formed = formed; same = same; runs = runs }

-- a command that is none of these is one over a store
pub one_line_kind : (command : Command) → ((a b : List ℕ) → command ≡ Compare a b → ⊥) → (command ≡ Layer → ⊥) → (command ≡ Batch → ⊥) → ((images : ℕ) → command ≡ Sample images → ⊥) → run_kind command ≡ one_line
one_line_kind (Init arch scope hierarchies) compare layer batch sample = refl
one_line_kind (ImportFs resource path) compare layer batch sample = refl
one_line_kind (Remove path) compare layer batch sample = refl
one_line_kind (Sysext view) compare layer batch sample = refl
one_line_kind (Confext view) compare layer batch sample = refl
one_line_kind (Tree path) compare layer batch sample = refl
one_line_kind (Cat path) compare layer batch sample = refl
one_line_kind Check compare layer batch sample = refl
one_line_kind Migrate compare layer batch sample = refl
one_line_kind (Sysupdate component verb) compare layer batch sample = refl
one_line_kind Components compare layer batch sample = refl
one_line_kind (Mark keep) compare layer batch sample = refl
one_line_kind History compare layer batch sample = refl
one_line_kind (HistoryChanges mark) compare layer batch sample = refl
one_line_kind (Rollback mark) compare layer batch sample = refl
one_line_kind (Forget mark) compare layer batch sample = refl
one_line_kind (Portable command) compare layer batch sample = refl
one_line_kind (Compare a b) compare layer batch sample = absurd (compare a b refl)
one_line_kind Layer compare layer batch sample = absurd (layer refl)
one_line_kind Batch compare layer batch sample = absurd (batch refl)
one_line_kind (Sample images) compare layer batch sample = absurd (sample images refl)
