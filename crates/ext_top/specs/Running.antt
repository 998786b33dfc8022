-- How a run ends, by its status: what it took from the source, what it wrote, what the store stands for, at the end and after a
-- stop at any moment, and which fault it may blame.
use Rattle.std.specs.Prelude.{◌≡◌, ℕ, ◌+◌, ◌≤◌, ◌⊎◌, Bool, true, false, IsTrue, List, [], ◌∷◌, length, Option, Some, None, Result}
use Rattle.std.specs.Io.KnownBytes.{Appends}
use Rattle.ext_text.specs.Causes.{Rose}
use Rattle.ext_io.specs.SourceState.{SourceState}
use Rattle.ext_io.specs.SinkState.{SinkState}
use Rattle.ext_io.specs.Whole.{ReadsAll, Stopped, Took, AppendsProperPrefix}
use Rattle.ext_io.specs.declared.whole.ReadErr.{ReadErr}
use Rattle.ext_io.specs.declared.whole.ReadErr.TheVariants as reads
use Rattle.ext_disk.specs.Disk.{Told, BothTold, now}
use Rattle.ext_disk.specs.Since.{Follows}
use Rattle.ext_depot.specs.Depot.{Files, IsKept}
use Rattle.ext_gen.specs.Store.{State, Stands}
use Rattle.ext_gen.specs.Sound.{IsDurably, IsMember, IsSound, StandsSince}
use Rattle.ext_cmd.specs.Words.{IsUsage, IsWellFormed, command_words}
use Rattle.ext_cmd.specs.declared.command.Command.{Command}
use Rattle.ext_cmd.specs.declared.command.Command.TheVariants.{Batch, Compare, Layer, Sample}
use Rattle.ext_cmd.specs.declared.refusal.Refusal.{Refusal}
use Rattle.ext_intents.specs.declared.intent.Intent.{Intent}
use Rattle.ext_top.specs.Alone.{ComesAlone, Says, reads_source, status_of_refusal}
use Rattle.ext_top.specs.Batch.{AreFirstLines, most_source}
use Rattle.ext_top.specs.Chain.{RunsOn, status_of}
use Rattle.ext_top.specs.Devices.{DeviceStates, StoreSide, Streams, store_side_of, streams_of}
use Rattle.ext_top.specs.Exits.{Line, does, Standing, StandsAs, EndsLines, IsOnTheWay}
use Rattle.ext_top.specs.Machine.{Outcome, refusal_of, reply_of}
use Rattle.ext_top.specs.Observing.{IsToldOf, refused_with}
use Rattle.ext_top.specs.declared.status.Status.{Status}
use Rattle.ext_top.specs.declared.status.Status.TheVariants.{Done, Refused, Usage, ReadFault, WriteFault, DiskFault, DepotFault, OutOfMemory, BadStore, Unfinished, TooLong}
use Rattle.ext_top.specs.declared.stop.Stop.{Stop}

-- the bytes of the source: where it is read, all of them, to its end and within the limit; else none, and it is left alone
abbrev pub TakesAll : Bool → SourceState → SourceState → List ℕ → Type 0
TakesAll true old new bytes = ReadsAll old new most_source bytes
TakesAll false old new bytes = (new ≡ old) × (bytes ≡ [])

-- some bytes of the source were taken, as many as said, where it is read; else it is left alone
abbrev pub TakesSome : Bool → SourceState → SourceState → (ℕ → Type 0) → Type 0
TakesSome true old new P = Took old new (λ bytes. P (length bytes))
TakesSome false old new P = new ≡ old

-- some bytes were taken, as many as said, and the sink was left alone
pub record TookOnly (command : Command) (old new : Streams) (P : ℕ → Type 0) : Type 0 where
  pub source : TakesSome (reads_source command) old.source new.source P
  pub sink : new.sink ≡ old.sink

-- what the command wants, by the bytes that it took
pub record CameTo (command : Command) (old new : SourceState) (outcome : Outcome) : Type 0 where
  pub bytes : List ℕ
  pub takes : TakesAll (reads_source command) old new bytes
  pub comes : ComesAlone command bytes outcome

-- the whole reply was written
pub record Wrote (command : Command) (old new : Streams) (refusal : Option Refusal) : Type 0 where
  pub outcome : Outcome
  pub came : CameTo command old.source new.source outcome
  pub refused : refusal_of outcome ≡ refusal
  pub written : Appends old.sink.written new.sink.written (reply_of outcome)

-- a proper prefix of the reply was written
pub record WrotePart (command : Command) (old new : Streams) : Type 0 where
  pub outcome : Outcome
  pub came : CameTo command old.source new.source outcome
  pub written : AppendsProperPrefix old.sink new.sink (reply_of outcome)

-- the run of a command without a store, by the status that it ends with
abbrev pub EndsAlone : Command → Streams → Streams → Status → Type 0
EndsAlone command old new Done = Wrote command old new None
EndsAlone command old new (Refused refusal) = Wrote command old new (Some refusal)
EndsAlone command old new (Usage place) = ⊥
EndsAlone command old new ReadFault =
    IsTrue (reads_source command) × TookOnly command old new (λ n. n ≤ most_source) × Rose old.source.faults new.source.faults
EndsAlone command old new WriteFault = WrotePart command old new × Rose old.sink.faults new.sink.faults
EndsAlone command old new DiskFault = ⊥
EndsAlone command old new DepotFault = ⊥
EndsAlone command old new OutOfMemory = TookOnly command old new (λ n. n ≤ most_source + 1)
EndsAlone command old new (BadStore why) = ⊥
EndsAlone command old new Unfinished = ⊥
EndsAlone command old new TooLong = IsTrue (reads_source command) × TookOnly command old new (λ n. n ≡ most_source + 1)

-- a reply was written, and the status is its own; or a proper prefix of it was, and the sink failed
abbrev pub WritesLast : Status → List ℕ → SinkState → SinkState → Status → Type 0
WritesLast status text old new result =
    ((result ≡ status) × Appends old.written new.written text)
    ⊎ ((result ≡ WriteFault) × AppendsProperPrefix old new text × Rose old.faults new.faults)

-- the outcome was written as a reply; or there was no memory for the reply, and the sink was left alone
abbrev pub WritesOutcome : Outcome → SinkState → SinkState → Status → Type 0
WritesOutcome outcome old new result =
    WritesLast (status_of_refusal (refusal_of outcome)) (reply_of outcome) old new result ⊎ ((result ≡ OutOfMemory) × (new ≡ old))

-- what a command without a store writes, and how it ends
abbrev pub WritesIntent : Intent → SinkState → SinkState → Status → Type 0
WritesIntent intent old new result = (outcome : Outcome) × Says intent outcome × WritesOutcome outcome old new result

-- how a command runs: without a store, as the lines of its source, or as one line
pub data Kind : Type 0 where
  alone : Kind
  source_lines : Kind
  one_line : Kind

-- the kind of a command
abbrev pub run_kind : Command → Kind
run_kind Layer = alone
run_kind (Compare a b) = alone
run_kind (Sample images) = alone
run_kind Batch = source_lines
run_kind _ = one_line

-- The lines ran from a state for which the store durably stood, and ended by the table of exits. Each tree that a stop since may
-- have left stands for a state on the way.
pub record LinesFrom (last : Option Refusal) (lines : List Line) (files : Option Files) (k l : SinkState)
    (result : Result (Option Refusal) Stop) (s : State) (d e : Told) : Type 0 where
  pub bytes : List ℕ
  pub written : Appends k.written l.written bytes
  pub standing : Standing
  pub stands : StandsAs standing e.places
  pub ends : EndsLines last s files lines result standing bytes
  pub since : StandsSince (IsOnTheWay s files lines) e d.clock

-- The store was opened: the lines ran from the state for which it stood, and ended by the table of exits. Each tree that a stop
-- since may have left stands for a state on the way, or for one for which it might have stood before.
pub record RunsOpened (batch : Bool) (lines : List Line) (files : Option Files) (k l : SinkState) (status : Status)
    (d e : Told) : Type 0 where
  pub state : State
  pub stood : Stands (now d.places) state
  pub result : Result (Option Refusal) Stop
  pub status_is : status ≡ status_of batch result
  pub bytes : List ℕ
  pub written : Appends k.written l.written bytes
  pub standing : Standing
  pub stands : StandsAs standing e.places
  pub ends : EndsLines None state files lines result standing bytes
  pub since : StandsSince (λ x. IsMember d.places x ⊎ IsOnTheWay state files lines x) e d.clock

-- The store was not opened: a fault of the disk, or no memory
abbrev pub IsClosed : Status → Type 0
IsClosed status = (status ≡ DiskFault) ⊎ (status ≡ OutOfMemory)

-- nothing was written, and nothing changed but, where the store folder was synced, that it durably stands for what it stood for
pub record RunsClosed (k l : SinkState) (status : Status) (d e : Told) : Type 0 where
  pub closed : IsClosed status
  pub nothing : l ≡ k
  pub ends : (e ≡ d) ⊎ ((s : State) × Stands (now d.places) s × IsDurably s e.places)
  pub since : StandsSince (IsMember d.places) e d.clock

-- from a sound store
abbrev pub RunsSound : Bool → List Line → Option Files → SinkState → SinkState → Status → Told → Told → Type 0
RunsSound batch lines files k l status d e =
    IsSound d.places → IsSound e.places × (RunsOpened batch lines files k l status d e ⊎ RunsClosed k l status d e)

-- which device a status blames, whose count rose; a run over a store has no other statuses
abbrev pub Blames : StoreSide → StoreSide → Status → Type 0
Blames old new Done = Unit {0}
Blames old new (Refused refusal) = Unit {0}
Blames old new (Usage place) = ⊥
Blames old new ReadFault = ⊥
Blames old new WriteFault = Rose old.sink.faults new.sink.faults
Blames old new DiskFault = Rose old.disk.faults new.disk.faults
Blames old new DepotFault = Rose old.depot.faults new.depot.faults
Blames old new OutOfMemory = Unit {0}
Blames old new (BadStore why) = Unit {0}
Blames old new Unfinished = Unit {0}
Blames old new TooLong = ⊥

-- Lines over a store. From a sound one they end by the machine, at the end and after a stop at any moment; and whatever the disk
-- has, each line did what it wanted and nothing else.
pub record RunsLines (batch : Bool) (lines : List Line) (old new : StoreSide) (status : Status) : Type 0 where
  pub follows : Follows old.disk new.disk
  pub kept : IsKept old.depot new.depot
  pub count : old.sink.faults ≤ new.sink.faults
  pub blames : Blames old new status
  pub sound : BothTold (RunsSound batch lines old.depot.contents old.sink new.sink status) old.disk.told new.disk.told
  pub on_any : RunsOn batch lines old new status

-- a command that looks at no store: disk and depot are left alone, and the observer is told of its refusal
pub record RunsAlone (command : Command) (old new : DeviceStates) (status : Status) : Type 0 where
  pub disk : new.disk ≡ old.disk
  pub depot : new.depot ≡ old.depot
  pub tells : IsToldOf (refused_with status) old.observer new.observer
  pub ends : EndsAlone command (streams_of old) (streams_of new) status

-- one command over a store is a list of one, and leaves the source alone
pub record RunsSingle (command : Command) (old new : DeviceStates) (status : Status) : Type 0 where
  pub source : new.source ≡ old.source
  pub runs : RunsLines false (does command ∷ []) (store_side_of old) (store_side_of new) status

-- the status of a source that was not read whole
abbrev pub status_of_read : ReadErr → Status
status_of_read reads.OutOfMemory = OutOfMemory
status_of_read reads.Failed = ReadFault
status_of_read reads.TooLong = TooLong

-- the source of a batch was not read whole, and nothing else was touched
pub record StaysUnread (old new : DeviceStates) (status : Status) : Type 0 where
  pub error : ReadErr
  pub status_is : status ≡ status_of_read error
  pub stopped : Stopped old.source new.source most_source error
  pub others : store_side_of new ≡ store_side_of old

-- The run looked at these lines of a text, the first ones, each after the one above it had ended: at all of them, where it is done
pub record RunsBegun (bytes : List ℕ) (old new : StoreSide) (status : Status) : Type 0 where
  pub lines : List Line
  pub others : List (List ℕ)
  pub first : AreFirstLines bytes lines others
  pub whole : status ≡ Done → others ≡ []
  pub runs : RunsLines true lines old new status

-- a batch whose source was read to its end, before anything else was touched
pub record RunsRead (old new : DeviceStates) (status : Status) : Type 0 where
  pub bytes : List ℕ
  pub taken : ReadsAll old.source new.source most_source bytes
  pub runs : RunsBegun bytes (store_side_of old) (store_side_of new) status

-- a batch
abbrev pub RunsBatch : DeviceStates → DeviceStates → Status → Type 0
RunsBatch old new status = RunsRead old new status ⊎ StaysUnread old new status

-- a run by its command: without a store, of the lines of the source, or of one line, which it is
abbrev pub RunsKind : Kind → Command → DeviceStates → DeviceStates → Status → Type 0
RunsKind alone command old new status = RunsAlone command old new status
RunsKind source_lines command old new status = RunsBatch old new status
RunsKind one_line command old new status = RunsSingle command old new status

-- the words are a command, and it ran so
pub record RunsCommand (words : List (List ℕ)) (old new : DeviceStates) (status : Status) : Type 0 where
  pub command : Command
  pub well_formed : IsWellFormed command
  pub same : words ≡ command_words command
  pub runs : RunsKind (run_kind command) command old new status

-- The run of these words: they are no command, and nothing was touched; or there was no memory to read them, and nothing was; or
-- they are a command, and it ran so.
abbrev pub Runs : List (List ℕ) → DeviceStates → DeviceStates → Status → Type 0
Runs words old new (Usage place) = IsUsage words place × (new ≡ old)
Runs words old new OutOfMemory = (new ≡ old) ⊎ RunsCommand words old new OutOfMemory
Runs words old new status = RunsCommand words old new status
