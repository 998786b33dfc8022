-- Where nothing fails, a run is answered.
use Rattle.std.proofs.Common.{◌≡◌, ℕ, ◌+◌, Bool, true, false, List, [], ◌∷◌, ◌++◌, ◌⊎◌, inl, inr, Option, Some, None, Result, Err, refl, sym, ap, ◌∙◌, subst, rules, append-nil}
use Rattle.std.proofs.lemmas.List.{length-append}
use Rattle.std.specs.Io.KnownBytes.{Consumes, IsAtEnd}
use Rattle.ext_text.specs.Causes.{Rose}
use Rattle.ext_io.specs.SourceState.{SourceState}
use Rattle.ext_io.specs.SinkState.{SinkState}
use Rattle.ext_io.specs.Whole.{Stopped}
use Rattle.ext_io.specs.declared.whole.ReadErr.{ReadErr}
use Rattle.ext_io.specs.declared.whole.ReadErr.TheVariants as reads
use Rattle.ext_depot.specs.Depot.{Files}
use Rattle.ext_disk.specs.Disk.{BothTold, Told}
use Rattle.ext_gen.specs.Opened.{Generation}
use Rattle.ext_gen.specs.Sound.{IsSound}
use Rattle.ext_gen.specs.Store.{State}
use Rattle.ext_gen.specs.declared.bad_store.BadStore as reasons
use Rattle.ext_cmd.specs.Words.{IsCommand}
use Rattle.ext_cmd.specs.declared.command.Command.{Command}
use Rattle.ext_cmd.specs.declared.refusal.Refusal.{Refusal}
use Rattle.ext_cmd.proofs.ForCallers.{no_fault, one_command}
use Rattle.ext_top.specs.Alone.{reads_source}
use Rattle.ext_top.specs.Batch.{most_source}
use Rattle.ext_top.specs.Chain.{ClosedCause, LineRunsOn, LinesRun, RunsOn, status_of, status_of_last, status_of_stop}
use Rattle.ext_top.specs.Completing.{Completes, IsAnswered, LinesMeetTooMany, MeetsTooMany, NoneRose, OpensToTooMany, TellsFit, TellsSound, TellsWithin}
use Rattle.ext_top.specs.Devices.{DeviceStates, StoreSide, store_side_of, streams_of}
use Rattle.ext_top.specs.Exits.{EndsLines, Line, Standing, StopsWith, does, unread, wrong}
use Rattle.ext_top.specs.Machine.{refusal_of, state_after}
use Rattle.ext_top.specs.Running.{EndsAlone, Kind, Runs, RunsBatch, RunsClosed, RunsCommand, RunsKind, RunsLines, RunsOpened, RunsSound, TakesSome, alone, run_kind, one_line, source_lines, status_of_read}
use Rattle.ext_top.specs.declared.status.Status.{Status}
use Rattle.ext_top.specs.declared.status.Status.TheVariants.{Done, Refused, Usage, ReadFault, WriteFault, DiskFault, DepotFault, OutOfMemory, BadStore, Unfinished, TooLong}
use Rattle.ext_top.specs.declared.stop.Stop.{Stop}
use Rattle.ext_top.specs.declared.stop.Stop.TheVariants as stops

-- a source can't give more than it has
not_too_long : (reads : Bool) (old new : SourceState) → reads ≡ true → TellsWithin reads old → ¬ TakesSome reads old new (λ n. n ≡ most_source + 1)
not_too_long false old new reads tells took = cc
not_too_long true old new reads (bytes, told, within) took = search (rules, length-append)

alone_answered : (command : Command) (old new : DeviceStates) (status : Status) → EndsAlone command (streams_of old) (streams_of new) status → TellsWithin (reads_source command) old.source → NoneRose old new → IsAnswered status
alone_answered command old new Done ends tells none = tt
alone_answered command old new (Refused refusal) ends tells none = tt
alone_answered command old new (Usage place) ends tells none = absurd ends
alone_answered command old new ReadFault ends tells none = absurd (none.source ends.2)
alone_answered command old new WriteFault ends tells none = absurd (none.sink ends.1)
alone_answered command old new DiskFault ends tells none = absurd ends
alone_answered command old new DepotFault ends tells none = absurd ends
alone_answered command old new OutOfMemory ends tells none = tt
alone_answered command old new (BadStore why) ends tells none = absurd ends
alone_answered command old new Unfinished ends tells none = absurd ends
alone_answered command old new TooLong ends tells none = absurd (not_too_long (reads_source command) old.source new.source ends.0 tells ends.1.source)

-- the status of a bad store is that of no line that the table of exits has
no_bad_stop : (stop : Stop) (why : reasons.BadStore) (s : State) (files : Option Files) (line : Line) (standing : Standing) (part : List ℕ) → BadStore why ≡ status_of_stop stop → ¬ StopsWith stop s files line standing part
no_bad_stop stops.WriteFault why s files line standing part is stops = cc
no_bad_stop stops.DiskFault why s files line standing part is stops = cc
no_bad_stop stops.DepotFault why s files line standing part is stops = cc
no_bad_stop stops.OutOfMemory why s files line standing part is stops = cc
no_bad_stop (stops.BadStore other) why s files line standing part is stops = stops
no_bad_stop stops.Unfinished why s files line standing part is stops = cc

no_bad_last : (batch : Bool) (last : Option Refusal) (why : reasons.BadStore) → ¬ (BadStore why ≡ status_of_last batch last)
no_bad_last true last why is = cc
no_bad_last false None why is = cc
no_bad_last false (Some refusal) why is = cc

no_bad_end : (batch : Bool) (last : Option Refusal) (lines : List Line) (result : Result (Option Refusal) Stop) (why : reasons.BadStore) (s : State) (files : Option Files) (standing : Standing) (bytes : List ℕ) → BadStore why ≡ status_of batch result
    → ¬ EndsLines last s files lines result standing bytes
no_bad_end batch last [] result why s files standing bytes is ends = no_bad_last batch last why (is ∙ ap (status_of batch) ends.0)
no_bad_end batch last (line ∷ lines) result why s files standing bytes is (inl (stop, same, end, stops)) = no_bad_stop stop why s files line standing bytes (is ∙ ap (status_of batch) same) stops
no_bad_end batch last (line ∷ lines) result why s files standing bytes is (inr (outcome, more, comes, parts, ends)) =
    no_bad_end batch (refusal_of outcome) lines result why (state_after s outcome) files standing more is ends

not_closed : (why : reasons.BadStore) → ¬ ((BadStore why ≡ DiskFault) ⊎ (BadStore why ≡ OutOfMemory))
not_closed why (inl is) = cc
not_closed why (inr is) = cc

no_bad_run : (batch : Bool) (lines : List Line) (files : Option Files) (k l : SinkState) (why : reasons.BadStore) (d e : Told) → ¬ (RunsOpened batch lines files k l (BadStore why) d e ⊎ RunsClosed k l (BadStore why) d e)
no_bad_run batch lines files k l why d e (inl runs) = no_bad_end batch None lines runs.result why runs.state files runs.standing runs.bytes runs.status_is runs.ends
no_bad_run batch lines files k l why d e (inr runs) = not_closed why runs.closed

not_bad : (batch : Bool) (lines : List Line) (files : Option Files) (k l : SinkState) (why : reasons.BadStore) (d : Told) (y : Option Told) → IsSound d.places → ¬ BothTold (RunsSound batch lines files k l (BadStore why)) (Some d) y
not_bad batch lines files k l why d None sound runs = runs
not_bad batch lines files k l why d (Some e) sound runs = no_bad_run batch lines files k l why d e (runs sound).1

-- a run ends unfinished at a line that met too many left-overs
command_meets : (stop : Stop) (line : Line) (opened : Option Generation) (old new : StoreSide) → Unfinished ≡ status_of_stop stop → LineRunsOn line opened old (Err stop) new → MeetsTooMany line opened old
command_meets stops.WriteFault line opened old new is runs = cc
command_meets stops.DiskFault line opened old new is runs = cc
command_meets stops.DepotFault line opened old new is runs = cc
command_meets stops.OutOfMemory line opened old new is runs = cc
command_meets (stops.BadStore why) line opened old new is runs = cc
command_meets stops.Unfinished (does command) opened old new is runs = (runs.cause, runs.unfinished)
command_meets stops.Unfinished (wrong place) opened old new is runs = runs.writes
command_meets stops.Unfinished unread opened old new is runs = let never = runs.0 in cc

not_unfinished : (batch : Bool) (last : Option Refusal) → ¬ (Unfinished ≡ status_of_last batch last)
not_unfinished true last is = cc
not_unfinished false None is = cc
not_unfinished false (Some refusal) is = cc

lines_meet : (batch : Bool) (last : Option Refusal) (lines : List Line) (opened : Option Generation) (old : StoreSide) (result : Result (Option Refusal) Stop) (new : StoreSide) → Unfinished ≡ status_of batch result
    → LinesRun last lines opened old result new → LinesMeetTooMany lines opened old
lines_meet batch last [] opened old result new is runs = not_unfinished batch last (is ∙ ap (status_of batch) runs.0)
lines_meet batch last (line ∷ lines) opened old result new is (inl (stop, same, end, runs)) = inl (command_meets stop line opened old new (is ∙ ap (status_of batch) same) runs)
lines_meet batch last (line ∷ lines) opened old result new is (inr (written, mid, runs, more)) = inr (written, mid, runs, lines_meet batch written.refusal lines written.opened mid result new is more)

unopened : (side new : StoreSide) → ¬ ClosedCause side.disk new.disk Unfinished
unopened side new (inl (is, rose)) = cc
unopened side new (inr (inl is)) = cc
unopened side new (inr (inr (line, is, broken))) = cc

store_meets : (batch : Bool) (lines : List Line) (old new : StoreSide) → RunsOn batch lines old new Unfinished → OpensToTooMany lines old
store_meets batch lines old new (inl through) = (through.opened, through.start, through.opens, lines_meet batch None lines through.opened through.start through.result new through.status_is through.runs)
store_meets batch lines old new (inr closed) = absurd (unopened old new closed.cause)

lines_answered : (batch : Bool) (lines : List Line) (old new : StoreSide) (status : Status) → TellsSound old → ¬ OpensToTooMany lines old → ¬ Rose old.sink.faults new.sink.faults → ¬ Rose old.disk.faults new.disk.faults
    → ¬ Rose old.depot.faults new.depot.faults → RunsLines batch lines old new status → IsAnswered status
lines_answered batch lines old new Done sound few sink disk depot runs = tt
lines_answered batch lines old new (Refused refusal) sound few sink disk depot runs = tt
lines_answered batch lines old new (Usage place) sound few sink disk depot runs = absurd runs.blames
lines_answered batch lines old new ReadFault sound few sink disk depot runs = absurd runs.blames
lines_answered batch lines old new WriteFault sound few sink disk depot runs = absurd (sink runs.blames)
lines_answered batch lines old new DiskFault sound few sink disk depot runs = absurd (disk runs.blames)
lines_answered batch lines old new DepotFault sound few sink disk depot runs = absurd (depot runs.blames)
lines_answered batch lines old new OutOfMemory sound few sink disk depot runs = tt
lines_answered batch lines old new (BadStore why) (d, told, sound) few sink disk depot runs =
    absurd (not_bad batch lines old.depot.contents old.sink new.sink why d new.disk.told sound (subst (λ x. BothTold (RunsSound batch lines old.depot.contents old.sink new.sink (BadStore why)) x new.disk.told) told runs.sound))
lines_answered batch lines old new Unfinished sound few sink disk depot runs = absurd (few (store_meets batch lines old new runs.on_any))
lines_answered batch lines old new TooLong sound few sink disk depot runs = absurd runs.blames

-- the bytes that a source told are those that were read to its end
read_whole : (left after : Option (List ℕ)) (bytes read : List ℕ) → left ≡ Some bytes → Consumes left after read → IsAtEnd after → left ≡ Some read
read_whole None after bytes read told taken end = cc
read_whole (Some xs) None bytes read told taken end = absurd taken
read_whole (Some xs) (Some ys) bytes read told taken end = ap (λ (zs : List ℕ). Some zs) (taken ∙ ap (λ (zs : List ℕ). read ++ zs) end ∙ append-nil read)

unread_answered : (error : ReadErr) (old new : SourceState) → TellsWithin true old → ¬ Rose old.faults new.faults → Stopped old new most_source error → IsAnswered (status_of_read error)
unread_answered reads.OutOfMemory old new tells none stopped = tt
unread_answered reads.Failed old new tells none stopped = absurd (none stopped.1)
unread_answered reads.TooLong old new tells none stopped = absurd (not_too_long true old new refl tells stopped)

batch_answered : (command : Command) (old new : DeviceStates) (status : Status) → RunsBatch old new status → TellsFit source_lines command old → NoneRose old new → IsAnswered status
batch_answered command old new status (inl read) (within, sound, few) none =
    let begun = read.runs in
    let told = read_whole old.source.left new.source.left within.0 read.bytes within.1 read.taken.taken read.taken.end in
    lines_answered true begun.lines (store_side_of old) (store_side_of new) status sound (few begun.lines (read.bytes, begun.others, told, begun.first)) none.sink none.disk none.depot begun.runs
batch_answered command old new status (inr short) (within, sound, few) none =
    subst IsAnswered (sym short.status_is) (unread_answered short.error old.source new.source within none.source short.stopped)

kind_answered : (kind : Kind) (command : Command) (old new : DeviceStates) (status : Status) → RunsKind kind command old new status → TellsFit kind command old → NoneRose old new → IsAnswered status
kind_answered alone command old new status runs fit none = alone_answered command old new status runs.ends fit none
kind_answered source_lines command old new status runs fit none = batch_answered command old new status runs fit none
kind_answered one_line command old new status runs (sound, few) none =
    lines_answered false (does command ∷ []) (store_side_of old) (store_side_of new) status sound few none.sink none.disk none.depot runs.runs

words_answered : (words : List (List ℕ)) (old new : DeviceStates) (status : Status) → RunsCommand words old new status → Completes words old new status
words_answered words old new status ran command formed same fit none =
    let is : ran.command ≡ command = one_command ran.command command ran.well_formed formed (sym ran.same ∙ same) in
    kind_answered (run_kind command) command old new status (subst (λ c. RunsKind (run_kind c) c old new status) is ran.runs) fit none

pub run_completes : (words : List (List ℕ)) (old new : DeviceStates) (status : Status) → Runs words old new status → Completes words old new status
run_completes words old new (Usage place) ran command formed same fit none =
    absurd (no_fault IsCommand words 1 place (record { command = command; well_formed = formed; same = same }) ran.0)
run_completes words old new OutOfMemory ran command formed same fit none = tt
run_completes words old new Done ran command formed same fit none = words_answered words old new Done ran command formed same fit none
run_completes words old new (Refused refusal) ran command formed same fit none = words_answered words old new (Refused refusal) ran command formed same fit none
run_completes words old new ReadFault ran command formed same fit none = words_answered words old new ReadFault ran command formed same fit none
run_completes words old new WriteFault ran command formed same fit none = words_answered words old new WriteFault ran command formed same fit none
run_completes words old new DiskFault ran command formed same fit none = words_answered words old new DiskFault ran command formed same fit none
run_completes words old new DepotFault ran command formed same fit none = words_answered words old new DepotFault ran command formed same fit none
run_completes words old new (BadStore why) ran command formed same fit none = words_answered words old new (BadStore why) ran command formed same fit none
run_completes words old new Unfinished ran command formed same fit none = words_answered words old new Unfinished ran command formed same fit none
run_completes words old new TooLong ran command formed same fit none = words_answered words old new TooLong ran command formed same fit none
