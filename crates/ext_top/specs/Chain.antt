-- Lines over a store that was opened, whatever its disk has: what each line met, made and wrote, from what it found, and at which
-- the run stopped. Each line starts from the disk, the depot and the generation that the one before it left.
use Rattle.std.specs.Prelude.{◌≡◌, ℕ, ◌≤◌, ◌⊎◌, Bool, true, false, List, [], ◌∷◌, Option, None, IfOk, IfErr, IfSome, Result, Ok, Err}
use Rattle.ext_text.specs.Causes.{Rose}
use Rattle.ext_disk.specs.Disk.{BothTold, DiskState, now}
use Rattle.ext_disk.specs.Since.{Follows}
use Rattle.ext_depot.specs.Depot.{IsKept}
use Rattle.ext_gen.specs.Broken.{IsBroken}
use Rattle.ext_gen.specs.Opened.{Generation}
use Rattle.ext_gen.specs.Opening.{KeepsNow, OpensTold}
use Rattle.ext_gen.specs.declared.errors.StoreErr.{StoreErr}
use Rattle.ext_gen.specs.declared.errors.StoreErr.TheVariants as store_errors
use Rattle.ext_store_files.specs.declared.fault.StoreFault.TheVariants as store_faults
use Rattle.ext_gen.specs.declared.bad_store.BadStore.TheVariants as bad
use Rattle.ext_cmd.specs.Line.{counts_for_nothing}
use Rattle.ext_cmd.specs.declared.command.Command.{Command}
use Rattle.ext_cmd.specs.declared.refusal.Refusal.{Refusal}
use Rattle.ext_top.specs.Alone.{status_of_refusal}
use Rattle.ext_top.specs.Applying.{PointsAs}
use Rattle.ext_top.specs.Batch.{AreFirstLines, IsLineOf}
use Rattle.ext_top.specs.Devices.{StoreSide}
use Rattle.ext_top.specs.Exits.{Line, does, unread, wrong}
use Rattle.ext_top.specs.Observing.{IsToldOf, refused_in}
use Rattle.ext_top.specs.Lines.{LineCause, LineLeavesCurrent, LineTold, WhereLineDamaged, WhereLineUnfinished}
use Rattle.ext_top.specs.Replying.{WritesUsage}
use Rattle.ext_top.specs.Working.{FindsDamage, HasMet, WantsOn, WantsWithin, WorksFor}
use Rattle.ext_top.specs.declared.lines.Written.{Written}
use Rattle.ext_intents.specs.declared.intent.Intent.{Intent}
use Rattle.ext_top.specs.declared.status.Status.{Status}
use Rattle.ext_top.specs.declared.status.Status.TheVariants.{Done, DiskFault, OutOfMemory, BadStore}
use Rattle.ext_top.specs.declared.status.Status.TheVariants as statuses
use Rattle.ext_top.specs.Stop.{stop_of_fault}
use Rattle.ext_top.specs.declared.stop.Stop.{Stop}
use Rattle.ext_top.specs.declared.stop.Stop.TheVariants as stops

-- what the command of a line wants of what it finds
abbrev pub WantsAt : Command → Option Generation → StoreSide → Intent → Type 0
WantsAt command opened old = WantsOn opened old.disk old.depot.contents command

-- A command that is a line ran. From a state for which the store durably stood it ends by the machine. On any disk it makes,
-- removes and appends what it wants and nothing else; where it was done or refused, that and what was written go with what it met,
-- and the disk points to the generation that is handed on. The observer is told of its refusal, and of nothing else.
pub record CommandRuns (command : Command) (opened : Option Generation) (old : StoreSide) (result : Result Written Stop) (new : StoreSide) : Type 0 where
  pub follows : Follows old.disk new.disk
  pub kept : IsKept old.depot new.depot
  pub count : old.sink.faults ≤ new.sink.faults
  pub told : BothTold (LineTold (does command) opened old.depot.contents old.sink new.sink result) old.disk.told new.disk.told
  pub works : BothTold (WorksFor (WantsAt command opened old) opened) old.disk.told new.disk.told
  pub met : IfOk result (λ written. HasMet (WantsAt command opened old) opened old.disk new.disk old.depot old.sink new.sink written.refusal
      written.opened)
  pub points : IfOk result (λ written. PointsAs new.disk written.opened)
  pub current : BothTold (LineLeavesCurrent result) old.disk.told new.disk.told
  pub unfinished : IfErr result (WhereLineUnfinished (WantsWithin (WantsAt command opened old) opened))
  pub damaged : IfErr result (WhereLineDamaged (FindsDamage command opened old.disk old.depot))
  pub cause : IfErr result (LineCause opened old.sink new.sink old.disk new.disk old.depot new.depot)
  pub tells : IsToldOf (refused_in result) old.observer new.observer

-- words outside the grammar touch nothing but the sink
pub record UsageRuns (place : ℕ) (opened : Option Generation) (old : StoreSide) (result : Result Written Stop) (new : StoreSide) : Type 0 where
  pub disk : new.disk ≡ old.disk
  pub depot : new.depot ≡ old.depot
  pub observer : new.observer ≡ old.observer
  pub count : old.sink.faults ≤ new.sink.faults
  pub writes : WritesUsage place old.sink new.sink result
  pub goes_on : IfOk result (λ written. (written.opened ≡ opened) × (written.refusal ≡ None))

-- a line ran; one that found no memory to be read stops the run, and touches nothing
abbrev pub LineRunsOn : Line → Option Generation → StoreSide → Result Written Stop → StoreSide → Type 0
LineRunsOn (does command) opened old result new = CommandRuns command opened old result new
LineRunsOn (wrong place) opened old result new = UsageRuns place opened old result new
LineRunsOn unread opened old result new = (result ≡ Err stops.OutOfMemory) × (new ≡ old)

-- lines ran one after another: each was done or refused, or the run stopped at the last of them
abbrev pub LinesRun : Option Refusal → List Line → Option Generation → StoreSide → Result (Option Refusal) Stop → StoreSide → Type 0
LinesRun last [] opened old result new = (result ≡ Ok last) × (new ≡ old)
LinesRun last (line ∷ lines) opened old result new =
    ((stop : Stop) × (result ≡ Err stop) × (lines ≡ []) × LineRunsOn line opened old (Err stop) new)
    ⊎ ((written : Written) × (mid : StoreSide) × LineRunsOn line opened old (Ok written) mid
    × LinesRun written.refusal lines written.opened mid result new)

-- The store was opened: nothing is made, removed or appended, and the generation is the one that the disk points to. Of a sound
-- store it durably stands for that generation's state then.
pub record OpensStore (opened : Option Generation) (old new : StoreSide) : Type 0 where
  pub follows : Follows old.disk new.disk
  pub keeps : BothTold KeepsNow old.disk.told new.disk.told
  pub sound : BothTold (OpensTold (Ok opened)) old.disk.told new.disk.told
  pub points : PointsAs old.disk opened
  pub sink : new.sink ≡ old.sink
  pub depot : new.depot ≡ old.depot
  pub observer : new.observer ≡ old.observer

-- the status of lines at which the run stopped
abbrev pub status_of_stop : Stop → Status
status_of_stop stops.WriteFault = statuses.WriteFault
status_of_stop stops.DiskFault = DiskFault
status_of_stop stops.DepotFault = statuses.DepotFault
status_of_stop stops.OutOfMemory = OutOfMemory
status_of_stop (stops.BadStore why) = BadStore why
status_of_stop stops.Unfinished = statuses.Unfinished

-- the status where each line is done or refused: a batch is done, and one command is refused where it was
abbrev pub status_of_last : Bool → Option Refusal → Status
status_of_last true last = Done
status_of_last false last = status_of_refusal last

-- the status of a run, by how its lines ended
abbrev pub status_of : Bool → Result (Option Refusal) Stop → Status
status_of batch (Ok last) = status_of_last batch last
status_of batch (Err stop) = status_of_stop stop

-- how a run of one line ended, by what the line came to
abbrev pub result_of_line : Result Written Stop → Result (Option Refusal) Stop
result_of_line (Ok written) = Ok written.refusal
result_of_line (Err stop) = Err stop

-- the store was opened, and the lines ran
pub record RunsOnOpened (batch : Bool) (lines : List Line) (old new : StoreSide) (status : Status) : Type 0 where
  pub opened : Option Generation
  pub start : StoreSide
  pub opens : OpensStore opened old start
  pub result : Result (Option Refusal) Stop
  pub status_is : status ≡ status_of batch result
  pub runs : LinesRun None lines opened start result new

-- why the store was not opened: the disk failed, there was no memory, or there is none
abbrev pub ClosedCause : DiskState → DiskState → Status → Type 0
ClosedCause old new status =
    ((status ≡ DiskFault) × Rose old.faults new.faults)
    ⊎ ((status ≡ OutOfMemory)
    ⊎ ((line : ℕ) × (status ≡ BadStore (bad.Broken line)) × IfSome old.told (λ d. IsBroken (now d.places) line)))

-- an error of opening a store
abbrev pub IsOfOpening : StoreErr → Type 0
IsOfOpening (store_errors.Fault store_faults.OutOfMemory) = Unit {0}
IsOfOpening (store_errors.Fault store_faults.DiskFault) = Unit {0}
IsOfOpening (store_errors.Fault store_faults.DepotFault) = ⊥
IsOfOpening (store_errors.Broken line) = Unit {0}
IsOfOpening (store_errors.Fault (store_faults.Damaged damage)) = ⊥
IsOfOpening (store_errors.Mismatch path listed found) = ⊥
IsOfOpening (store_errors.NotInDepot path) = ⊥
IsOfOpening store_errors.Unfinished = ⊥
IsOfOpening (store_errors.Limit which) = ⊥

-- its status
abbrev pub status_of_closed : StoreErr → Status
status_of_closed (store_errors.Fault fault) = status_of_stop (stop_of_fault fault)
status_of_closed (store_errors.Broken line) = BadStore (bad.Broken line)
status_of_closed (store_errors.Mismatch path listed found) = OutOfMemory
status_of_closed (store_errors.NotInDepot path) = OutOfMemory
status_of_closed store_errors.Unfinished = statuses.Unfinished
status_of_closed (store_errors.Limit which) = OutOfMemory

-- the store was not opened: nothing is made, removed, appended or written
pub record StaysClosed (old new : StoreSide) (status : Status) : Type 0 where
  pub follows : Follows old.disk new.disk
  pub keeps : BothTold KeepsNow old.disk.told new.disk.told
  pub sink : new.sink ≡ old.sink
  pub depot : new.depot ≡ old.depot
  pub observer : new.observer ≡ old.observer
  pub cause : ClosedCause old.disk new.disk status

-- the lines ran over a store, or it was not opened
abbrev pub RunsOn : Bool → List Line → StoreSide → StoreSide → Status → Type 0
RunsOn batch lines old new status = RunsOnOpened batch lines old new status ⊎ StaysClosed old new status

-- what a text leaves that counts for a line of these words, or for nothing
abbrev pub TextRuns : List (List ℕ) → Option Generation → StoreSide → Result (Option Generation) Stop → StoreSide → Type 0
TextRuns words opened old (Ok after) new =
    ((counts_for_nothing words ≡ true) × (after ≡ opened) × (new ≡ old))
    ⊎ ((line : Line) × (written : Written) × IsLineOf words line × (after ≡ written.opened) × LineRunsOn line opened old (Ok written) new)
TextRuns words opened old (Err stop) new =
    (line : Line) × IsLineOf words line × LineRunsOn line opened old (Err stop) new

-- how lines ended, by their last refusal, if they didn't stop
abbrev pub result_of : Option Refusal → Result (Unit {0}) Stop → Result (Option Refusal) Stop
result_of last (Ok done) = Ok last
result_of last (Err stop) = Err stop

-- the lines of a text ran, up to the one at which the run stopped
pub record RunsText (text : List ℕ) (opened : Option Generation) (old : StoreSide) (result : Result (Unit {0}) Stop) (new : StoreSide) : Type 0 where
  pub lines : List Line
  pub others : List (List ℕ)
  pub first : AreFirstLines text lines others
  pub whole : IfOk result (λ done. others ≡ [])
  pub last : Option Refusal
  pub runs : LinesRun None lines opened old (result_of last result) new
