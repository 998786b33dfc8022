-- One line of a run, done or stopped.
use Rattle.std.specs.Prelude.{◌≡◌, ℕ, List, [], ◌∷◌, Option, IfSome, Result, Ok, Err}
use Rattle.std.specs.Io.KnownBytes.{Appends}
use Rattle.ext_text.specs.Causes.{Rose}
use Rattle.ext_io.specs.SinkState.{SinkState}
use Rattle.ext_disk.specs.Disk.{Places, Told, DiskState}
use Rattle.ext_depot.specs.Depot.{DepotState, Files}
use Rattle.ext_host.specs.declared.damage.Damage.{Damage}
use Rattle.ext_gen.specs.Opened.{Generation}
use Rattle.ext_gen.specs.Store.{State, generation_in}
use Rattle.ext_gen.specs.Sound.{IsDurably, StandsSince}
use Rattle.ext_gen.specs.declared.bad_store.BadStore.TheVariants.{Broken, Damaged}
use Rattle.ext_top.specs.Applying.{HasTooManyLeftOvers, IsDamage}
use Rattle.ext_top.specs.Exits.{Line, LineComes, Standing, StandsAs, StopsWith, IsOnTheWay}
use Rattle.ext_top.specs.Machine.{Outcome, refusal_of, reply_of, state_after}
use Rattle.ext_top.specs.Working.{KeepsCurrent}
use Rattle.ext_top.specs.declared.apply_err.ApplyErr.{ApplyErr}
use Rattle.ext_top.specs.declared.apply_err.ApplyErr.TheVariants as apply_errors
use Rattle.ext_top.specs.declared.lines.Written.{Written}
use Rattle.ext_top.specs.declared.stop.Stop.{Stop}
use Rattle.ext_top.specs.declared.stop.Stop.TheVariants.{WriteFault, DiskFault, DepotFault, OutOfMemory, BadStore, Unfinished}
use Rattle.ext_top.specs.Stop.{stop_of_fault}

-- why a command that was not carried out stops the run
abbrev pub stop_of_apply : ApplyErr → Stop
stop_of_apply (apply_errors.Fault fault) = stop_of_fault fault
stop_of_apply apply_errors.Unfinished = Unfinished

-- what is said where a line is unfinished
abbrev pub WhereLineUnfinished : Type 0 → Stop → Type 0
WhereLineUnfinished P WriteFault = Unit {0}
WhereLineUnfinished P DiskFault = Unit {0}
WhereLineUnfinished P DepotFault = Unit {0}
WhereLineUnfinished P OutOfMemory = Unit {0}
WhereLineUnfinished P (BadStore why) = Unit {0}
WhereLineUnfinished P Unfinished = P

-- what is said of a damage at which the run stopped
abbrev pub WhereLineDamaged : (Damage → Type 0) → Stop → Type 0
WhereLineDamaged P WriteFault = Unit {0}
WhereLineDamaged P DiskFault = Unit {0}
WhereLineDamaged P DepotFault = Unit {0}
WhereLineDamaged P OutOfMemory = Unit {0}
WhereLineDamaged P (BadStore (Broken line)) = Unit {0}
WhereLineDamaged P (BadStore (Damaged damage)) = P damage
WhereLineDamaged P Unfinished = Unit {0}

-- where a line was refused, or the run stopped at it for another reason than a fault of the disk or of the sink, `current` is as it
-- was
abbrev pub LineLeavesCurrent : Result Written Stop → Told → Told → Type 0
LineLeavesCurrent (Ok written) d e = IfSome written.refusal (λ refusal. KeepsCurrent d e)
LineLeavesCurrent (Err WriteFault) d e = Unit {0}
LineLeavesCurrent (Err DiskFault) d e = Unit {0}
LineLeavesCurrent (Err DepotFault) d e = KeepsCurrent d e
LineLeavesCurrent (Err OutOfMemory) d e = KeepsCurrent d e
LineLeavesCurrent (Err (BadStore why)) d e = KeepsCurrent d e
LineLeavesCurrent (Err Unfinished) d e = KeepsCurrent d e

-- the line was done: the store durably stands for the state after its outcome, whose reply was written
pub record LineDone (line : Line) (s : State) (files : Option Files) (k l : SinkState) (e : Places) (written : Written) : Type 0 where
  pub outcome : Outcome
  pub comes : LineComes s files line outcome
  pub opened : written.opened ≡ generation_in (state_after s outcome)
  pub refusal : written.refusal ≡ refusal_of outcome
  pub appends : Appends k.written l.written (reply_of outcome)
  pub durably : IsDurably (state_after s outcome) e

-- it was not: the table of exits says for which state the store stands, and what was written
pub record LineStops (line : Line) (s : State) (files : Option Files) (k l : SinkState) (e : Places) (stop : Stop) : Type 0 where
  pub standing : Standing
  pub part : List ℕ
  pub stops : StopsWith stop s files line standing part
  pub appends : Appends k.written l.written part
  pub stands : StandsAs standing e

-- a line was done, or the run stopped at it
abbrev pub LineEnds : Line → State → Option Files → SinkState → SinkState → Places → Result Written Stop → Type 0
LineEnds line s files k l e (Ok written) = LineDone line s files k l e written
LineEnds line s files k l e (Err stop) = LineStops line s files k l e stop

-- and each tree that a stop since may have left stands for the state before the line or the one after it
pub record LineRuns (line : Line) (s : State) (files : Option Files) (k l : SinkState) (result : Result Written Stop)
    (d e : Told) : Type 0 where
  pub ends : LineEnds line s files k l e.places result
  pub since : StandsSince (IsOnTheWay s files (line ∷ [])) e d.clock

-- what a line leaves on a disk that tells
abbrev pub LineTold : Line → Option Generation → Option Files → SinkState → SinkState → Result Written Stop → Told → Told → Type 0
LineTold line opened files k l result d e =
    (s : State) → generation_in s ≡ opened → IsDurably s d.places → LineRuns line s files k l result d e

-- which fault a stop blames, whatever the store is
abbrev pub LineCause : Option Generation → SinkState → SinkState → DiskState → DiskState → DepotState → DepotState → Stop → Type 0
LineCause opened k l d e before after WriteFault = Rose k.faults l.faults
LineCause opened k l d e before after DiskFault = Rose d.faults e.faults
LineCause opened k l d e before after DepotFault = Rose before.faults after.faults
LineCause opened k l d e before after OutOfMemory = Unit {0}
LineCause opened k l d e before after (BadStore (Broken line)) = ⊥
LineCause opened k l d e before after (BadStore (Damaged damage)) = IsDamage opened d damage
LineCause opened k l d e before after Unfinished = HasTooManyLeftOvers opened d
