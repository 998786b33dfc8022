-- Where nothing fails, a run is answered: with the replies of the machine, or with its refusal, or for want of memory.
use Rattle.std.specs.Prelude.{◌≡◌, ℕ, ◌≤◌, ◌⊎◌, Bool, true, false, List, [], ◌∷◌, length, Option, Some, Ok}
use Rattle.ext_text.specs.Causes.{Rose}
use Rattle.ext_io.specs.SourceState.{SourceState}
use Rattle.ext_disk.specs.Disk.{Told}
use Rattle.ext_gen.specs.Opened.{Generation}
use Rattle.ext_gen.specs.Sound.{IsSound}
use Rattle.ext_cmd.specs.Words.{IsWellFormed, command_words}
use Rattle.ext_cmd.specs.declared.command.Command.{Command}
use Rattle.ext_top.specs.Alone.{reads_source}
use Rattle.ext_top.specs.Applying.{HasTooManyLeftOvers}
use Rattle.ext_top.specs.Batch.{AreFirstLines, most_source}
use Rattle.ext_top.specs.Chain.{LineRunsOn, OpensStore, WantsAt}
use Rattle.ext_top.specs.Devices.{DeviceStates, StoreSide, store_side_of}
use Rattle.ext_top.specs.Exits.{Line, does, unread, wrong}
use Rattle.ext_top.specs.Running.{Kind, alone, run_kind, one_line, source_lines}
use Rattle.ext_top.specs.Working.{WantsWithin}
use Rattle.ext_top.specs.declared.lines.Written.{Written}
use Rattle.ext_top.specs.declared.status.Status.{Status}
use Rattle.ext_top.specs.declared.status.Status.TheVariants.{Done, Refused, Usage, ReadFault, WriteFault, DiskFault, DepotFault, OutOfMemory, BadStore, Unfinished, TooLong}

-- the source tells its bytes, and they are within the limit, where it is read
abbrev pub TellsWithin : Bool → SourceState → Type 0
TellsWithin true source = (bytes : List ℕ) × (source.left ≡ Some bytes) × (length bytes ≤ most_source)
TellsWithin false source = Unit {0}

-- more left-overs stand there than one command removes, and the line's command wants a host that passes no limit of a store
abbrev pub MeetsTooMany : Line → Option Generation → StoreSide → Type 0
MeetsTooMany (does command) opened side = HasTooManyLeftOvers opened side.disk × WantsWithin (WantsAt command opened side) opened
MeetsTooMany (wrong place) opened side = ⊥
MeetsTooMany unread opened side = ⊥

-- the first of the lines does, or a later one does, once those above it have run
abbrev pub LinesMeetTooMany : List Line → Option Generation → StoreSide → Type 0
LinesMeetTooMany [] opened side = ⊥
LinesMeetTooMany (line ∷ lines) opened side =
    MeetsTooMany line opened side
    ⊎ ((written : Written) × (mid : StoreSide) × LineRunsOn line opened side (Ok written) mid × LinesMeetTooMany lines written.opened mid)

-- and so it is when the store is opened first
abbrev pub OpensToTooMany : List Line → StoreSide → Type 0
OpensToTooMany lines side = (opened : Option Generation) × (start : StoreSide) × OpensStore opened side start × LinesMeetTooMany lines opened start

-- the disk tells a sound store
abbrev pub TellsSound : StoreSide → Type 0
TellsSound side = (d : Told) × (side.disk.told ≡ Some d) × IsSound d.places

-- the lines of a source, from the first on
abbrev pub AreLinesOf : SourceState → List Line → Type 0
AreLinesOf source lines = (bytes : List ℕ) × (others : List (List ℕ)) × (source.left ≡ Some bytes) × AreFirstLines bytes lines others

-- what the devices tell that nothing but want of memory may stop a run: a source that is read is within its limit; and where a
-- store is looked at, it is a sound one, and no line of the run meets too many left-overs
abbrev pub TellsFit : Kind → Command → DeviceStates → Type 0
TellsFit alone command old = TellsWithin (reads_source command) old.source
TellsFit source_lines command old =
    TellsWithin true old.source × TellsSound (store_side_of old)
    × ((lines : List Line) → AreLinesOf old.source lines → ¬ OpensToTooMany lines (store_side_of old))
TellsFit one_line command old = TellsSound (store_side_of old) × ¬ OpensToTooMany (does command ∷ []) (store_side_of old)

-- no count of faults rose
pub record NoneRose (old new : DeviceStates) : Type 0 where
  pub source : ¬ Rose old.source.faults new.source.faults
  pub sink : ¬ Rose old.sink.faults new.sink.faults
  pub disk : ¬ Rose old.disk.faults new.disk.faults
  pub depot : ¬ Rose old.depot.faults new.depot.faults

-- done or refused, or no memory
abbrev pub IsAnswered : Status → Type 0
IsAnswered Done = Unit {0}
IsAnswered (Refused refusal) = Unit {0}
IsAnswered (Usage place) = ⊥
IsAnswered ReadFault = ⊥
IsAnswered WriteFault = ⊥
IsAnswered DiskFault = ⊥
IsAnswered DepotFault = ⊥
IsAnswered OutOfMemory = Unit {0}
IsAnswered (BadStore why) = ⊥
IsAnswered Unfinished = ⊥
IsAnswered TooLong = ⊥

-- what is said of each status then holds of one of these three
abbrev pub Completes : List (List ℕ) → DeviceStates → DeviceStates → Status → Type 0
Completes words old new status =
    (command : Command) → IsWellFormed command → words ≡ command_words command → TellsFit (run_kind command) command old
    → NoneRose old new → IsAnswered status
