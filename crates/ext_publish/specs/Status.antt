-- How a run ends: the number of each status, and when a fault may be blamed. This project's own.
use Rattle.std.specs.Prelude.{ℕ}
use Rattle.ext_text.specs.Causes.{Rose}
use Rattle.ext_publish.specs.declared.status.PubStatus.{PubStatus}
use Rattle.ext_publish.specs.declared.status.PubStatus.TheVariants.{Done, Refused, Usage, WriteFault, DiskFault, OutFault, OutOfMemory, BadStore, Unfinished}

-- the number that the process ends with
abbrev pub pub_status_number : PubStatus → ℕ
pub_status_number Done = 0
pub_status_number (Refused refusal) = 1
pub_status_number (Usage place) = 2
pub_status_number WriteFault = 4
pub_status_number DiskFault = 5
pub_status_number OutFault = 6
pub_status_number OutOfMemory = 7
pub_status_number (BadStore why) = 8
pub_status_number Unfinished = 9

-- how often the calls of the sink, of the store and of the depot's folder failed
pub record PubCounts : Type 0 where
  pub sink : ℕ
  pub store : ℕ
  pub out : ℕ

-- a fault comes only where that count rose
abbrev pub PubCause : PubCounts → PubCounts → PubStatus → Type 0
PubCause old new Done = Unit {0}
PubCause old new (Refused refusal) = Unit {0}
PubCause old new (Usage place) = Unit {0}
PubCause old new WriteFault = Rose old.sink new.sink
PubCause old new DiskFault = Rose old.store new.store
PubCause old new OutFault = Rose old.out new.out
PubCause old new OutOfMemory = Unit {0}
PubCause old new (BadStore why) = Unit {0}
PubCause old new Unfinished = Unit {0}
