-- How a run ends: the number of each status, and when a fault may be blamed. This project's own.
use Rattle.std.specs.Prelude.{ℕ}
use Rattle.ext_text.specs.Causes.{Rose}
use Rattle.ext_mount.specs.declared.status.ImageStatus.{ImageStatus}
use Rattle.ext_mount.specs.declared.status.ImageStatus.TheVariants.{Done, Refused, Usage, WriteFault, DiskFault, OutOfMemory, BadStore}

-- the number that the process ends with
abbrev pub image_status_number : ImageStatus → ℕ
image_status_number Done = 0
image_status_number (Refused refusal) = 1
image_status_number (Usage place) = 2
image_status_number WriteFault = 4
image_status_number DiskFault = 5
image_status_number OutOfMemory = 7
image_status_number (BadStore line) = 8

-- how often the calls of the sink and of the store failed
pub record ImageCounts : Type 0 where
  pub sink : ℕ
  pub store : ℕ

-- a fault comes only where that count rose
abbrev pub ImageCause : ImageCounts → ImageCounts → ImageStatus → Type 0
ImageCause old new Done = Unit {0}
ImageCause old new (Refused refusal) = Unit {0}
ImageCause old new (Usage place) = Unit {0}
ImageCause old new WriteFault = Rose old.sink new.sink
ImageCause old new DiskFault = Rose old.store new.store
ImageCause old new OutOfMemory = Unit {0}
ImageCause old new (BadStore line) = Unit {0}
