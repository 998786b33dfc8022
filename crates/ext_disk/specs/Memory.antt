-- What contracts see of a disk in memory: what it is as a disk, each path, and what it counts and keeps of its calls.
use Rattle.std.specs.Prelude.{◌≡◌, ℕ, List, [], Option, Some, Bool, Result, Ok, Err, true, false}
use Rattle.ext_disk.specs.Disk.{Places, Told, DiskState}
use Rattle.ext_disk.specs.Deeds.{told_of, replay}
use Rattle.ext_disk.specs.Meter.{IsMetered}
use Rattle.ext_disk.specs.declared.disk_call.DiskCall.{DiskCall}
use Rattle.ext_disk.specs.declared.history.History.{History}
use Rattle.ext_disk.specs.declared.list_err.ListErr.{ListErr}
use Rattle.ext_disk.specs.declared.list_err.ListErr.TheVariants.{Failed, OutOfMemory}
use Rattle.ext_disk.specs.declared.memory_disk.MemoryDisk.{MemoryDisk}

-- what a history tells of its disk
abbrev pub told_by : History → Told
told_by history = told_of history.given.items history.deeds.items history.appended

-- each path that a history came to
abbrev pub came_to : History → Places
came_to history = replay history.given.items history.deeds.items

-- it tells everything
abbrev pub memory_state : MemoryDisk → DiskState
memory_state disk = record { told = Some (told_by disk.history); faults = disk.meter.faults }

-- each path, as it stands now
abbrev pub places_of : MemoryDisk → Places
places_of disk = came_to disk.history

-- the sum of the bytes of the appends that were done
abbrev pub appended_on : MemoryDisk → ℕ
appended_on disk = disk.history.appended

-- the record of its calls
abbrev pub calls_of : MemoryDisk → List DiskCall
calls_of disk = disk.meter.calls.items

-- how many calls found no memory
abbrev pub starved_of : MemoryDisk → ℕ
starved_of disk = disk.meter.starved

-- one call, done or failed: it fails exactly where it is to fail or found no memory, and is kept in the record
abbrev pub IsCalled : MemoryDisk → MemoryDisk → DiskCall → Bool → Type 0
IsCalled old new call done = IsMetered old.meter new.meter call done

-- one call of `list`, which is kept as done where the call was done and its names alone found no memory
abbrev pub IsListCall : {T : Type 0} → MemoryDisk → MemoryDisk → DiskCall → Result T ListErr → Type 0
IsListCall old new call (Ok _) = IsCalled old new call true
IsListCall old new call (Err Failed) = IsCalled old new call false
IsListCall old new call (Err OutOfMemory) = IsCalled old new call true

-- no call was made of the disk, and the calls of these numbers are to fail, and each one from the number of the stop on
pub record IsUncalled (disk : MemoryDisk) (fails : List ℕ) (stop : Option ℕ) : Type 0 where
  pub clock : (told_by disk.history).clock ≡ 0
  pub appended : appended_on disk ≡ 0
  pub fails_are : disk.meter.fails ≡ fails
  pub stop_is : disk.meter.stop ≡ stop
  pub called : disk.meter.called ≡ 0
  pub calls : calls_of disk ≡ []
  pub starved : starved_of disk ≡ 0
  pub faults : (memory_state disk).faults ≡ 0
