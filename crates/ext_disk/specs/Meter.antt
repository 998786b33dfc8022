-- What a disk in memory counts of its calls, and which of them fail.
use Rattle.std.specs.Prelude.{◌≡◌, ◌⊎◌, ℕ, ◌≤◌, Bool, true, false, [], ◌∷◌, ◌++◌, Option, Some, None, Contains}
use Rattle.ext_io.specs.Device.{next_count}
use Rattle.ext_disk.specs.declared.disk_call.DiskCall.{DiskCall}
use Rattle.ext_disk.specs.declared.meter.Meter.{Meter}

-- a stop is set, and this call is the one of that number or a later one
abbrev pub HasStopped : Option ℕ → ℕ → Type 0
HasStopped None number = ⊥
HasStopped (Some stop) number = stop ≤ number

-- the next call is one of those that fail: its number, counted from 1, is listed, or a stop came before
abbrev pub IsToFail : Meter → Type 0
IsToFail meter = Contains meter.fails (next_count meter.called) ⊎ HasStopped meter.stop (next_count meter.called)

-- it found no memory
abbrev pub HasStarved : Meter → Meter → Type 0
HasStarved old new = new.starved ≡ next_count old.starved

-- a call is done where it is none of those that fail and found memory, and fails where it is one or found none; a fault is
-- counted exactly where it fails
abbrev pub EndsMetered : Meter → Meter → Bool → Type 0
EndsMetered old new true = (¬ IsToFail old) × (new.starved ≡ old.starved) × (new.faults ≡ old.faults)
EndsMetered old new false = (IsToFail old ⊎ HasStarved old new) × (new.faults ≡ next_count old.faults)

-- one call, done or failed: it is counted, and kept in the record unless it found no memory there
pub record IsMetered (old new : Meter) (call : DiskCall) (done : Bool) : Type 0 where
  pub fails : new.fails ≡ old.fails
  pub stop : new.stop ≡ old.stop
  pub called : new.called ≡ next_count old.called
  pub kept : (new.calls.items ≡ old.calls.items ++ call ∷ []) ⊎ ((new.calls.items ≡ old.calls.items) × HasStarved old new)
  pub ends : EndsMetered old new done

-- the call that is under way found no memory
pub record IsStarved (old new : Meter) : Type 0 where
  pub fails : new.fails ≡ old.fails
  pub stop : new.stop ≡ old.stop
  pub called : new.called ≡ old.called
  pub kept : new.calls.items ≡ old.calls.items
  pub starved : new.starved ≡ next_count old.starved
  pub faults : new.faults ≡ next_count old.faults
