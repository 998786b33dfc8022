-- Stops in time: what a stop at or after a moment may have left, and what a disk keeps of its past.
use Rattle.std.specs.Prelude.{◌≡◌, ℕ, ◌≤◌}
use Rattle.ext_disk.specs.Disk.{Tree, Told, DiskState, MayLeave, BothTold}

-- a stop at some moment from m on, up to now, may have left the tree. So a later m allows no more trees than an earlier one
pub record Since (d : Told) (m : ℕ) (t : Tree) : Type 0 where
  pub moment : ℕ
  pub from : m ≤ moment
  pub upto : moment ≤ d.clock
  pub left : MayLeave (d.past moment) t

-- e is no earlier than d, and each moment up to the clock of d is the same in both
pub record IsLater (d e : Told) : Type 0 where
  pub clock : d.clock ≤ e.clock
  pub past : (n : ℕ) → n ≤ d.clock → e.past n ≡ d.past n

-- what every call keeps, and whatever is made of calls: a disk that tells goes on telling, its past stays, and no fault is
-- forgotten
pub record Follows (old new : DiskState) : Type 0 where
  pub told : BothTold IsLater old.told new.told
  pub count : old.faults ≤ new.faults

-- what reading calls leave, and syncs that failed: the same in every meaning but the count of faults
pub record Rests (old new : DiskState) : Type 0 where
  pub told : new.told ≡ old.told
  pub count : old.faults ≤ new.faults
