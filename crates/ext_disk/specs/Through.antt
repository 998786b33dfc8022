-- What holds at each moment of a stretch of calls.
use Rattle.std.specs.Prelude.{ℕ, ◌<◌, ◌≤◌}
use Rattle.ext_disk.specs.Disk.{Places, Told, DiskState, BothTold}
use Rattle.ext_disk.specs.Since.{Follows}

-- it holds now, and at each moment since
pub record HoldsThrough (P : Places → Type 0) (d e : Told) : Type 0 where
  pub now : P e.places
  pub moments : (n : ℕ) → d.clock < n → n ≤ e.clock → P (e.past n)

-- the fact holds of each moment from one disk to a later one, where they tell
pub record Through (P : Places → Type 0) (old new : DiskState) : Type 0 where
  pub follows : Follows old new
  pub told : BothTold (HoldsThrough P) old.told new.told
