-- What a run leaves of the store, which it only reads: what stands there stays.
use Rattle.std.specs.Prelude.{◌≡◌, ◌⊎◌}
use Rattle.ext_disk.specs.Disk.{Told, DiskState, BothTold, now}
use Rattle.ext_disk.specs.Since.{Follows}
use Rattle.ext_gen.specs.Opening.{KeepsNow}
use Rattle.ext_gen.specs.Sound.{IsDurably, IsMember, IsSound, StandsSince}
use Rattle.ext_gen.specs.Store.{State, Stands}

-- a sound store is as it was, or stands durably for what it stood for; and each tree that a stop since may have left stands for
-- what it might have stood for before
pub record LeavesSound (d e : Told) : Type 0 where
  pub ends : (e ≡ d) ⊎ ((s : State) × Stands (now d.places) s × IsDurably s e.places)
  pub since : StandsSince (IsMember d.places) e d.clock

-- what a run leaves of the store
pub record LeavesStore (old new : DiskState) : Type 0 where
  pub follows : Follows old new
  pub now : BothTold KeepsNow old.told new.told
  pub sound : BothTold (λ d e. IsSound d.places → LeavesSound d e) old.told new.told
