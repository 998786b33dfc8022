-- What a run leaves of the store, which it only reads: what stands there stays, and a sound store stays one that stands for
-- what it might have stood for.
use Rattle.std.specs.Prelude.{ℕ, List, [], Option, Some, None}
use Rattle.ext_disk.specs.Disk.{Told, DiskState, BothTold}
use Rattle.ext_disk.specs.Since.{Follows}
use Rattle.ext_host.specs.Held.{HeldFile}
use Rattle.ext_host.specs.declared.body.Body.{Body}
use Rattle.ext_host.specs.declared.body.Body.TheVariants as bodies
use Rattle.ext_host.specs.declared.host.Host.{Host}
use Rattle.ext_host.specs.declared.home.Home.{Home}
use Rattle.ext_gen.specs.Opening.{KeepsNow}
use Rattle.ext_gen.specs.Sound.{IsMember, IsSound, StandsSince}
use Rattle.ext_gen.specs.Store.{State, none, at}

-- the host of a state
abbrev pub host_of_state : State → Option Host
host_of_state none = None
host_of_state (at g contents) = Some g.host

-- the bytes of a held file, by what stands at each home
abbrev pub body_bytes : (Home → List ℕ) → Body → List ℕ
body_bytes contents (bodies.Here bytes) = bytes
body_bytes contents (bodies.Kept home) = contents home
body_bytes contents (bodies.Depot path) = []

-- the bytes of the files of a state
abbrev pub bytes_in : State → HeldFile → List ℕ
bytes_in none held = []
bytes_in (at g contents) held = body_bytes contents held.body

-- a sound store is sound still, and stands only for what it might have stood for before; so does each tree that a stop since may
-- have left
pub record StaysSound (d e : Told) : Type 0 where
  pub sound : IsSound e.places
  pub within : (s : State) → IsMember e.places s → IsMember d.places s
  pub since : StandsSince (IsMember d.places) e d.clock

-- what a run leaves of the store
pub record KeepsStore (old new : DiskState) : Type 0 where
  pub follows : Follows old new
  pub now : BothTold KeepsNow old.told new.told
  pub sound : BothTold (λ d e. IsSound d.places → StaysSound d e) old.told new.told
