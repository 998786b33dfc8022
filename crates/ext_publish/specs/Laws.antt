-- What holds of every run.
use Rattle.std.specs.Prelude.{◌≡◌, ◌⊎◌, Some}
use Rattle.ext_text.specs.Causes.{Rose}
use Rattle.ext_disk.specs.Disk.{Told, now}
use Rattle.ext_gen.specs.Sound.{IsSound}
use Rattle.ext_gen.specs.Store.{State, Stands}
use Rattle.ext_store_files.specs.LeftOvers.{most_left_overs}
use Rattle.ext_store_files.specs.Removal.{AtMost}
use Rattle.ext_published.specs.Asked.{AskedOf, IsPublishAsk, asked_words}
use Rattle.ext_published.specs.declared.refusal.PubRefusal.{PubRefusal}
use Rattle.ext_publish.specs.Out.{IsQuiet, is_left_at}
use Rattle.ext_publish.specs.Refusing.{IsRefused}
use Rattle.ext_publish.specs.Publishing.{PubDevices, Publishes}
use Rattle.ext_publish.specs.Store.{host_of_state}
use Rattle.ext_publish.specs.declared.status.PubStatus.{PubStatus}
use Rattle.ext_publish.specs.declared.status.PubStatus.TheVariants.{Done, OutOfMemory}

-- both disks tell what they have, no call of a device failed, the store is sound, the folder is quiet, and no refusal's condition holds
pub record IsUnhindered (asked : AskedOf) (s : State) (old new : PubDevices) : Type 0 where
  pub store : Told
  pub d : Told
  pub e : Told
  pub store_tells : old.store.told ≡ Some store
  pub out_tells : old.out.told ≡ Some d
  pub out_tells_then : new.out.told ≡ Some e
  pub sound : IsSound store.places
  pub stands : Stands (now store.places) s
  pub quiet : IsQuiet d.places
  pub no_sink_fault : ¬ Rose old.sink.faults new.sink.faults
  pub no_store_fault : ¬ Rose old.store.faults new.store.faults
  pub no_out_fault : ¬ Rose old.out.faults new.out.faults
  pub no_refusal : (refusal : PubRefusal) → ¬ IsRefused (host_of_state s) asked (now d.places) refusal
  pub few : AtMost most_left_overs (is_left_at asked) d.places

-- what nothing hinders is done, unless memory ran out
abbrev pub UnhinderedIsDone : Type 0
UnhinderedIsDone =
    (asked : AskedOf) (s : State) (old new : PubDevices) (status : PubStatus) → IsPublishAsk asked → IsUnhindered asked s old new
    → Publishes (asked_words asked) old new status → (status ≡ Done) ⊎ (status ≡ OutOfMemory)
