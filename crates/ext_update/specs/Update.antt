-- What an update of a host to a version wants, after systemd-sysupdate(8). A version that is installed already, or none that is newer,
-- changes nothing. Else, in this order, which is this project's own: the resources that the transfers lack are taken from the depot,
-- room is made for them, and then comes what is written.
use Rattle.std.specs.Prelude.{◌≡◌, ◌⊎◌, ℕ, List, map, Option, Some, slice_get, Ok, Err}
use Rattle.ext_depot.specs.Depot.{Files}
use Rattle.ext_host.specs.declared.host.Host.{Host}
use Rattle.ext_choice.specs.Choice.{Chooses}
use Rattle.ext_choice.specs.Vacuum.{IsDivision, LacksFirst}
use Rattle.ext_choice.specs.declared.choosing.Choice.{Choice}
use Rattle.ext_choice.specs.declared.choosing.Choice.TheVariants.{Install, Present, NoneNewer, NoSuch}
use Rattle.ext_choice.specs.declared.division.Division.{Division}
use Rattle.ext_resources.specs.Told.{TellsResources}
use Rattle.ext_resources.specs.declared.resource.Resource.{Resource}
use Rattle.ext_resources.specs.declared.resource_err.ResourceErr.{ResourceErr}
use Rattle.ext_update.specs.Untaken.{not_taken}
use Rattle.ext_update.specs.Stages.{Writes, WritesWant}
use Rattle.ext_update.specs.Writing.{link_pieces, resource_piece}
use Rattle.ext_update.specs.declared.planned.Planned.{Planned}
use Rattle.ext_update.specs.declared.planned.Planned.TheVariants as plans
use Rattle.ext_update.specs.declared.refusal.UpdateRefusal.TheVariants as refusals
use Rattle.ext_update.specs.declared.planned.Update.{Update}
use Rattle.ext_update.specs.declared.planned.Update.TheVariants.{Unchanged, Changes, Refused}
use Rattle.ext_update.specs.declared.updates.Updates.{Updates}

-- what an update to a version writes, of these resources, and what becomes of the instances
abbrev pub writes_of : Updates → List ℕ → List Resource → Division → Writes
writes_of updates version resources division = record {
  resources = map (resource_piece updates.transfers) resources;
  links = link_pieces updates.transfers updates.installed.items resources version;
  removed = division.removed;
  staying = division.staying;
}

-- an update of what was planned
abbrev pub update_of : List ℕ → Planned → Update
update_of version (plans.Next next) = Changes version next
update_of version (plans.Refused refusal) = Refused refusal

module _ (host : Host) (updates : Updates) where
  -- what is wanted where there is room
  abbrev pub DividedWants : List ℕ → List Resource → Division → Update → Type 0
  DividedWants version resources division update =
      (planned : Planned) × WritesWant host (writes_of updates version resources division) planned
      × (update ≡ update_of version planned)

  -- what is wanted of resources that were taken
  abbrev pub TakenWants : List ℕ → List Resource → Update → Type 0
  TakenWants version resources update =
      ((division : Division) × IsDivision updates.transfers (Some version) updates.installed.items division
      × DividedWants version resources division update)
      ⊎ ((file : List ℕ) × (count : ℕ) × LacksFirst updates.transfers (Some version) updates.installed.items file count
      × (update ≡ Refused (refusals.NoRoom file count)))

module _ (files : Option Files) (host : Host) (updates : Updates) where
  -- what is wanted of a version
  abbrev pub VersionWants : List ℕ → Update → Type 0
  VersionWants version update =
      ((resources : List Resource) × TellsResources files updates.transfers updates.offers updates.installed.items version (Ok resources)
      × TakenWants host updates version resources update)
      ⊎ ((error : ResourceErr) × TellsResources files updates.transfers updates.offers updates.installed.items version (Err error)
      × (not_taken error ≡ Ok update))

  -- what is wanted after a choice
  abbrev pub ChoiceWants : Choice → Update → Type 0
  ChoiceWants (Install place) update =
      (version : List ℕ) × (slice_get updates.available place ≡ Some version) × VersionWants version update
  ChoiceWants Present update = update ≡ Unchanged
  ChoiceWants NoneNewer update = update ≡ Unchanged
  ChoiceWants NoSuch update = update ≡ Refused refusals.NoSuchVersion

  -- what is wanted of the version that is asked for, or else of the newest
  abbrev pub UpdateWants : Option (List ℕ) → Update → Type 0
  UpdateWants wanted update =
      (choice : Choice) × Chooses updates.available updates.installed.versions wanted choice × ChoiceWants choice update
