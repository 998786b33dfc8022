-- The commands `sysupdate`, after systemd-sysupdate(8): the versions that a host has and those that it may have, the newest of
-- these, an update to one of them, room in the targets, the features of its transfers, and its components. They read what the
-- base of the host has; an update and making room alone may want another host. The refusals, the first that holds, in this order,
-- which is this project's own: a feature file is faulty; the host's release file is; there is no transfer file; one is faulty; none
-- is on; then of one transfer after the other its source has no manifest, or one that is too long or faulty; of `check-new` alone:
-- no version is newer; and of an update and of making room what their plans are refused by. Making room looks at no source, so that
-- no manifest refuses it.
use Rattle.std.specs.Prelude.{◌≡◌, ◌⊎◌, ℕ, List, map, Option, Some, None, Result, Ok, Err, slice_get}
use Rattle.ext_depot.specs.Depot.{Files}
use Rattle.ext_tree.specs.Tree.{Entries}
use Rattle.ext_host.specs.Held.{HeldFile}
use Rattle.ext_host.specs.Planning.{IsBaseTree}
use Rattle.ext_host.specs.Shelf.{Told}
use Rattle.ext_host.specs.declared.host.Host.{Host}
use Rattle.ext_configs.specs.Components.{AreComponents}
use Rattle.ext_feature.specs.Active.{IsUpdateFile}
use Rattle.ext_feature.specs.Features.{FeaturesGive, IsFeatureFile}
use Rattle.ext_feature.specs.declared.errors.FeaturesErr.{FeaturesErr}
use Rattle.ext_feature.specs.declared.errors.FeaturesErr.TheVariants as unfeatured
use Rattle.ext_feature.specs.declared.feature.Feature.{Feature}
use Rattle.ext_transfer.specs.declared.transfer.Transfer.{Transfer}
use Rattle.ext_installed.specs.Installed.{AreInstalled}
use Rattle.ext_installed.specs.declared.instance.Instances.{Instances}
use Rattle.ext_choice.specs.Choice.{Chooses}
use Rattle.ext_choice.specs.declared.choosing.Choice.TheVariants.{Install, NoneNewer}
use Rattle.ext_cmd.specs.declared.answer.Answer.TheVariants as answers
use Rattle.ext_cmd.specs.declared.answer.FeatureItem.{FeatureItem}
use Rattle.ext_cmd.specs.declared.command.UpdateVerb.{UpdateVerb}
use Rattle.ext_cmd.specs.declared.command.UpdateVerb.TheVariants as verbs
use Rattle.ext_cmd.specs.declared.answer.VersionItem.{VersionItem}
use Rattle.ext_cmd.specs.declared.refusal.Refusal.{Refusal}
use Rattle.ext_cmd.specs.declared.refusal.Refusal.TheVariants as refusals
use Rattle.ext_intents.specs.Updates.{AreVersionItems, AreNoTransfers, AreNoUpdates, AreOn, AreUpdates}
use Rattle.ext_intents.specs.Updating.{ByUpdate, ByVacuum}
use Rattle.ext_intents.specs.declared.intent.Intent.{Intent}
use Rattle.ext_intents.specs.declared.intent.Intent.TheVariants.{Answers, Refuses}
use Rattle.ext_intents.specs.declared.plan_err.PlanErr.{PlanErr}
use Rattle.ext_intents.specs.declared.plan_err.PlanErr.TheVariants.{Shelf, OutOfMemory}
use Rattle.ext_update.specs.declared.updates.Updates.{Updates}

-- how it is told why features are not known: by a refusal, or by that nothing was planned
abbrev pub not_featured : FeaturesErr → Result Intent PlanErr
not_featured unfeatured.OutOfMemory = Err OutOfMemory
not_featured (unfeatured.BadFeature file line why) = Ok (Refuses (refusals.BadFeature line why file))
not_featured (unfeatured.Shelf e) = Err (Shelf e)

-- what `features` says of a feature
abbrev pub feature_item : Feature → FeatureItem
feature_item feature = record { name = feature.name; on = feature.on }

-- each version that is known, the greatest first
abbrev pub Lists : Updates → Intent → Type 0
Lists updates intent = (items : List VersionItem) × AreVersionItems updates items × (intent ≡ Answers (answers.Versions items))

-- the version that an update would install, or that none is newer than each that is installed
abbrev pub ChecksNew : Updates → Intent → Type 0
ChecksNew updates intent =
    ((place : ℕ) × (version : List ℕ) × Chooses updates.available updates.installed.versions None (Install place)
    × (slice_get updates.available place ≡ Some version) × (intent ≡ Answers (answers.Version version)))
    ⊎ (Chooses updates.available updates.installed.versions None NoneNewer × (intent ≡ Refuses refusals.NoneNewer))

module _ (told : HeldFile → Told) (files : Option Files) (host : Host) (base : Entries HeldFile) (component : Option (List ℕ)) where
  -- what is wanted, by what the updates of the component are about, or the refusal where that isn't known
  abbrev pub WantsByUpdates : (Updates → Intent → Type 0) → Intent → Type 0
  WantsByUpdates By intent =
      ((updates : Updates) × AreUpdates told files host base component updates × By updates intent)
      ⊎ ((refusal : Refusal) × AreNoUpdates told files host base component refusal × (intent ≡ Refuses refusal))

  -- room in the targets, by the transfers that are on and what the base has of them, or the refusal where these aren't known
  abbrev pub RoomWants : Intent → Type 0
  RoomWants intent =
      ((transfers : List Transfer) × (installed : Instances) × AreOn told files host base component transfers
      × AreInstalled base transfers installed × ByVacuum host transfers installed.items intent)
      ⊎ ((refusal : Refusal) × AreNoTransfers told files host base component refusal × (intent ≡ Refuses refusal))

  -- the features, and which of them are on, or the refusal where they aren't known
  abbrev pub FeaturesWants : Intent → Type 0
  FeaturesWants intent =
      ((features : List Feature) × FeaturesGive told 0 0 base component (Ok features) × (intent ≡ Answers (answers.Features (map feature_item features))))
      ⊎ ((error : FeaturesErr) × (refusal : Refusal) × FeaturesGive told 0 0 base component (Err error)
      × (not_featured error ≡ Ok (Refuses refusal)) × (intent ≡ Refuses refusal))

  -- what a verb wants of the host with this base
  abbrev pub VerbWantsOf : UpdateVerb → Intent → Type 0
  VerbWantsOf verbs.List intent = WantsByUpdates Lists intent
  VerbWantsOf verbs.CheckNew intent = WantsByUpdates ChecksNew intent
  VerbWantsOf (verbs.Update wanted) intent = WantsByUpdates (ByUpdate files host wanted) intent
  VerbWantsOf verbs.Vacuum intent = RoomWants intent
  VerbWantsOf verbs.Features intent = FeaturesWants intent

-- what a verb wants of a host
abbrev pub VerbWants : Host → (HeldFile → Told) → Option Files → Option (List ℕ) → UpdateVerb → Intent → Type 0
VerbWants host told files component verb intent =
    (base : Entries HeldFile) × IsBaseTree host base × VerbWantsOf told files host base component verb intent

-- what `components` wants of a host: the components that its base has
abbrev pub ComponentsWants : Host → Intent → Type 0
ComponentsWants host intent =
    (base : Entries HeldFile) × IsBaseTree host base × ((names : List (List ℕ)) × AreComponents base names × (intent ≡ Answers (answers.Components names)))

-- a file that is read for a verb: feature files alone for `features`, and for the others the release file of the host and transfer
-- files too
abbrev pub IsVerbFile : Entries HeldFile → Option (List ℕ) → UpdateVerb → HeldFile → Type 0
IsVerbFile base component verbs.List held = IsUpdateFile base component held
IsVerbFile base component verbs.CheckNew held = IsUpdateFile base component held
IsVerbFile base component (verbs.Update wanted) held = IsUpdateFile base component held
IsVerbFile base component verbs.Vacuum held = IsUpdateFile base component held
IsVerbFile base component verbs.Features held = IsFeatureFile base component held

-- a file of a host that is read for a verb
abbrev pub IsSysupdateFile : Host → Option (List ℕ) → UpdateVerb → HeldFile → Type 0
IsSysupdateFile host component verb held = (base : Entries HeldFile) × IsBaseTree host base × IsVerbFile base component verb held
