-- What the updates of a component are about: the transfers that are on, what their sources offer, the versions that may be taken
-- over and those that the host has. After systemd-sysupdate(8). They are looked at in this order, which is this project's own:
-- feature files, the host's release file, transfer files, and then the manifests of one transfer after the other.
use Rattle.std.specs.Prelude.{◌≡◌, ◌⊎◌, ℕ, Bool, true, false, List, ◌++◌, map, reverse, Option, Some, None, Result, Ok, Err}
use Rattle.std.specs.List.{flat_map, list_any}
use Rattle.std.specs.Ordering.{is_gt}
use Rattle.ext_text.specs.declared.which.Which.TheVariants as limits
use Rattle.ext_depot.specs.Depot.{Files}
use Rattle.ext_tree.specs.Tree.{Entries}
use Rattle.ext_vers.specs.Version.{version_cmp}
use Rattle.ext_host.specs.Held.{HeldFile}
use Rattle.ext_host.specs.Shelf.{Told}
use Rattle.ext_host.specs.declared.host.Host.{Host}
use Rattle.ext_transfer.specs.declared.transfer.Transfer.{Transfer}
use Rattle.ext_versions.specs.Versions.{AreVersions, has_version}
use Rattle.ext_feature.specs.Active.{ActiveGives}
use Rattle.ext_feature.specs.declared.errors.ActiveErr.{ActiveErr}
use Rattle.ext_feature.specs.declared.errors.ActiveErr.TheVariants as inactive
use Rattle.ext_available.specs.Available.{AreAvailable}
use Rattle.ext_available.specs.Reading.{AreTold}
use Rattle.ext_available.specs.declared.offer.Offer.{Offer}
use Rattle.ext_available.specs.declared.offers_err.OffersErr.{OffersErr}
use Rattle.ext_available.specs.declared.offers_err.OffersErr.TheVariants as untold
use Rattle.ext_installed.specs.Installed.{AreInstalled}
use Rattle.ext_installed.specs.declared.instance.Instance.{Instance}
use Rattle.ext_cmd.specs.declared.answer.Presence.{Presence}
use Rattle.ext_cmd.specs.declared.answer.Presence.TheVariants.{Absent, Partial, Installed}
use Rattle.ext_cmd.specs.declared.answer.VersionItem.{VersionItem}
use Rattle.ext_cmd.specs.declared.refusal.Refusal.{Refusal}
use Rattle.ext_cmd.specs.declared.refusal.Refusal.TheVariants as refusals
use Rattle.ext_intents.specs.declared.plan_err.PlanErr.{PlanErr}
use Rattle.ext_intents.specs.declared.plan_err.PlanErr.TheVariants.{DepotFault, Shelf, OutOfMemory}
use Rattle.ext_intents.specs.declared.updates.Looked.{Looked}
use Rattle.ext_intents.specs.declared.updates.Looked.TheVariants.{Found, Refused}
use Rattle.ext_update.specs.declared.updates.Updates.{Updates}

-- how it is told why transfers are not known: by a refusal, or by that nothing was planned
abbrev pub not_active : ActiveErr → Result Refusal PlanErr
not_active inactive.OutOfMemory = Err OutOfMemory
not_active (inactive.BadFeature file line why) = Ok (refusals.BadFeature line why file)
not_active (inactive.BadHostRelease line) = Ok (refusals.BadHostRelease line)
not_active inactive.NoTransfers = Ok refusals.NoTransfers
not_active (inactive.BadTransfer file line why) = Ok (refusals.BadTransfer line why file)
not_active inactive.NoneOn = Ok refusals.NoneOn
not_active (inactive.Shelf e) = Err (Shelf e)

-- and why it is not known what sources offer
abbrev pub not_offered : OffersErr → Result Looked PlanErr
not_offered untold.OutOfMemory = Err OutOfMemory
not_offered untold.Fault = Err DepotFault
not_offered (untold.NotInDepot path) = Ok (Refused (refusals.NotInDepot path))
not_offered untold.TooLong = Ok (Refused (refusals.Limit limits.Text))
not_offered (untold.BadManifest path line) = Ok (Refused (refusals.BadManifest line path))

module _ (told : HeldFile → Told) (files : Option Files) (host : Host) (base : Entries HeldFile) (component : Option (List ℕ)) where
  -- these transfers are on
  abbrev pub AreOn : List Transfer → Type 0
  AreOn transfers = ActiveGives told 0 0 base host.arch component (Ok transfers)

  -- they, their offers, and the versions that are available and installed
  pub record AreUpdates (updates : Updates) : Type 0 where
    pub active : AreOn updates.transfers
    pub offered : AreTold files updates.transfers (Ok updates.offers)
    pub available : AreAvailable updates.transfers updates.offers updates.available
    pub installed : AreInstalled base updates.transfers updates.installed

  -- no transfers are known, for this reason
  abbrev pub AreNoTransfers : Refusal → Type 0
  AreNoTransfers refusal =
      (error : ActiveErr) × ActiveGives told 0 0 base host.arch component (Err error) × (not_active error ≡ Ok refusal)

  -- there are no updates, for this reason: no transfers are known, or not what their sources offer
  abbrev pub AreNoUpdates : Refusal → Type 0
  AreNoUpdates refusal =
      AreNoTransfers refusal
      ⊎ ((transfers : List Transfer) × (error : OffersErr) × AreOn transfers × AreTold files transfers (Err error)
      × (not_offered error ≡ Ok (Refused refusal)))

  -- what a look at them gives
  abbrev pub LooksAs : Looked → Type 0
  LooksAs (Found updates) = AreUpdates updates
  LooksAs (Refused refusal) = AreNoUpdates refusal

-- the versions of instances
abbrev pub versions_of_items : List Instance → List (List ℕ)
versions_of_items items = map (λ item. item.version) items

-- the versions that are available and installed, beside these transfers and offers
pub record AreUpdatesOf (base : Entries HeldFile) (transfers : List Transfer) (offers : List (List Offer)) (updates : Updates) : Type 0 where
  pub transfers_same : updates.transfers ≡ transfers
  pub offers_same : updates.offers ≡ offers
  pub available : AreAvailable transfers offers updates.available
  pub installed : AreInstalled base transfers updates.installed

-- what a look at them gives, where these transfers are on
abbrev pub LooksAtTransfers : Option Files → Entries HeldFile → List Transfer → Looked → Type 0
LooksAtTransfers files base transfers (Found updates) =
    (offers : List (List Offer)) × AreTold files transfers (Ok offers) × AreUpdatesOf base transfers offers updates
LooksAtTransfers files base transfers (Refused refusal) =
    (error : OffersErr) × AreTold files transfers (Err error) × (not_offered error ≡ Ok (Refused refusal))

-- which targets have a version
abbrev pub presence_of : Bool → Bool → Presence
presence_of true some = Installed
presence_of false true = Partial
presence_of false false = Absent

-- the least version of a transfer, if one is set, is above the version
abbrev pub is_obsolete_by : Option (List ℕ) → List ℕ → Bool
is_obsolete_by None version = false
is_obsolete_by (Some least) version = is_gt (version_cmp least version)

-- the versions that a transfer protects
abbrev pub protected_by : Transfer → List (List ℕ)
protected_by transfer = transfer.protect

-- what `list` says of a version
abbrev pub version_item : Updates → List ℕ → VersionItem
version_item updates version = record {
  version = version;
  available = has_version updates.available version;
  presence = presence_of (has_version updates.installed.versions version) (has_version (versions_of_items updates.installed.items) version);
  protected = has_version (flat_map protected_by updates.transfers) version;
  obsolete = list_any (λ (t : Transfer). is_obsolete_by t.min version) updates.transfers;
}

-- the versions that are available or have an instance, ascending
abbrev pub AreKnown : Updates → List (List ℕ) → Type 0
AreKnown updates versions = AreVersions (updates.available ++ versions_of_items updates.installed.items) versions

-- what is said of each of them, the greatest first
abbrev pub AreVersionItems : Updates → List VersionItem → Type 0
AreVersionItems updates items = (versions : List (List ℕ)) × AreKnown updates versions × (items ≡ reverse (map (version_item updates) versions))
