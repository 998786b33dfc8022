-- What the depot tells is one answer; what sources offer by their manifests is listed; and what resources are for their transfers.
use Rattle.std.specs.Prelude.{◌≡◌, ◌↔◌, ℕ, ◌<◌, true, List, length, map, slice_get, Option, Some, Result, Ok, MatchBool}
use Rattle.std.specs.List.{AllZip, Contains}
use Rattle.std.specs.List.Sorted.{IsStrictlyIncreasing}
use Rattle.ext_tree.specs.Tree.{Entries}
use Rattle.ext_pattern.specs.First.{IsFirstMatch}
use Rattle.ext_depot.specs.Depot.{Files}
use Rattle.ext_transfer.specs.declared.transfer.Transfer.{Transfer}
use Rattle.ext_available.specs.declared.offer.Offer.{Offer}
use Rattle.ext_available.specs.Reading as manifests
use Rattle.ext_installed.specs.Installed.{AreInstalled}
use Rattle.ext_installed.specs.Instance.{HasInstance}
use Rattle.ext_installed.specs.declared.instance.Instance.{Instance}
use Rattle.ext_installed.specs.declared.instance.Instances.{Instances}
use Rattle.ext_resources.specs.declared.resource.Resource.{Resource}
use Rattle.ext_resources.specs.declared.resource_err.ResourceErr.{ResourceErr}
use Rattle.ext_resources.specs.Resources.{AreResources, IsResource}
use Rattle.ext_resources.specs.Told.{TellsResources}
use Rattle.ext_resources.specs.Wanted.{AreListed, has_instance}

-- where the depot tells its files, it tells one thing of the resources: one list of them, or one error
abbrev pub OneTaken : Type 0
OneTaken =
    (files : Files) (transfers : List Transfer) (sources : List (List Offer)) (items : List Instance) (version : List ℕ)
    (a b : Result (List Resource) ResourceErr)
    → TellsResources (Some files) transfers sources items version a → TellsResources (Some files) transfers sources items version b → a ≡ b

-- offers that manifests tell are listed, those of each transfer by one of them
abbrev pub ToldAreListed : Type 0
ToldAreListed =
    (files : Option Files) (transfers : List Transfer) (sources : List (List Offer))
    → manifests.AreTold files transfers (Ok sources) → AllZip AreListed transfers sources

-- among the instances that a tree has of transfers there is one of the version for the transfer at a place exactly where the tree
-- has one
abbrev pub HasWhatTheTreeHas : Type 0 → Type 0
HasWhatTheTreeHas C =
    (es : Entries C) (transfers : List Transfer) (found : Instances) (version : List ℕ) (place : ℕ) (transfer : Transfer)
    → AreInstalled es transfers found → slice_get transfers place ≡ Some transfer
    → (has_instance found.items version place ≡ true) ↔ HasInstance es version transfer

-- a resource is taken for the transfer at a place
abbrev pub IsTakenFor : ℕ → List Resource → Type 0
IsTakenFor place resources = (resource : Resource) × Contains resources resource × (resource.transfer ≡ place)

-- a transfer has an instance of the version, or a resource is taken for it, and never both
abbrev pub InstanceOrResource : Type 0
InstanceOrResource =
    (transfers : List Transfer) (sources : List (List Offer)) (items : List Instance) (version : List ℕ) (resources : List Resource)
    (place : ℕ) → AreResources transfers sources items version resources → place < length transfers
    → MatchBool (has_instance items version place) (¬ IsTakenFor place resources) (IsTakenFor place resources)

-- no two are taken for one transfer: they stand in the order of the transfers
abbrev pub PlacesAscend : Type 0
PlacesAscend =
    (transfers : List Transfer) (sources : List (List Offer)) (items : List Instance) (version : List ℕ) (resources : List Resource)
    → AreResources transfers sources items version resources
    → IsStrictlyIncreasing (map (λ (resource : Resource). resource.transfer) resources)

-- the name of a resource is read as its version by the target's patterns: what is written under it is an instance
abbrev pub NameIsReadBack : Type 0
NameIsReadBack =
    (transfers : List Transfer) (sources : List (List Offer)) (version : List ℕ) (resource : Resource) (transfer : Transfer)
    → AllZip AreListed transfers sources → IsResource transfers sources version resource
    → slice_get transfers resource.transfer ≡ Some transfer
    → (caught : Option (List ℕ)) × IsFirstMatch transfer.target.patterns resource.name version caught
