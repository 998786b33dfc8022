-- The laws of features and of transfers that are on.
use Rattle.std.specs.Prelude.{◌≡◌, ℕ, List, [], Option, Result, Ok, Err}
use Rattle.ext_text.specs.declared.arch.Arch.{Arch}
use Rattle.ext_tree.specs.Tree.{Entries}
use Rattle.ext_host.specs.Held.{HeldFile}
use Rattle.ext_host.specs.Shelf.{Told}
use Rattle.ext_find.specs.HostRelease.{IsGiven}
use Rattle.ext_transfer.specs.declared.transfer.Transfer.{Transfer}
use Rattle.ext_configs.specs.declared.kind.ConfigKind.TheVariants as kinds
use Rattle.ext_feature.specs.Active.{ActiveGives, AreTransfersOf, IsReleaseOfHost, ReleaseOfHost, SaysTransfer}
use Rattle.ext_feature.specs.Features.{FeaturesGive}
use Rattle.ext_feature.specs.Files.{FileHas}
use Rattle.ext_feature.specs.declared.errors.ActiveErr.{ActiveErr}
use Rattle.ext_feature.specs.declared.errors.ActiveErr.TheVariants as active_errors
use Rattle.ext_feature.specs.declared.errors.FeaturesErr.{FeaturesErr}
use Rattle.ext_feature.specs.declared.errors.FeaturesErr.TheVariants as features_errors
use Rattle.ext_feature.specs.declared.feature.Feature.{Feature}

-- a shelf gives one text of each file
abbrev pub GivesOneText : (HeldFile → Told) → Type 0
GivesOneText told = (held : HeldFile) (a b : List ℕ) → IsGiven (told held) held a → IsGiven (told held) held b → a ≡ b

-- features, or a fault of a file: neither want of memory nor an error of the shelf
abbrev pub AreFromText : Result (List Feature) FeaturesErr → Type 0
AreFromText (Ok features) = Unit {0}
AreFromText (Err features_errors.OutOfMemory) = ⊥
AreFromText (Err (features_errors.BadFeature file line why)) = Unit {0}
AreFromText (Err (features_errors.Shelf e)) = ⊥

-- a component has one answer: its features, or one first fault
abbrev pub OneFeatures : Type 0
OneFeatures =
    (told : HeldFile → Told) (old new other_old other_new : ℕ) (es : Entries HeldFile) (component : Option (List ℕ))
    (a b : Result (List Feature) FeaturesErr)
    → GivesOneText told
    → AreFromText a
    → AreFromText b
    → FeaturesGive told old new es component a
    → FeaturesGive told other_old other_new es component b
    → a ≡ b

-- transfers, or what is wrong with the files: neither want of memory nor an error of the shelf
abbrev pub IsFromText : Result (List Transfer) ActiveErr → Type 0
IsFromText (Ok on) = Unit {0}
IsFromText (Err active_errors.OutOfMemory) = ⊥
IsFromText (Err (active_errors.BadFeature file line why)) = Unit {0}
IsFromText (Err (active_errors.BadHostRelease line)) = Unit {0}
IsFromText (Err active_errors.NoTransfers) = Unit {0}
IsFromText (Err (active_errors.BadTransfer file line why)) = Unit {0}
IsFromText (Err active_errors.NoneOn) = Unit {0}
IsFromText (Err (active_errors.Shelf e)) = ⊥

-- a component has one answer: the transfers that are on, or what is wrong first
abbrev pub OneActive : Type 0
OneActive =
    (told : HeldFile → Told) (old new other_old other_new : ℕ) (es : Entries HeldFile) (arch : Arch) (component : Option (List ℕ))
    (a b : Result (List Transfer) ActiveErr)
    → GivesOneText told
    → IsFromText a
    → IsFromText b
    → ActiveGives told old new es arch component a
    → ActiveGives told other_old other_new es arch component b
    → a ≡ b

-- no transfer of the component names a feature
abbrev pub NamesNoFeature : (HeldFile → Told) → Entries HeldFile → Arch → Option (List ℕ) → Type 0
NamesNoFeature told es arch component =
    (host : ReleaseOfHost) (transfer : Transfer)
    → IsReleaseOfHost told es host
    → FileHas told es component kinds.Transfer transfer.file (SaysTransfer arch host transfer)
    → (transfer.features ≡ []) × (transfer.requisite ≡ [])

-- then all transfers are on
abbrev pub AllAreOn : Type 0
AllAreOn =
    (told : HeldFile → Told) (old new : ℕ) (es : Entries HeldFile) (arch : Arch) (component : Option (List ℕ)) (on : List Transfer)
    → NamesNoFeature told es arch component
    → ActiveGives told old new es arch component (Ok on)
    → (host : ReleaseOfHost) × IsReleaseOfHost told es host × AreTransfersOf told es arch host component on

-- and it isn't said that none is
abbrev pub SomeAreOn : Type 0
SomeAreOn =
    (told : HeldFile → Told) (old new : ℕ) (es : Entries HeldFile) (arch : Arch) (component : Option (List ℕ))
    → NamesNoFeature told es arch component
    → ¬ ActiveGives told old new es arch component (Err active_errors.NoneOn)
