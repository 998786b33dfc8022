-- The features of a component, after sysupdate.features(5): each feature file that counts says whether one is on. Which file is the
-- first faulty one, and the order of the features, is this project's own.
use Rattle.std.specs.Prelude.{◌≡◌, ℕ, Bool, List, ◌++◌, codes, Option, Result, Ok, Err}
use Rattle.ext_tree.specs.Tree.{Entries}
use Rattle.ext_host.specs.Held.{HeldFile}
use Rattle.ext_host.specs.Planning.{content_size}
use Rattle.ext_host.specs.Shelf.{Told}
use Rattle.ext_find.specs.HostRelease.{ShelfFault}
use Rattle.ext_transfer.specs.Feature.{feature_of}
use Rattle.ext_transfer.specs.declared.feature.FeatureErr.TheVariants as unread
use Rattle.ext_transfer.specs.declared.feature.FeatureFault.{FeatureFault}
use Rattle.ext_configs.specs.Configs.{IsConfig}
use Rattle.ext_configs.specs.declared.kind.ConfigKind.TheVariants as kinds
use Rattle.ext_feature.specs.Files.{AreFromFiles, IsFirstBadFile}
use Rattle.ext_feature.specs.declared.errors.FeaturesErr.{FeaturesErr}
use Rattle.ext_feature.specs.declared.errors.FeaturesErr.TheVariants as errors
use Rattle.ext_feature.specs.declared.feature.Feature.{Feature}

-- the name of the file of a feature
abbrev pub feature_file : List ℕ → List ℕ
feature_file name = name ++ codes ".feature"

-- the bytes of its file say of this feature whether it is on
abbrev pub SaysFeature : Feature → List ℕ → Type 0
SaysFeature feature bytes = feature_of bytes ≡ Ok feature.on

-- the features of a component, in byte order of their names, which isn't that of the names of their files
abbrev pub AreFeaturesOf : (HeldFile → Told) → Entries HeldFile → Option (List ℕ) → List Feature → Type 0
AreFeaturesOf told es component features =
    AreFromFiles told es component kinds.Feature (λ feature. feature.name) (λ feature. feature_file feature.name) SaysFeature features

-- bytes of a feature file without a fault
abbrev pub IsSoundFeature : List ℕ → Type 0
IsSoundFeature bytes = (on : Bool) × (feature_of bytes ≡ Ok on)

-- the first feature file that is faulty, in byte order of the names of the files, with its first fault
abbrev pub IsFirstBadFeature : (HeldFile → Told) → Entries HeldFile → Option (List ℕ) → List ℕ → ℕ → FeatureFault → Type 0
IsFirstBadFeature told es component file line why =
    IsFirstBadFile told es component kinds.Feature (λ _. IsSoundFeature) (λ bytes. feature_of bytes ≡ Err (unread.BadFeature line why)) file

-- a feature file of the component that counts
abbrev pub IsFeatureFile : Entries HeldFile → Option (List ℕ) → HeldFile → Type 0
IsFeatureFile es component held = (file : List ℕ) × IsConfig content_size es component kinds.Feature file held

-- the features of a component; or the first faulty file; or that the shelf did not give one of them. The numbers count the faults
-- of the shelf before and after
abbrev pub FeaturesGive : (HeldFile → Told) → ℕ → ℕ → Entries HeldFile → Option (List ℕ) → Result (List Feature) FeaturesErr → Type 0
FeaturesGive told old new es component (Ok features) = AreFeaturesOf told es component features
FeaturesGive told old new es component (Err errors.OutOfMemory) = Unit {0}
FeaturesGive told old new es component (Err (errors.BadFeature file line why)) = IsFirstBadFeature told es component file line why
FeaturesGive told old new es component (Err (errors.Shelf e)) =
    (held : HeldFile) × IsFeatureFile es component held × ShelfFault old new (told held) held e
