-- What the code reads, file by file, in byte order of the names of the files.
use Rattle.std.specs.Prelude.{◌≡◌, ℕ, false, List, ◌∷◌, ◌++◌, IsTrue, Bool, Result, Ok, Err}
use Rattle.std.specs.List.{AllByRecursion, AllZip, Contains}
use Rattle.ext_text.specs.declared.arch.Arch.{Arch}
use Rattle.ext_host.specs.Held.{HeldFile}
use Rattle.ext_host.specs.Shelf.{Told}
use Rattle.ext_host.specs.declared.shelf.ShelfErr.{ShelfErr}
use Rattle.ext_find.specs.Ending.{is_hidden}
use Rattle.ext_find.specs.HostRelease.{ShelfFault}
use Rattle.ext_transfer.specs.Feature.{feature_of}
use Rattle.ext_transfer.specs.Transfer.{transfer_of}
use Rattle.ext_transfer.specs.declared.err.TransferErr.TheVariants as unread_transfer
use Rattle.ext_transfer.specs.declared.feature.FeatureErr.TheVariants as unread_feature
use Rattle.ext_transfer.specs.declared.transfer.Transfer.{Transfer}
use Rattle.ext_configs.specs.declared.files.ConfigFile.{ConfigFile}
use Rattle.ext_feature.specs.Active.{IsSoundTransfer, ReleaseOfHost, SaysTransfer}
use Rattle.ext_feature.specs.Features.{IsSoundFeature, SaysFeature, feature_file}
use Rattle.ext_feature.specs.Files.{IsGivenWith}
use Rattle.ext_feature.specs.declared.errors.ActiveErr.{ActiveErr}
use Rattle.ext_feature.specs.declared.errors.ActiveErr.TheVariants as active_errors
use Rattle.ext_feature.specs.declared.errors.FeaturesErr.{FeaturesErr}
use Rattle.ext_feature.specs.declared.errors.FeaturesErr.TheVariants as features_errors
use Rattle.ext_feature.specs.declared.feature.Feature.{Feature}

-- the name of a file of a feature, which doesn't begin with a dot
pub record IsFeatureName (file : List ℕ) : Type 0 where
  pub name : List ℕ
  pub is_file : file ≡ feature_file name
  pub shown : is_hidden file ≡ false

-- each of the files is served
abbrev pub AreServed : (HeldFile → Bool) → List (ConfigFile HeldFile) → Type 0
AreServed serves files = AllByRecursion (λ file. IsTrue (serves file.content.now)) files

-- the file is that of x, and its bytes say x
pub record FileSays {X : Type 0} (told : HeldFile → Told) (name_of : X → List ℕ) (Says : X → List ℕ → Type 0)
    (file : ConfigFile HeldFile) (x : X) : Type 0 where
  pub name : file.name ≡ name_of x
  pub given : IsGivenWith told file.content.now (Says x)

-- the bytes of the file of this name, one of these, have P, and those of each before it are sound
pub record IsFirstBadOf (told : HeldFile → Told) (Sound : List ℕ → List ℕ → Type 0) (P : List ℕ → Type 0)
    (files : List (ConfigFile HeldFile)) (name : List ℕ) : Type 0 where
  pub before : List (ConfigFile HeldFile)
  pub file : ConfigFile HeldFile
  pub after : List (ConfigFile HeldFile)
  pub among : files ≡ before ++ file ∷ after
  pub name_is : file.name ≡ name
  pub bad : IsGivenWith told file.content.now P
  pub sound : AllByRecursion (λ other. IsGivenWith told other.content.now (Sound other.name)) before

-- the shelf failed at one of the files
pub record ShelfFailsIn (told : HeldFile → Told) (old new : ℕ) (files : List (ConfigFile HeldFile)) (e : ShelfErr) : Type 0 where
  pub file : ConfigFile HeldFile
  pub among : Contains files file
  pub fault : ShelfFault old new (told file.content.now) file.content.now e

-- the feature that a file of this name and these bytes says, or its first fault
abbrev pub ReadsFeatureText : List ℕ → List ℕ → Result Feature FeaturesErr → Type 0
ReadsFeatureText file bytes (Ok feature) = (file ≡ feature_file feature.name) × SaysFeature feature bytes
ReadsFeatureText file bytes (Err features_errors.OutOfMemory) = Unit {0}
ReadsFeatureText file bytes (Err (features_errors.BadFeature name line why)) =
    (file ≡ name) × (feature_of bytes ≡ Err (unread_feature.BadFeature line why))
ReadsFeatureText file bytes (Err (features_errors.Shelf e)) = ⊥

-- the feature of one file, or its first fault
abbrev pub ReadsFeature : (HeldFile → Told) → ℕ → ℕ → ConfigFile HeldFile → Result Feature FeaturesErr → Type 0
ReadsFeature told old new file (Ok feature) = FileSays told (λ feature. feature_file feature.name) SaysFeature file feature
ReadsFeature told old new file (Err features_errors.OutOfMemory) = Unit {0}
ReadsFeature told old new file (Err (features_errors.BadFeature name line why)) =
    (file.name ≡ name) × IsGivenWith told file.content.now (λ bytes. feature_of bytes ≡ Err (unread_feature.BadFeature line why))
ReadsFeature told old new file (Err (features_errors.Shelf e)) = ShelfFault old new (told file.content.now) file.content.now e

-- the features of all files, in their order, or the first fault
abbrev pub ReadsFeatures : (HeldFile → Told) → ℕ → ℕ → List (ConfigFile HeldFile) → Result (List Feature) FeaturesErr → Type 0
ReadsFeatures told old new files (Ok features) = AllZip (FileSays told (λ feature. feature_file feature.name) SaysFeature) files features
ReadsFeatures told old new files (Err features_errors.OutOfMemory) = Unit {0}
ReadsFeatures told old new files (Err (features_errors.BadFeature name line why)) =
    IsFirstBadOf told (λ _. IsSoundFeature) (λ bytes. feature_of bytes ≡ Err (unread_feature.BadFeature line why)) files name
ReadsFeatures told old new files (Err (features_errors.Shelf e)) = ShelfFailsIn told old new files e

-- the transfer that a file of this name and these bytes says on a host, or its first fault
abbrev pub ReadsTransferText : Arch → ReleaseOfHost → List ℕ → List ℕ → Result Transfer ActiveErr → Type 0
ReadsTransferText arch host file bytes (Ok transfer) = (file ≡ transfer.file) × SaysTransfer arch host transfer bytes
ReadsTransferText arch host file bytes (Err active_errors.OutOfMemory) = Unit {0}
ReadsTransferText arch host file bytes (Err (active_errors.BadTransfer name line why)) =
    (file ≡ name) × (transfer_of name bytes host arch ≡ Err (unread_transfer.BadTransfer line why))
ReadsTransferText arch host file bytes (Err e) = ⊥

-- the transfer of one file on a host, or its first fault
abbrev pub ReadsTransferFile : (HeldFile → Told) → ℕ → ℕ → Arch → ReleaseOfHost → ConfigFile HeldFile → Result Transfer ActiveErr → Type 0
ReadsTransferFile told old new arch host file (Ok transfer) =
    FileSays told (λ transfer. transfer.file) (SaysTransfer arch host) file transfer
ReadsTransferFile told old new arch host file (Err active_errors.OutOfMemory) = Unit {0}
ReadsTransferFile told old new arch host file (Err (active_errors.BadTransfer name line why)) =
    (file.name ≡ name)
    × IsGivenWith told file.content.now (λ bytes. transfer_of name bytes host arch ≡ Err (unread_transfer.BadTransfer line why))
ReadsTransferFile told old new arch host file (Err (active_errors.Shelf e)) = ShelfFault old new (told file.content.now) file.content.now e
ReadsTransferFile told old new arch host file (Err e) = ⊥

-- the transfers of all files, in their order, or the first fault
abbrev pub ReadsTransfers : (HeldFile → Told) → ℕ → ℕ → Arch → ReleaseOfHost → List (ConfigFile HeldFile)
    → Result (List Transfer) ActiveErr → Type 0
ReadsTransfers told old new arch host files (Ok transfers) =
    AllZip (FileSays told (λ transfer. transfer.file) (SaysTransfer arch host)) files transfers
ReadsTransfers told old new arch host files (Err active_errors.OutOfMemory) = Unit {0}
ReadsTransfers told old new arch host files (Err (active_errors.BadTransfer name line why)) =
    IsFirstBadOf told (IsSoundTransfer arch host) (λ bytes. transfer_of name bytes host arch ≡ Err (unread_transfer.BadTransfer line why))
    files name
ReadsTransfers told old new arch host files (Err (active_errors.Shelf e)) = ShelfFailsIn told old new files e
ReadsTransfers told old new arch host files (Err e) = ⊥
