-- The transfers of a component that are on, after sysupdate.d(5). What is told first where several things are wrong is this
-- project's own.
use Rattle.std.specs.Prelude.{◌≡◌, ◌⊎◌, ℕ, ◌<◌, List, [], length, Option, Some, None, Result, Ok, Err}
use Rattle.std.specs.FinMap.{FinMap}
use Rattle.std.specs.List.{filter}
use Rattle.ext_lines.specs.ByteOrder.{bytes_cmp}
use Rattle.ext_text.specs.declared.arch.Arch.{Arch}
use Rattle.ext_tree.specs.Tree.{Entries}
use Rattle.ext_host.specs.Held.{HeldFile}
use Rattle.ext_host.specs.Planning.{content_size}
use Rattle.ext_host.specs.Shelf.{Told}
use Rattle.ext_release.specs.Release.{IsFirstFault, IsRelease}
use Rattle.ext_find.specs.HostRelease.{IsReleaseFile, ReleaseFileAt, ShelfFault}
use Rattle.ext_transfer.specs.Transfer.{transfer_of}
use Rattle.ext_transfer.specs.declared.err.TransferErr.TheVariants as unread
use Rattle.ext_transfer.specs.declared.err.TransferFault.{TransferFault}
use Rattle.ext_transfer.specs.declared.transfer.Transfer.{Transfer}
use Rattle.ext_configs.specs.Configs.{IsConfig}
use Rattle.ext_configs.specs.declared.kind.ConfigKind.TheVariants as kinds
use Rattle.ext_feature.specs.Chosen.{is_on}
use Rattle.ext_feature.specs.Features.{AreFeaturesOf, IsFeatureFile, IsFirstBadFeature}
use Rattle.ext_feature.specs.Files.{AreFromFiles, HasNone, IsFirstBadFile, IsGivenWith}
use Rattle.ext_feature.specs.declared.errors.ActiveErr.{ActiveErr}
use Rattle.ext_feature.specs.declared.errors.ActiveErr.TheVariants as errors
use Rattle.ext_feature.specs.declared.feature.Feature.{Feature}

-- what the release file of a host assigns, if it has one
abbrev pub ReleaseOfHost : Type 0
ReleaseOfHost = Option (FinMap bytes_cmp (List ℕ))

-- the bytes of the host's release file have P
pub record ReleaseFileHas (told : HeldFile → Told) (es : Entries HeldFile) (P : List ℕ → Type 0) : Type 0 where
  pub held : HeldFile
  pub is_file : IsReleaseFile es held
  pub given : IsGivenWith told held P

-- what the release file assigns; nothing exactly where the host has none
abbrev pub IsReleaseOfHost : (HeldFile → Told) → Entries HeldFile → ReleaseOfHost → Type 0
IsReleaseOfHost told es None = ReleaseFileAt es None
IsReleaseOfHost told es (Some release) = ReleaseFileHas told es (λ bytes. IsRelease bytes release)

-- what transfers are read and chosen by: the features of the component, and the host's release
pub record IsBasis (told : HeldFile → Told) (es : Entries HeldFile) (component : Option (List ℕ)) (features : List Feature)
    (host : ReleaseOfHost) : Type 0 where
  pub are_features : AreFeaturesOf told es component features
  pub is_release : IsReleaseOfHost told es host

-- the bytes of its file say this transfer, on a host of this release and architecture
abbrev pub SaysTransfer : Arch → ReleaseOfHost → Transfer → List ℕ → Type 0
SaysTransfer arch host transfer bytes = transfer_of transfer.file bytes host arch ≡ Ok transfer

-- the transfers of a component, in byte order of the names of their files
abbrev pub AreTransfersOf : (HeldFile → Told) → Entries HeldFile → Arch → ReleaseOfHost → Option (List ℕ) → List Transfer → Type 0
AreTransfersOf told es arch host component transfers =
    AreFromFiles told es component kinds.Transfer (λ transfer. transfer.file) (λ transfer. transfer.file) (SaysTransfer arch host) transfers

-- bytes of a transfer file of this name without a fault
abbrev pub IsSoundTransfer : Arch → ReleaseOfHost → List ℕ → List ℕ → Type 0
IsSoundTransfer arch host file bytes = (transfer : Transfer) × (transfer_of file bytes host arch ≡ Ok transfer)

-- the first transfer file that is faulty, in byte order of the names of the files, with its first fault
abbrev pub IsFirstBadTransfer : (HeldFile → Told) → Entries HeldFile → Arch → ReleaseOfHost → Option (List ℕ)
    → List ℕ → ℕ → TransferFault → Type 0
IsFirstBadTransfer told es arch host component file line why =
    IsFirstBadFile told es component kinds.Transfer (IsSoundTransfer arch host)
    (λ bytes. transfer_of file bytes host arch ≡ Err (unread.BadTransfer line why)) file

-- these are the transfers of the component, and those of them that are on
pub record AreChosen (told : HeldFile → Told) (es : Entries HeldFile) (arch : Arch) (component : Option (List ℕ))
    (transfers on : List Transfer) : Type 0 where
  pub features : List Feature
  pub host : ReleaseOfHost
  pub basis : IsBasis told es component features host
  pub are_transfers : AreTransfersOf told es arch host component transfers
  pub are_on : on ≡ filter (is_on features) transfers

-- a file that is read: a feature file or a transfer file of the component that counts, or the host's release file
abbrev pub IsUpdateFile : Entries HeldFile → Option (List ℕ) → HeldFile → Type 0
IsUpdateFile es component held =
    IsFeatureFile es component held
    ⊎ (IsReleaseFile es held ⊎ ((file : List ℕ) × IsConfig content_size es component kinds.Transfer file held))

-- the transfers that are on, one at least; or the first of these: a faulty feature file, a faulty release file of the host, no
-- transfer file, a faulty one, no transfer that is on; or that the shelf did not give a file that is read
abbrev pub ActiveGives : (HeldFile → Told) → ℕ → ℕ → Entries HeldFile → Arch → Option (List ℕ) → Result (List Transfer) ActiveErr → Type 0
ActiveGives told old new es arch component (Ok on) =
    (transfers : List Transfer) × AreChosen told es arch component transfers on × (0 < length on)
ActiveGives told old new es arch component (Err errors.OutOfMemory) = Unit {0}
ActiveGives told old new es arch component (Err (errors.BadFeature file line why)) = IsFirstBadFeature told es component file line why
ActiveGives told old new es arch component (Err (errors.BadHostRelease line)) =
    (features : List Feature) × AreFeaturesOf told es component features × ReleaseFileHas told es (λ bytes. IsFirstFault bytes line)
ActiveGives told old new es arch component (Err errors.NoTransfers) =
    (features : List Feature) × (host : ReleaseOfHost) × IsBasis told es component features host × HasNone es component kinds.Transfer
ActiveGives told old new es arch component (Err (errors.BadTransfer file line why)) =
    (features : List Feature) × (host : ReleaseOfHost) × IsBasis told es component features host
    × IsFirstBadTransfer told es arch host component file line why
ActiveGives told old new es arch component (Err errors.NoneOn) =
    (transfers : List Transfer) × AreChosen told es arch component transfers [] × (0 < length transfers)
ActiveGives told old new es arch component (Err (errors.Shelf e)) =
    (held : HeldFile) × IsUpdateFile es component held × ShelfFault old new (told held) held e
