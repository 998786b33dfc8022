-- What the code finds out, step by step.
use Rattle.std.specs.Prelude.{◌≡◌, ℕ, ◌<◌, List, [], length, map, Result, Ok, Err}
use Rattle.std.specs.Prelude.{Option}
use Rattle.std.specs.List.{filter}
use Rattle.std.specs.List.Sorted.{IsPermutation, IsSortedByKey, IsStrictlySortedBy}
use Rattle.ext_lines.specs.ByteOrder.{bytes_cmp}
use Rattle.ext_text.specs.declared.arch.Arch.{Arch}
use Rattle.ext_tree.specs.Tree.{Entries}
use Rattle.ext_host.specs.Held.{HeldFile}
use Rattle.ext_host.specs.Shelf.{Told}
use Rattle.ext_find.specs.HostRelease.{ShelfFault}
use Rattle.ext_release.specs.Release.{IsFirstFault}
use Rattle.ext_transfer.specs.declared.transfer.Transfer.{Transfer}
use Rattle.ext_configs.specs.declared.kind.ConfigKind.TheVariants as kinds
use Rattle.ext_feature.specs.Active.{AreTransfersOf, IsBasis, IsFirstBadTransfer, IsUpdateFile, ReleaseFileHas, ReleaseOfHost}
use Rattle.ext_feature.specs.Chosen.{is_on}
use Rattle.ext_feature.specs.Features.{AreFeaturesOf, IsFirstBadFeature}
use Rattle.ext_feature.specs.Files.{HasNone}
use Rattle.ext_feature.specs.declared.basis.Basis.{Basis}
use Rattle.ext_feature.specs.declared.errors.ActiveErr.{ActiveErr}
use Rattle.ext_feature.specs.declared.errors.ActiveErr.TheVariants as errors
use Rattle.ext_feature.specs.declared.feature.Feature.{Feature}

-- the same features, in byte order of their names
pub record IsInNameOrder (features ordered : List Feature) : Type 0 where
  pub permutation : IsPermutation features ordered
  pub sorted : IsSortedByKey (λ feature. feature.name) bytes_cmp ordered

-- in byte order of their names, each name once
abbrev pub AreSorted : List Feature → Type 0
AreSorted features = IsStrictlySortedBy bytes_cmp (map (λ feature. feature.name) features)

-- what the transfers of a component are read and chosen by, or why that isn't known
abbrev pub GivesBasis : (HeldFile → Told) → ℕ → ℕ → Entries HeldFile → Arch → Option (List ℕ) → Result Basis ActiveErr → Type 0
GivesBasis told old new es arch component (Ok basis) = IsBasis told es component basis.features basis.host × (basis.arch ≡ arch)
GivesBasis told old new es arch component (Err errors.OutOfMemory) = Unit {0}
GivesBasis told old new es arch component (Err (errors.BadFeature file line why)) = IsFirstBadFeature told es component file line why
GivesBasis told old new es arch component (Err (errors.BadHostRelease line)) =
    (features : List Feature) × AreFeaturesOf told es component features × ReleaseFileHas told es (λ bytes. IsFirstFault bytes line)
GivesBasis told old new es arch component (Err (errors.Shelf e)) =
    (held : HeldFile) × IsUpdateFile es component held × ShelfFault old new (told held) held e
GivesBasis told old new es arch component (Err e) = ⊥

-- the transfers of a component, one at least, or why they aren't known
abbrev pub TransfersGive : (HeldFile → Told) → ℕ → ℕ → Entries HeldFile → Arch → ReleaseOfHost → Option (List ℕ)
    → Result (List Transfer) ActiveErr → Type 0
TransfersGive told old new es arch host component (Ok transfers) =
    AreTransfersOf told es arch host component transfers × (0 < length transfers)
TransfersGive told old new es arch host component (Err errors.OutOfMemory) = Unit {0}
TransfersGive told old new es arch host component (Err errors.NoTransfers) = HasNone es component kinds.Transfer
TransfersGive told old new es arch host component (Err (errors.BadTransfer file line why)) =
    IsFirstBadTransfer told es arch host component file line why
TransfersGive told old new es arch host component (Err (errors.Shelf e)) =
    (held : HeldFile) × IsUpdateFile es component held × ShelfFault old new (told held) held e
TransfersGive told old new es arch host component (Err e) = ⊥

-- the transfers that are on, or that none is
abbrev pub Chooses : List Feature → List Transfer → Result (List Transfer) ActiveErr → Type 0
Chooses features transfers (Ok on) = (on ≡ filter (is_on features) transfers) × (0 < length on)
Chooses features transfers (Err errors.NoneOn) = filter (is_on features) transfers ≡ []
Chooses features transfers (Err e) = ⊥
