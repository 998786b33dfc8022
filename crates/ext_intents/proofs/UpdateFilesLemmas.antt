-- The files that are read for updates are files of the host, and what they say rests on what is told of these alone.
use Rattle.std.proofs.Common.{ℕ, List, [], Option, Some, None, Result, Ok, Err, inl, inr, subst}
use Rattle.ext_text.specs.declared.arch.Arch.{Arch}
use Rattle.ext_tree.specs.Tree.{Entries}
use Rattle.ext_host.specs.Drawn.{IsFileOf, trees_of}
use Rattle.ext_host.specs.Held.{HeldFile}
use Rattle.ext_host.specs.Planning.{IsBaseTree, content_size}
use Rattle.ext_host.specs.Shelf.{Told}
use Rattle.ext_host.specs.declared.host.Host.{Host}
use Rattle.ext_host.specs.declared.shelf.ShelfErr.{ShelfErr}
use Rattle.ext_find.specs.HostRelease.{IsGiven, ShelfFault}
use Rattle.ext_transfer.specs.declared.transfer.Transfer.{Transfer}
use Rattle.ext_configs.specs.Configs.{IsConfig}
use Rattle.ext_configs.specs.declared.kind.ConfigKind.{ConfigKind}
use Rattle.ext_configs.specs.declared.kind.ConfigKind.TheVariants as kinds
use Rattle.ext_feature.specs.Active.{ActiveGives, AreChosen, IsBasis, IsReleaseOfHost, IsUpdateFile, ReleaseFileHas, ReleaseOfHost, SaysTransfer}
use Rattle.ext_feature.specs.Features.{FeaturesGive, IsFeatureFile, SaysFeature}
use Rattle.ext_feature.specs.Files.{AreFromFiles, FileHas, IsFirstBadFile, IsGivenWith}
use Rattle.ext_feature.specs.declared.errors.ActiveErr.{ActiveErr}
use Rattle.ext_feature.specs.declared.errors.ActiveErr.TheVariants as inactive
use Rattle.ext_feature.specs.declared.errors.FeaturesErr.{FeaturesErr}
use Rattle.ext_feature.specs.declared.errors.FeaturesErr.TheVariants as unfeatured
use Rattle.ext_feature.specs.declared.feature.Feature.{Feature}
use Rattle.ext_intents.specs.Step.{TellAlike}
use Rattle.ext_intents.proofs.ViewFilesLemmas.{base_file, host_file}

module _ (host : Host) (base : Entries HeldFile) (is : IsBaseTree host base) (component : Option (List ℕ)) where
  config_file : (kind : ConfigKind) (file : List ℕ) (held : HeldFile) → IsConfig content_size base component kind file held → IsFileOf (trees_of host) held
  config_file kind file held config =
      let leads = config.leads in
      base_file host base leads.0 leads.1 held is leads.3

  pub feature_is_file : (held : HeldFile) → IsFeatureFile base component held → IsFileOf (trees_of host) held
  feature_is_file held (file, config) = config_file kinds.Feature file held config

  pub update_is_file : (held : HeldFile) → IsUpdateFile base component held → IsFileOf (trees_of host) held
  update_is_file held (inl feature) = feature_is_file held feature
  update_is_file held (inr (inl release)) = host_file host base held is release
  update_is_file held (inr (inr (file, config))) = config_file kinds.Transfer file held config

  module _ (told other : HeldFile → Told) (alike : TellAlike host told other) where
    given_alike : (held : HeldFile) (P : List ℕ → Type 0) → IsFileOf (trees_of host) held → IsGivenWith told held P → IsGivenWith other held P
    given_alike held P file given = record { bytes = given.bytes; given = subst (λ t. IsGiven t held given.bytes) (alike held file) given.given; has = given.has }

    fault_alike : (held : HeldFile) (old new : ℕ) (e : ShelfErr) → IsFileOf (trees_of host) held → ShelfFault old new (told held) held e → ShelfFault old new (other held) held e
    fault_alike held old new e file fault = subst (λ t. ShelfFault old new t held e) (alike held file) fault

    file_alike : (kind : ConfigKind) (file : List ℕ) (P : List ℕ → Type 0) → FileHas told base component kind file P → FileHas other base component kind file P
    file_alike kind file P has = record { held = has.held; counts = has.counts; given = given_alike has.held P (config_file kind file has.held has.counts) has.given }

    all_alike : {X : Type 0} (kind : ConfigKind) (name file : X → List ℕ) (Says : X → List ℕ → Type 0) (xs : List X) → AreFromFiles told base component kind name file Says xs → AreFromFiles other base component kind name file Says xs
    all_alike kind name file Says xs are = record { sorted = are.sorted; each = λ x among. file_alike kind (file x) (Says x) (are.each x among); whole = are.whole }

    first_alike : (kind : ConfigKind) (Sound : List ℕ → List ℕ → Type 0) (P : List ℕ → Type 0) (file : List ℕ) → IsFirstBadFile told base component kind Sound P file → IsFirstBadFile other base component kind Sound P file
    first_alike kind Sound P file first = record {
      bad = file_alike kind file P first.bad;
      before = λ name held config less. given_alike held (Sound name) (config_file kind name held config) (first.before name held config less);
    }

    pub features_alike : (result : Result (List Feature) FeaturesErr) → FeaturesGive told 0 0 base component result → FeaturesGive other 0 0 base component result
    features_alike (Ok features) give = all_alike kinds.Feature _ _ SaysFeature features give
    features_alike (Err unfeatured.OutOfMemory) give = tt
    features_alike (Err (unfeatured.BadFeature file line why)) give = first_alike kinds.Feature _ _ file give
    features_alike (Err (unfeatured.Shelf e)) (held, file, fault) = (held, file, fault_alike held 0 0 e (feature_is_file held file) fault)

    release_alike : (P : List ℕ → Type 0) → ReleaseFileHas told base P → ReleaseFileHas other base P
    release_alike P has = record { held = has.held; is_file = has.is_file; given = given_alike has.held P (host_file host base has.held is has.is_file) has.given }

    host_alike : (release : ReleaseOfHost) → IsReleaseOfHost told base release → IsReleaseOfHost other base release
    host_alike None has = has
    host_alike (Some release) has = release_alike _ has

    basis_alike : (features : List Feature) (release : ReleaseOfHost) → IsBasis told base component features release → IsBasis other base component features release
    basis_alike features release basis = record {
      are_features = all_alike kinds.Feature _ _ SaysFeature features basis.are_features;
      is_release = host_alike release basis.is_release;
    }

    chosen_alike : (arch : Arch) (transfers on : List Transfer) → AreChosen told base arch component transfers on → AreChosen other base arch component transfers on
    chosen_alike arch transfers on are = record {
      features = are.features;
      host = are.host;
      basis = basis_alike are.features are.host are.basis;
      are_transfers = all_alike kinds.Transfer _ _ (SaysTransfer arch are.host) transfers are.are_transfers;
      are_on = are.are_on;
    }

    pub active_alike : (arch : Arch) (result : Result (List Transfer) ActiveErr) → ActiveGives told 0 0 base arch component result → ActiveGives other 0 0 base arch component result
    active_alike arch (Ok on) (transfers, are, some) = (transfers, chosen_alike arch transfers on are, some)
    active_alike arch (Err inactive.OutOfMemory) give = tt
    active_alike arch (Err (inactive.BadFeature file line why)) give = first_alike kinds.Feature _ _ file give
    active_alike arch (Err (inactive.BadHostRelease line)) (features, are, has) = (features, all_alike kinds.Feature _ _ SaysFeature features are, release_alike _ has)
    active_alike arch (Err inactive.NoTransfers) (features, release, basis, none) = (features, release, basis_alike features release basis, none)
    active_alike arch (Err (inactive.BadTransfer file line why)) (features, release, basis, first) = (features, release, basis_alike features release basis, first_alike kinds.Transfer _ _ file first)
    active_alike arch (Err inactive.NoneOn) (transfers, are, some) = (transfers, chosen_alike arch transfers [] are, some)
    active_alike arch (Err (inactive.Shelf e)) (held, file, fault) = (held, file, fault_alike held 0 0 e (update_is_file held file) fault)
