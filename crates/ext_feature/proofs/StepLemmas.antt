-- From each step of the code to the whole answer.
use Rattle.std.proofs.Common.{◌≡◌, ℕ, ◌<◌, ◌≤◌, Bool, true, false, cond, List, [], ◌∷◌, length, Some, None, Result, Ok, Err, inl, inr, sym, ap, ◌∙◌, subst, arith}
use Rattle.std.specs.Prelude.{IfOk, Option, map}
use Rattle.std.specs.List.{AllByRecursion, Contains, IsDistinct, filter}
use Rattle.std.specs.Ordering.{eq_by_cmp}
use Rattle.std.proofs.lemmas.Bool.{false_from_ne_true, true≢false}
use Rattle.std.proofs.lemmas.List.Sorted.{Contains-permutation, IsPermutation-sym}
use Rattle.std.proofs.lemmas.Map.Keys.{IsDistinct-from_sorted}
use Rattle.ext_lines.specs.ByteOrder.{bytes_cmp}
use Rattle.ext_text.specs.declared.arch.Arch.{Arch}
use Rattle.ext_text.proofs.ForCallers.{same_name, tied_name}
use Rattle.ext_tree.specs.Tree.{Entries}
use Rattle.ext_host.specs.Held.{HeldFile}
use Rattle.ext_host.specs.Planning.{content_size}
use Rattle.ext_host.specs.Shelf.{Told}
use Rattle.ext_find.specs.HostRelease.{ReadsHost}
use Rattle.ext_find.specs.declared.release.FindErr.{FindErr}
use Rattle.ext_find.specs.declared.release.FindErr.TheVariants as find_errors
use Rattle.ext_transfer.proofs.ForCallers.{transfer_bounds}
use Rattle.ext_transfer.specs.Bounds.{KeepsBounds}
use Rattle.ext_transfer.specs.Feature.{feature_of}
use Rattle.ext_transfer.specs.Transfer.{transfer_of}
use Rattle.ext_transfer.specs.declared.err.TransferErr.TheVariants as unread_transfer
use Rattle.ext_transfer.specs.declared.feature.FeatureErr.TheVariants as unread_feature
use Rattle.ext_transfer.specs.declared.transfer.Transfer.{Transfer}
use Rattle.ext_configs.specs.Configs.{AreConfigs}
use Rattle.ext_configs.specs.declared.files.ConfigFile.{ConfigFile}
use Rattle.ext_configs.specs.declared.kind.ConfigKind.TheVariants as kinds
use Rattle.ext_feature.specs.Active.{ActiveGives, IsBasis, IsReleaseOfHost, IsSoundTransfer, ReleaseOfHost, SaysTransfer}
use Rattle.ext_feature.specs.Chosen.{is_on}
use Rattle.ext_feature.specs.Errors.{of_features, of_host_release}
use Rattle.ext_feature.specs.Features.{AreFeaturesOf, FeaturesGive, IsSoundFeature, SaysFeature, feature_file}
use Rattle.ext_feature.specs.Files.{HasNone}
use Rattle.ext_feature.specs.Reading.{FileSays, ReadsFeatures, ReadsTransfers}
use Rattle.ext_feature.specs.Steps.{Chooses, GivesBasis, IsInNameOrder, TransfersGive}
use Rattle.ext_feature.specs.declared.errors.ActiveErr.{ActiveErr}
use Rattle.ext_feature.specs.declared.errors.ActiveErr.TheVariants as active_errors
use Rattle.ext_feature.specs.declared.errors.FeaturesErr.{FeaturesErr}
use Rattle.ext_feature.specs.declared.errors.FeaturesErr.TheVariants as features_errors
use Rattle.ext_feature.specs.declared.feature.Feature.{Feature}
use Rattle.ext_feature.proofs.ConfigLemmas.{counted, listed}
use Rattle.ext_feature.proofs.FaultLemmas.{fault_of_whole}
use Rattle.ext_feature.proofs.FileLemmas.{files_sorted, first_bad, from_files, says_each, says_whole}
use Rattle.ext_feature.proofs.ListLemmas.{first_in, first_or_later, holds_of_all, later_in, none_in_empty, zip_some}
use Rattle.ext_feature.proofs.OrderLemmas.{sorted_once}

apart_names : (k : List ℕ) (xs : List Feature) → AllByRecursion (λ y. eq_by_cmp bytes_cmp (feature_file k) y ≡ false) (map (λ (f : Feature). feature_file f.name) xs) → AllByRecursion (λ y. eq_by_cmp bytes_cmp k y ≡ false) (map (λ (f : Feature). f.name) xs)
apart_names k [] apart = tt
apart_names k (x ∷ xs) apart = (
  false_from_ne_true (eq_by_cmp bytes_cmp k x.name) (λ tied. true≢false (sym (tied_name (feature_file k) (feature_file x.name) (ap feature_file (same_name k x.name tied))) ∙ apart.0)),
  apart_names k xs apart.1,
)

-- the names of features differ where those of their files do
distinct_names : (xs : List Feature) → IsDistinct (eq_by_cmp bytes_cmp) (map (λ (f : Feature). feature_file f.name) xs) → IsDistinct (eq_by_cmp bytes_cmp) (map (λ (f : Feature). f.name) xs)
unfolding IsDistinct
distinct_names [] distinct = tt
distinct_names (x ∷ xs) distinct = (apart_names x.name xs distinct.0, distinct_names xs distinct.1)

module _ (told : HeldFile → Told) (old new : ℕ) (es : Entries HeldFile) (component : Option (List ℕ)) where
  module _ (files : List (ConfigFile HeldFile)) (configs : AreConfigs content_size es component kinds.Feature files) where
    -- what was read of all files, put in order
    pub features_known : (read ordered : List Feature) → ReadsFeatures told old new files (Ok read) → IsInNameOrder read ordered → AreFeaturesOf told es component ordered
    features_known read ordered reads in_order =
        let name : Feature → List ℕ = λ f. f.name in
        let file_of : Feature → List ℕ = λ f. feature_file f.name in
        let d : Feature = record { name = []; on = false } in
        record {
          sorted = sorted_once name read ordered d
              (distinct_names read (IsDistinct-from_sorted bytes_cmp (map file_of read) (files_sorted told es component kinds.Feature files configs name file_of SaysFeature read reads)))
              in_order.permutation in_order.sorted;
          each = λ x c. says_each told es component kinds.Feature files configs name file_of SaysFeature read reads x
              (Contains-permutation ordered read x (IsPermutation-sym read ordered in_order.permutation) c);
          whole = λ other held config.
              let says = says_whole told es component kinds.Feature files configs name file_of SaysFeature read reads other held config in
              (says.0, Contains-permutation read ordered says.0 in_order.permutation says.1, says.2);
        }

    -- or why they weren't read
    pub features_unknown : (e : FeaturesErr) → ReadsFeatures told old new files (Err e) → FeaturesGive told old new es component (Err e)
    features_unknown features_errors.OutOfMemory reads = tt
    features_unknown (features_errors.BadFeature file line why) reads =
        first_bad told es component kinds.Feature files configs (λ _. IsSoundFeature) (λ bytes. feature_of bytes ≡ Err (unread_feature.BadFeature line why)) file reads
    features_unknown (features_errors.Shelf e) reads =
        (reads.file.content.now, (reads.file.name, counted es component kinds.Feature files reads.file configs reads.among), reads.fault)

  module _ (arch : Arch) where
    -- without features there is no basis
    pub no_features : (e : FeaturesErr) → FeaturesGive told old new es component (Err e) → GivesBasis told old new es arch component (Err (of_features e))
    no_features features_errors.OutOfMemory gives = tt
    no_features (features_errors.BadFeature file line why) gives = gives
    no_features (features_errors.Shelf e) gives = (gives.0, inl gives.1, gives.2)

    -- nor without the host's release
    pub no_release : (mid : ℕ) (features : List Feature) (e : FindErr) → old ≤ mid → AreFeaturesOf told es component features → ReadsHost es told mid new (Err e) → GivesBasis told old new es arch component (Err (of_host_release e))
    no_release mid features find_errors.OutOfMemory le are reads = tt
    no_release mid features (find_errors.BadHostRelease line) le are reads =
        let read = reads.2 in
        (features, are, record { held = reads.0; is_file = reads.1; given = record { bytes = read.0; given = read.1; has = read.2 } })
    no_release mid features (find_errors.Shelf e) le are reads = (reads.0, inr (inl reads.1), fault_of_whole (told reads.0) old mid new reads.0 e le reads.2)

    -- without a basis no transfer is known to be on
    pub no_basis : (e : ActiveErr) → GivesBasis told old new es arch component (Err e) → ActiveGives told old new es arch component (Err e)
    no_basis active_errors.OutOfMemory gives = tt
    no_basis (active_errors.BadFeature file line why) gives = gives
    no_basis (active_errors.BadHostRelease line) gives = gives
    no_basis active_errors.NoTransfers gives = absurd gives
    no_basis (active_errors.BadTransfer file line why) gives = absurd gives
    no_basis active_errors.NoneOn gives = absurd gives
    no_basis (active_errors.Shelf e) gives = gives

    module _ (features : List Feature) (host : ReleaseOfHost) (basis : IsBasis told es component features host) where
      -- nor without transfers
      pub no_transfers : (mid : ℕ) (e : ActiveErr) → old ≤ mid → TransfersGive told mid new es arch host component (Err e) → ActiveGives told old new es arch component (Err e)
      no_transfers mid active_errors.OutOfMemory le gives = tt
      no_transfers mid (active_errors.BadFeature file line why) le gives = absurd gives
      no_transfers mid (active_errors.BadHostRelease line) le gives = absurd gives
      no_transfers mid active_errors.NoTransfers le gives = (features, host, basis, gives)
      no_transfers mid (active_errors.BadTransfer file line why) le gives = (features, host, basis, gives)
      no_transfers mid active_errors.NoneOn le gives = absurd gives
      no_transfers mid (active_errors.Shelf e) le gives = (gives.0, gives.1, fault_of_whole (told gives.0) old mid new gives.0 e le gives.2)

      -- of known transfers it is known which are on
      pub known_on : (mid later : ℕ) (transfers : List Transfer) (result : Result (List Transfer) ActiveErr) → TransfersGive told mid later es arch host component (Ok transfers) → Chooses features transfers result → ActiveGives told old new es arch component result
      known_on mid later transfers (Ok on) gives chooses =
          (transfers, record { features = features; host = host; basis = basis; are_transfers = gives.0; are_on = chooses.0 }, chooses.1)
      known_on mid later transfers (Err active_errors.OutOfMemory) gives chooses = tt
      known_on mid later transfers (Err (active_errors.BadFeature file line why)) gives chooses = absurd chooses
      known_on mid later transfers (Err (active_errors.BadHostRelease line)) gives chooses = absurd chooses
      known_on mid later transfers (Err active_errors.NoTransfers) gives chooses = absurd chooses
      known_on mid later transfers (Err (active_errors.BadTransfer file line why)) gives chooses = absurd chooses
      known_on mid later transfers (Err active_errors.NoneOn) gives chooses =
          (transfers, record { features = features; host = host; basis = basis; are_transfers = gives.0; are_on = sym chooses }, gives.1)
      known_on mid later transfers (Err (active_errors.Shelf e)) gives chooses = absurd chooses

    module _ (host : ReleaseOfHost) (files : List (ConfigFile HeldFile)) (configs : AreConfigs content_size es component kinds.Transfer files) where
      -- the transfers of all files, or why they weren't read
      pub transfers_known : 0 < length files → (result : Result (List Transfer) ActiveErr) → ReadsTransfers told old new arch host files result → TransfersGive told old new es arch host component result
      transfers_known some (Ok transfers) reads =
          let file_of : Transfer → List ℕ = λ t. t.file in (
            from_files told es component kinds.Transfer files configs file_of file_of (SaysTransfer arch host) transfers reads,
            zip_some (FileSays told file_of (SaysTransfer arch host)) files transfers reads some,
          )
      transfers_known some (Err active_errors.OutOfMemory) reads = tt
      transfers_known some (Err (active_errors.BadFeature file line why)) reads = absurd reads
      transfers_known some (Err (active_errors.BadHostRelease line)) reads = absurd reads
      transfers_known some (Err active_errors.NoTransfers) reads = absurd reads
      transfers_known some (Err (active_errors.BadTransfer file line why)) reads =
          first_bad told es component kinds.Transfer files configs (IsSoundTransfer arch host) (λ bytes. transfer_of file bytes host arch ≡ Err (unread_transfer.BadTransfer line why)) file reads
      transfers_known some (Err active_errors.NoneOn) reads = absurd reads
      transfers_known some (Err (active_errors.Shelf e)) reads =
          (reads.file.content.now, inr (inr (reads.file.name, counted es component kinds.Transfer files reads.file configs reads.among)), reads.fault)

-- the release of the host, as it was read
pub release_known : (told : HeldFile → Told) (old new : ℕ) (es : Entries HeldFile) (host : ReleaseOfHost) → ReadsHost es told old new (Ok host) → IsReleaseOfHost told es host
release_known told old new es None reads = reads
release_known told old new es (Some release) reads =
    let read = reads.2 in
    record { held = reads.0; is_file = reads.1; given = record { bytes = read.0; given = read.1; has = read.2 } }

-- without files none counts
pub none_counts : (es : Entries HeldFile) (component : Option (List ℕ)) (files : List (ConfigFile HeldFile)) → length files ≡ 0 → AreConfigs content_size es component kinds.Transfer files → HasNone es component kinds.Transfer
none_counts es component [] empty configs file held config =
    let has = listed es component kinds.Transfer [] file held configs config in
    none_in_empty has.file has.among
none_counts es component (f ∷ files) empty configs file held config = absurd (omega arith)

-- what a filter keeps was there
filter_from : (p : Transfer → Bool) (ts : List Transfer) (t : Transfer) → Contains (filter p ts) t → Contains ts t
filter_from p [] t c = c
filter_from p (u ∷ ts) t c =
    elim (p u) as (λ b. Contains (cond b (u ∷ filter p ts) (filter p ts)) t → Contains (u ∷ ts) t) [
      | true ↦ λ kept. elim (first_or_later u (filter p ts) t kept) [ inl is ↦ subst (Contains (u ∷ ts)) is (first_in u ts) | inr later ↦ later_in u ts t (filter_from p ts t later) ]
      | false ↦ λ kept. later_in u ts t (filter_from p ts t kept)
    ] c

-- the transfers that are on keep the bounds of transfers
pub active_bounds : (told : HeldFile → Told) (old new : ℕ) (es : Entries HeldFile) (arch : Arch) (component : Option (List ℕ)) (result : Result (List Transfer) ActiveErr) → ActiveGives told old new es arch component result → IfOk result (AllByRecursion KeepsBounds)
active_bounds told old new es arch component (Ok on) gives =
    let chosen = gives.1 in
    holds_of_all KeepsBounds on (λ t c.
    let says = chosen.are_transfers.each t (filter_from (is_on chosen.features) gives.0 t (subst (λ ts. Contains ts t) chosen.are_on c)) in
    transfer_bounds t.file says.given.bytes chosen.host arch t says.given.has)
active_bounds told old new es arch component (Err e) gives = tt
