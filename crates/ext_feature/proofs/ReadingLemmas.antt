-- One more file that was read, or wasn't.
use Rattle.std.proofs.Common.{◌≡◌, ℕ, ◌+◌, ◌<◌, ◌≤◌, List, [], ◌∷◌, ◌++◌, length, take, drop, get_or, Err, sym, ap, ◌∙◌, subst}
use Rattle.std.specs.List.{AllZip}
use Rattle.std.proofs.lemmas.List.{drop_more, take-append-drop, take_more}
use Rattle.ext_text.specs.declared.arch.Arch.{Arch}
use Rattle.ext_host.specs.Held.{HeldFile}
use Rattle.ext_host.specs.Shelf.{Told}
use Rattle.ext_transfer.specs.Transfer.{transfer_of}
use Rattle.ext_transfer.specs.declared.transfer.Transfer.{Transfer}
use Rattle.ext_configs.specs.declared.files.ConfigFile.{ConfigFile}
use Rattle.ext_feature.specs.Active.{IsSoundTransfer, ReleaseOfHost, SaysTransfer}
use Rattle.ext_feature.specs.Features.{IsSoundFeature, SaysFeature, feature_file}
use Rattle.ext_feature.specs.Files.{IsGivenWith}
use Rattle.ext_feature.specs.Reading.{FileSays, ReadsFeature, ReadsFeatures, ReadsTransferFile, ReadsTransfers}
use Rattle.ext_feature.specs.declared.errors.ActiveErr.{ActiveErr}
use Rattle.ext_feature.specs.declared.errors.ActiveErr.TheVariants as active_errors
use Rattle.ext_feature.specs.declared.errors.FeaturesErr.{FeaturesErr}
use Rattle.ext_feature.specs.declared.errors.FeaturesErr.TheVariants as features_errors
use Rattle.ext_feature.specs.declared.feature.Feature.{Feature}
use Rattle.ext_feature.proofs.FaultLemmas.{fault_of_whole}
use Rattle.ext_feature.proofs.ListLemmas.{among_others, zip_push, zip_tells}

-- a list around the element at an index
around : {X : Type 0} (xs : List X) (i : ℕ) (x : X) → i < length xs → x ≡ get_or xs i x → xs ≡ take i xs ++ x ∷ drop (i + 1) xs
around xs i x below is =
    sym (take-append-drop i xs) ∙ ap (λ ys. take i xs ++ ys) (drop_more xs i x below) ∙ ap (λ y. take i xs ++ y ∷ drop (i + 1) xs) (sym is)

-- one more that matches
pub zip_more : {X Y : Type 0} (R : X → Y → Type 0) (xs : List X) (i : ℕ) (x : X) (ys : List Y) (y : Y) (zs : List Y) → i < length xs → x ≡ get_or xs i x → AllZip R (take i xs) ys → R x y → zs ≡ ys ++ y ∷ [] → AllZip R (take (i + 1) xs) zs
zip_more R xs i x ys y zs below is all one pushed =
    subst (AllZip R (take (i + 1) xs)) (sym pushed)
    (subst (λ ws. AllZip R ws (ys ++ y ∷ [])) (ap (λ z. take i xs ++ z ∷ []) is ∙ sym (take_more xs i x below)) (zip_push R (take i xs) ys x y all one))

module _ (told : HeldFile → Told) (old mid new : ℕ) (le : old ≤ mid) (files : List (ConfigFile HeldFile)) (i : ℕ) (file : ConfigFile HeldFile) (below : i < length files) (is : file ≡ get_or files i file) where
  -- what isn't read of a file isn't read of all
  pub feature_fails : (features : List Feature) (e : FeaturesErr) → AllZip (FileSays told (λ feature. feature_file feature.name) SaysFeature) (take i files) features → ReadsFeature told mid new file (Err e) → ReadsFeatures told old new files (Err e)
  feature_fails features features_errors.OutOfMemory all fails = tt
  feature_fails features (features_errors.BadFeature name line why) all fails = record {
    before = take i files;
    file = file;
    after = drop (i + 1) files;
    among = around files i file below is;
    name_is = fails.0;
    bad = fails.1;
    sound = zip_tells (FileSays told (λ feature. feature_file feature.name) SaysFeature) (λ (other : ConfigFile HeldFile). IsGivenWith told other.content.now IsSoundFeature)
        (λ other feature says. record { bytes = says.given.bytes; given = says.given.given; has = (feature.on, says.given.has) }) (take i files) features all;
  }
  feature_fails features (features_errors.Shelf e) all fails = record {
    file = file;
    among = among_others files (take i files) (drop (i + 1) files) file (around files i file below is);
    fault = fault_of_whole (told file.content.now) old mid new file.content.now e le fails;
  }

  pub transfer_fails : (arch : Arch) (host : ReleaseOfHost) (transfers : List Transfer) (e : ActiveErr) → AllZip (FileSays told (λ transfer. transfer.file) (SaysTransfer arch host)) (take i files) transfers → ReadsTransferFile told mid new arch host file (Err e) → ReadsTransfers told old new arch host files (Err e)
  transfer_fails arch host transfers active_errors.OutOfMemory all fails = tt
  transfer_fails arch host transfers (active_errors.BadFeature name line why) all fails = absurd fails
  transfer_fails arch host transfers (active_errors.BadHostRelease line) all fails = absurd fails
  transfer_fails arch host transfers active_errors.NoTransfers all fails = absurd fails
  transfer_fails arch host transfers (active_errors.BadTransfer name line why) all fails = record {
    before = take i files;
    file = file;
    after = drop (i + 1) files;
    among = around files i file below is;
    name_is = fails.0;
    bad = fails.1;
    sound = zip_tells (FileSays told (λ transfer. transfer.file) (SaysTransfer arch host)) (λ (other : ConfigFile HeldFile). IsGivenWith told other.content.now (IsSoundTransfer arch host other.name))
        (λ other transfer says. record {
          bytes = says.given.bytes;
          given = says.given.given;
          has = (transfer, ap (λ f. transfer_of f says.given.bytes host arch) says.name ∙ says.given.has);
        }) (take i files) transfers all;
  }
  transfer_fails arch host transfers active_errors.NoneOn all fails = absurd fails
  transfer_fails arch host transfers (active_errors.Shelf e) all fails = record {
    file = file;
    among = among_others files (take i files) (drop (i + 1) files) file (around files i file below is);
    fault = fault_of_whole (told file.content.now) old mid new file.content.now e le fails;
  }
