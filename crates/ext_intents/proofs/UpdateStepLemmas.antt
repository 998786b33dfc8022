-- What is told where updates or features are not known, and of each command the files that it reads.
use Rattle.std.proofs.Common.{◌≡◌, ℕ, suc, List, [], ◌∷◌, ◌++◌, length, Option, Result, Ok, Err, inl, inr, refl, ap, ◌∙◌, subst}
use Rattle.std.specs.Prelude.{IfErr, IfOk}
use Rattle.ext_depot.specs.Depot.{Files}
use Rattle.ext_depot.specs.declared.depot_text.DepotText.{DepotText}
use Rattle.ext_tree.specs.Tree.{Entries}
use Rattle.ext_host.specs.Held.{HeldFile}
use Rattle.ext_host.specs.Planning.{IsBaseTree}
use Rattle.ext_host.specs.Shelf.{Told}
use Rattle.ext_host.specs.declared.host.Host.{Host}
use Rattle.ext_transfer.specs.declared.transfer.Transfer.{Transfer}
use Rattle.ext_feature.specs.Active.{ActiveGives, IsUpdateFile}
use Rattle.ext_feature.specs.Features.{FeaturesGive, IsFeatureFile}
use Rattle.ext_feature.specs.declared.errors.ActiveErr.{ActiveErr}
use Rattle.ext_feature.specs.declared.errors.ActiveErr.TheVariants as inactive
use Rattle.ext_feature.specs.declared.errors.FeaturesErr.{FeaturesErr}
use Rattle.ext_feature.specs.declared.errors.FeaturesErr.TheVariants as unfeatured
use Rattle.ext_available.specs.Reading.{AreTold, OffersOf, offers_and}
use Rattle.ext_available.specs.declared.offer.Offer.{Offer}
use Rattle.ext_available.specs.declared.offers_err.OffersErr.{OffersErr}
use Rattle.ext_cmd.specs.declared.command.UpdateVerb.{UpdateVerb}
use Rattle.ext_cmd.specs.declared.command.UpdateVerb.TheVariants as verbs
use Rattle.ext_cmd.specs.declared.refusal.Refusal.TheVariants as refusals
use Rattle.ext_intents.specs.Causes.{StepCause, ViewCause}
use Rattle.ext_intents.specs.Sysupdate.{FeaturesWants, IsSysupdateFile, IsVerbFile, not_featured}
use Rattle.ext_intents.specs.Updates.{AreNoTransfers, not_active}
use Rattle.ext_intents.specs.declared.plan_err.PlanErr.{PlanErr}
use Rattle.ext_intents.specs.declared.plan_err.PlanErr.TheVariants.{DepotFault, Shelf, OutOfMemory}
use Rattle.ext_intents.proofs.UpdateFilesLemmas.{feature_is_file, update_is_file}

pub if_ok_more : {T E : Type 0} (P Q : T → Type 0) (r : Result T E) → ((x : T) → P x → Q x) → IfOk r P → IfOk r Q
if_ok_more P Q (Ok x) more holds = more x holds
if_ok_more P Q (Err e) more holds = tt

pub if_err_more : {T E : Type 0} (P Q : E → Type 0) (r : Result T E) → ((e : E) → P e → Q e) → IfErr r P → IfErr r Q
if_err_more P Q (Ok x) more holds = tt
if_err_more P Q (Err e) more holds = more e holds

-- as many offers as transfers
one_more : (offers : List Offer) (rest : Result (List (List Offer)) OffersErr) (all : List (List Offer)) (t : Transfer) (ts : List Transfer) → Ok all ≡ offers_and (offers ∷ []) rest
    → ((others : List (List Offer)) → rest ≡ Ok others → length others ≡ length ts) → length all ≡ length (t ∷ ts)
one_more offers (Ok others) all t ts is many =
    let same : all ≡ (offers ∷ []) ++ others = cc is in
    let longer : length all ≡ length (offers ∷ others) = ap length same in
    longer ∙ ap suc (many others refl)
one_more offers (Err e) all t ts is many = cc is

pub as_many : (texts : List DepotText) (transfers : List Transfer) (all : List (List Offer)) → OffersOf texts transfers (Ok all) → length all ≡ length transfers
as_many texts [] all (none, is) = cc is
as_many [] (t ∷ ts) all not = absurd not
as_many (text ∷ texts) (t ∷ ts) all (inl (e, told, none, is)) = cc is
as_many (text ∷ texts) (t ∷ ts) all (inr (offers, rest, told, of, is)) =
    one_more offers rest all t ts is (λ others same. as_many texts ts others (subst (OffersOf texts ts) same of))

pub told_as_many : (files : Option Files) (transfers : List Transfer) (all : List (List Offer)) → AreTold files transfers (Ok all) → length all ≡ length transfers
told_as_many files transfers all (texts, found, of) = as_many texts transfers all of

module _ (host : Host) (base : Entries HeldFile) (is : IsBaseTree host base) (component : Option (List ℕ)) (told : HeldFile → Told) (old new : ℕ) where
  pub active_cause : (before after : ℕ) (e : ActiveErr) → ActiveGives told old new base host.arch component (Err e) → IfErr (not_active e) (StepCause (IsUpdateFile base component) host told old new before after)
  active_cause before after inactive.OutOfMemory gives = tt
  active_cause before after (inactive.BadFeature file line why) gives = tt
  active_cause before after (inactive.BadHostRelease line) gives = tt
  active_cause before after inactive.NoTransfers gives = tt
  active_cause before after (inactive.BadTransfer file line why) gives = tt
  active_cause before after inactive.NoneOn gives = tt
  active_cause before after (inactive.Shelf e) (held, file, fault) = record { held = held; is_read = file; file = update_is_file host base is component held file; cause = fault }

  pub active_none : (files : Option Files) (e : ActiveErr) → ActiveGives told old new base host.arch component (Err e) → IfOk (not_active e) (AreNoTransfers told files host base component)
  active_none files inactive.OutOfMemory gives = tt
  active_none files (inactive.BadFeature file line why) gives = (inactive.BadFeature file line why, gives, refl)
  active_none files (inactive.BadHostRelease line) gives = (inactive.BadHostRelease line, gives, refl)
  active_none files inactive.NoTransfers gives = (inactive.NoTransfers, gives, refl)
  active_none files (inactive.BadTransfer file line why) gives = (inactive.BadTransfer file line why, gives, refl)
  active_none files inactive.NoneOn gives = (inactive.NoneOn, gives, refl)
  active_none files (inactive.Shelf e) gives = tt

  pub featured_cause : (e : FeaturesErr) → FeaturesGive told old new base component (Err e) → IfErr (not_featured e) (ViewCause (IsFeatureFile base component) host told old new)
  featured_cause unfeatured.OutOfMemory gives = tt
  featured_cause (unfeatured.BadFeature file line why) gives = tt
  featured_cause (unfeatured.Shelf e) (held, file, fault) = record { held = held; is_read = file; file = feature_is_file host base is component held file; cause = fault }

  pub featured_wants : (files : Option Files) (e : FeaturesErr) → FeaturesGive told old new base component (Err e) → IfOk (not_featured e) (FeaturesWants told files host base component)
  featured_wants files unfeatured.OutOfMemory gives = tt
  featured_wants files (unfeatured.BadFeature file line why) gives = inr (unfeatured.BadFeature file line why, refusals.BadFeature line why file, gives, refl, refl)
  featured_wants files (unfeatured.Shelf e) gives = tt

  -- a file that is read for a verb is one of the host
  pub verb_cause : (verb : UpdateVerb) (before after : ℕ) (e : PlanErr) → StepCause (IsVerbFile base component verb) host told old new before after e → StepCause (IsSysupdateFile host component verb) host told old new before after e
  verb_cause verb before after DepotFault cause = cause
  verb_cause verb before after (Shelf e) cause = record { held = cause.held; is_read = (base, is, cause.is_read); file = cause.file; cause = cause.cause }
  verb_cause verb before after OutOfMemory cause = tt

  pub featured_step : (before after : ℕ) (e : PlanErr) → ViewCause (IsFeatureFile base component) host told old new e → StepCause (IsSysupdateFile host component verbs.Features) host told old new before after e
  featured_step before after DepotFault cause = absurd cause
  featured_step before after (Shelf e) cause = record { held = cause.held; is_read = (base, is, cause.is_read); file = cause.file; cause = cause.cause }
  featured_step before after OutOfMemory cause = tt
