-- The whole run: what was opened and printed, or why not.
use Rattle.std.proofs.Common.{◌≡◌, ℕ, List, Option, Some, None, IfSome, Ok, Err, refl, sym, ◌∙◌, subst, inl}
use Rattle.ext_io.specs.SinkState.{SinkState}
use Rattle.ext_disk.specs.Disk.{Tree, Told, BothTold, IsDisk, now}
use Rattle.ext_disk.specs.Since.{Follows}
use Rattle.ext_store_files.specs.declared.fault.StoreFault.TheVariants as faults
use Rattle.ext_gen.specs.Opened.{Generation}
use Rattle.ext_gen.specs.Opening.{KeepsNow, OpenCause, OpenSays, OpensTold}
use Rattle.ext_gen.specs.declared.errors.StoreErr.{StoreErr}
use Rattle.ext_gen.specs.declared.errors.StoreErr.TheVariants as store_errors
use Rattle.ext_gen.proofs.ForCallers.{broken_points_to_nothing, one_generation}
use Rattle.ext_mount.specs.Asked.{AsksImage, IsImageAsk, IsImageWrongAt, image_ask_words}
use Rattle.ext_mount.specs.declared.asked.ImageAsk.{ImageAsk}
use Rattle.ext_mount.specs.Printing.{EndsImage, EndsOver, FitsImageWords, ImageDevices, IsBrokenImage, IsNoImageUsage, PrintsFor, PrintsImage, PrintsOpened, WritesNothing, image_counts_of}
use Rattle.ext_mount.specs.Status.{ImageCause}
use Rattle.ext_mount.specs.Stopping.{status_of_store}
use Rattle.ext_mount.specs.declared.status.ImageStatus.{ImageStatus}
use Rattle.ext_mount.specs.declared.status.ImageStatus.TheVariants.{Done, Refused, Usage, WriteFault, DiskFault, OutOfMemory, BadStore}
use Rattle.ext_mount.proofs.LawsLemmas.{one_asked}
use Rattle.ext_mount.proofs.StoreLemmas.{leaves_store, untouched_store}

-- it is the same of each told tree
each_told : {P Q : Told → Type 0} (x : Option Told) → ((d : Told) → P d → Q d) → IfSome x P → IfSome x Q
each_told None gives is = tt
each_told (Some d) gives is = gives d is

no_usage_opened : (status : ImageStatus) (opened : Option Generation) (ask : ImageAsk) (k l : SinkState) → PrintsOpened opened ask k l status → IsNoImageUsage status
no_usage_opened Done opened ask k l prints = tt
no_usage_opened (Refused refusal) opened ask k l prints = tt
no_usage_opened (Usage place) opened ask k l prints = prints
no_usage_opened WriteFault opened ask k l prints = tt
no_usage_opened DiskFault opened ask k l prints = tt
no_usage_opened OutOfMemory opened ask k l prints = tt
no_usage_opened (BadStore line) opened ask k l prints = tt

cause_opened : (status : ImageStatus) (opened : Option Generation) (ask : ImageAsk) (old new : ImageDevices) → PrintsOpened opened ask old.sink new.sink status → ImageCause (image_counts_of old) (image_counts_of new) status
cause_opened Done opened ask old new prints = tt
cause_opened (Refused refusal) opened ask old new prints = tt
cause_opened (Usage place) opened ask old new prints = tt
cause_opened WriteFault opened ask old new prints = prints.0
cause_opened DiskFault opened ask old new prints = absurd prints
cause_opened OutOfMemory opened ask old new prints = tt
cause_opened (BadStore line) opened ask old new prints = tt

silent_opened : (status : ImageStatus) (opened : Option Generation) (ask : ImageAsk) (k l : SinkState) → PrintsOpened opened ask k l status → WritesNothing status k l
silent_opened Done opened ask k l prints = tt
silent_opened (Refused refusal) opened ask k l prints = tt
silent_opened (Usage place) opened ask k l prints = absurd prints
silent_opened WriteFault opened ask k l prints = tt
silent_opened DiskFault opened ask k l prints = absurd prints
silent_opened OutOfMemory opened ask k l prints = tt
silent_opened (BadStore line) opened ask k l prints = absurd prints

broken_opened : (status : ImageStatus) (opened : Option Generation) (ask : ImageAsk) (k l : SinkState) → PrintsOpened opened ask k l status → (t : Tree) → IsBrokenImage status t
broken_opened Done opened ask k l prints t = tt
broken_opened (Refused refusal) opened ask k l prints t = tt
broken_opened (Usage place) opened ask k l prints t = tt
broken_opened WriteFault opened ask k l prints t = tt
broken_opened DiskFault opened ask k l prints t = tt
broken_opened OutOfMemory opened ask k l prints t = tt
broken_opened (BadStore line) opened ask k l prints t = absurd prints

ends_opened : (status : ImageStatus) (opened : Option Generation) (ask : ImageAsk) (k l : SinkState) → PrintsOpened opened ask k l status → EndsImage opened ask k l status
ends_opened Done opened ask k l prints = prints
ends_opened (Refused refusal) opened ask k l prints = prints
ends_opened (Usage place) opened ask k l prints = absurd prints
ends_opened WriteFault opened ask k l prints = prints.1
ends_opened DiskFault opened ask k l prints = absurd prints
ends_opened OutOfMemory opened ask k l prints = prints
ends_opened (BadStore line) opened ask k l prints = absurd prints

-- a store that was opened, and what was printed of it
pub for_opened : (opened : Option Generation) (ask : ImageAsk) (old new : ImageDevices) (status : ImageStatus) → Follows old.store new.store → BothTold KeepsNow old.store.told new.store.told → BothTold (OpensTold (Ok opened)) old.store.told new.store.told
    → IfSome old.store.told (λ d. OpenSays (Ok opened) (now d.places)) → PrintsOpened opened ask old.sink new.sink status → PrintsFor ask old new status
for_opened opened ask old new status follows keeps opens says prints = record {
  no_usage = no_usage_opened status opened ask old.sink new.sink prints;
  cause = cause_opened status opened ask old new prints;
  store = leaves_store (Ok opened) old.store new.store follows keeps opens;
  silent = silent_opened status opened ask old.sink new.sink prints;
  broken = each_told old.store.told (λ d points. broken_opened status opened ask old.sink new.sink prints (now d.places)) says;
  ends = each_told old.store.told (λ d points other others. subst (λ o. EndsImage o ask old.sink new.sink status) (one_generation (now d.places) opened other points others) (ends_opened status opened ask old.sink new.sink prints)) says;
}

-- a store that was not opened: nothing was printed
pub for_unopened : (unopened : StoreErr) (ask : ImageAsk) (old new : ImageDevices) → new.sink ≡ old.sink → Follows old.store new.store → BothTold KeepsNow old.store.told new.store.told → BothTold (OpensTold (Err unopened)) old.store.told new.store.told
    → IfSome old.store.told (λ d. OpenSays (Err unopened) (now d.places)) → OpenCause old.store.faults new.store.faults unopened → PrintsFor ask old new (status_of_store unopened)
for_unopened (store_errors.Fault faults.OutOfMemory) ask old new same follows keeps opens says cause = record {
  no_usage = tt;
  cause = tt;
  store = leaves_store (Err (store_errors.Fault faults.OutOfMemory)) old.store new.store follows keeps opens;
  silent = tt;
  broken = each_told old.store.told (λ d is. tt) says;
  ends = each_told old.store.told (λ d is other others. inl same) says;
}
for_unopened (store_errors.Fault faults.DiskFault) ask old new same follows keeps opens says cause = record {
  no_usage = tt;
  cause = cause;
  store = leaves_store (Err (store_errors.Fault faults.DiskFault)) old.store new.store follows keeps opens;
  silent = same;
  broken = each_told old.store.told (λ d is. tt) says;
  ends = each_told old.store.told (λ d is other others. same) says;
}
for_unopened (store_errors.Fault faults.DepotFault) ask old new same follows keeps opens says cause = absurd cause
for_unopened (store_errors.Fault (faults.Damaged damage)) ask old new same follows keeps opens says cause = absurd cause
for_unopened (store_errors.Broken line) ask old new same follows keeps opens says cause = record {
  no_usage = tt;
  cause = tt;
  store = leaves_store (Err (store_errors.Broken line)) old.store new.store follows keeps opens;
  silent = same;
  broken = says;
  ends = each_told old.store.told (λ d is other others. broken_points_to_nothing (now d.places) line other is others) says;
}
for_unopened (store_errors.Mismatch path listed found) ask old new same follows keeps opens says cause = absurd cause
for_unopened (store_errors.NotInDepot path) ask old new same follows keeps opens says cause = absurd cause
for_unopened store_errors.Unfinished ask old new same follows keeps opens says cause = absurd cause
for_unopened (store_errors.Limit which) ask old new same follows keeps opens says cause = absurd cause

fits_words : (words : List (List ℕ)) (status : ImageStatus) → AsksImage words → IsNoImageUsage status → FitsImageWords words status
fits_words words Done asks no_usage = asks
fits_words words (Refused refusal) asks no_usage = asks
fits_words words (Usage place) asks no_usage = absurd no_usage
fits_words words WriteFault asks no_usage = asks
fits_words words DiskFault asks no_usage = asks
fits_words words OutOfMemory asks no_usage = asks
fits_words words (BadStore line) asks no_usage = asks

-- the words ask for this image, and for no other
pub asked_is_run : (words : List (List ℕ)) (ask : ImageAsk) (old new : ImageDevices) (status : ImageStatus) → IsImageAsk ask → words ≡ image_ask_words ask → PrintsFor ask old new status → PrintsImage words old new status
asked_is_run words ask old new status is same run = record {
  words_fit = fits_words words status (record { asked = ask; is = is; same = same }) run.no_usage;
  cause = run.cause;
  store = run.store;
  untouched = λ place usage. absurd (subst IsNoImageUsage usage run.no_usage);
  silent = run.silent;
  broken = run.broken;
  ends = each_told old.store.told (λ d ends other others words_are. subst (λ a. EndsOver a status old.sink new.sink (now d.places)) (one_asked ask other is others (sym same ∙ words_are)) ends) run.ends;
}

-- the words ask nothing: nothing was touched
pub wrong_run : (words : List (List ℕ)) (place : ℕ) (devices : ImageDevices) → IfSome devices.store.told IsDisk → IsImageWrongAt words place → PrintsImage words devices devices (Usage place)
wrong_run words place devices disk wrong = record {
  words_fit = wrong;
  cause = tt;
  store = untouched_store devices.store disk;
  untouched = λ other is. refl;
  silent = refl;
  broken = each_told devices.store.told (λ d is. tt) disk;
  ends = each_told devices.store.told (λ d is ask asks same opened points. refl) disk;
}
