-- The whole run: what was published, or why not, and the line that tells it.
use Rattle.std.proofs.Common.{◌≡◌, ℕ, List, length, Option, Some, None, IfSome, Result, Ok, Err, refl, sym, ap, ◌∙◌, subst, inl, inr}
use Rattle.std.specs.Io.KnownBytes.{Appends, Keeps}
use Rattle.ext_io.specs.SinkState.{SinkState}
use Rattle.ext_io.specs.Whole.{AppendsProperPrefix}
use Rattle.ext_disk.specs.Disk.{Tree, Told, BothTold, IsDisk, now}
use Rattle.ext_disk.proofs.ForCallers.{follows_itself, unchanged_itself}
use Rattle.ext_gen.specs.Store.{State}
use Rattle.ext_published.specs.Asked.{AskSomething, AskedOf, IsPublishAsk, asked_words}
use Rattle.ext_published.specs.Payload.{payload_bytes, payload_files}
use Rattle.ext_published.specs.Reading.{ReadsAsked}
use Rattle.ext_published.specs.Replies.{published_line}
use Rattle.ext_published.specs.declared.refusal.PubRefusal.{PubRefusal}
use Rattle.ext_published.specs.declared.words.AskErr.{AskErr}
use Rattle.ext_published.specs.declared.words.AskErr.TheVariants as ask_errors
use Rattle.ext_publish.specs.Attempting.{AttemptCause, Attempts, AttemptsOn, AttemptsOver, EndsAttempt, IsBrokenStop}
use Rattle.ext_publish.specs.Publishing.{EndsFor, EndsQuiet, EndsWith, FitsWords, IsBrokenSo, IsNoUsage, PubDevices, Publishes, PublishesFor, SaysNothing, StopsFor, StopsQuiet, TellsDone, TellsRefused, TellsStop, counts_of, status_of_words}
use Rattle.ext_publish.specs.Status.{PubCause}
use Rattle.ext_publish.specs.declared.counting.Made.{Made}
use Rattle.ext_gen.specs.declared.bad_store.BadStore.{BadStore as BadStores}
use Rattle.ext_gen.specs.declared.bad_store.BadStore.TheVariants as bad_stores
use Rattle.ext_publish.specs.declared.status.PubStatus.{PubStatus}
use Rattle.ext_publish.specs.declared.status.PubStatus.TheVariants.{Done, Refused, Usage, WriteFault, DiskFault, OutFault, OutOfMemory, BadStore, Unfinished}
use Rattle.ext_publish.specs.declared.stop.Stop.{Stop}
use Rattle.ext_publish.specs.declared.stop.Stop.TheVariants as stops
use Rattle.ext_published.proofs.ForCallers.{one_asked}
use Rattle.ext_publish.proofs.AttemptLemmas.{stops_unchanged}
use Rattle.ext_publish.proofs.StoreLemmas.{untouched_store}

keeps_itself : (o : Option (List ℕ)) → Keeps o o
keeps_itself None = tt
keeps_itself (Some bytes) = refl

nothing_written : (k l : SinkState) → l ≡ k → Keeps k.written l.written
nothing_written k l same = subst (λ (x : SinkState). Keeps k.written x.written) (sym same) (keeps_itself k.written)

-- over each told store and folder
module _ (result : Result Made Stop) (asked : AskedOf) (old new : PubDevices) (status : PubStatus) (attempts : Attempts result asked old.store new.store old.out new.out)
    (gives : (s : State) (d e : Told) → EndsAttempt result s asked d e → EndsWith s asked d e old.sink new.sink status) where
  both_ends : (store : Told) (x y : Option Told) → BothTold (AttemptsOver result asked store) x y → BothTold (EndsFor asked status old new store) x y
  both_ends store None None on = tt
  both_ends store None (Some e) on = on
  both_ends store (Some d) None on = on
  both_ends store (Some d) (Some e) on = λ s sound stands quiet. gives s d e ((on sound s stands).ends quiet)

  all_ends : (x : Option Told) → IfSome x (λ store. BothTold (AttemptsOver result asked store) old.out.told new.out.told) → IfSome x (λ store. BothTold (EndsFor asked status old new store) old.out.told new.out.told)
  all_ends None on = tt
  all_ends (Some store) on = both_ends store old.out.told new.out.told on

  both_stops : (store : Told) (x y : Option Told) → BothTold (AttemptsOver result asked store) x y → BothTold (StopsFor asked store) x y
  both_stops store None None on = tt
  both_stops store None (Some e) on = on
  both_stops store (Some d) None on = on
  both_stops store (Some d) (Some e) on = λ s sound stands. (on sound s stands).stops

  all_stops : (x : Option Told) → IfSome x (λ store. BothTold (AttemptsOver result asked store) old.out.told new.out.told) → IfSome x (λ store. BothTold (StopsFor asked store) old.out.told new.out.told)
  all_stops None on = tt
  all_stops (Some store) on = both_stops store old.out.told new.out.told on

  publishes_for : IsNoUsage status → PubCause (counts_of old) (counts_of new) status → SaysNothing status old.sink new.sink → IfSome old.store.told (λ store. IsBrokenSo status (now store.places)) → PublishesFor asked old new status
  publishes_for no_usage cause silent broken = record {
    no_usage = no_usage;
    cause = cause;
    store = attempts.store;
    out = attempts.out;
    silent = silent;
    broken = broken;
    ends = all_ends old.store.told attempts.told;
    stops = all_stops old.store.told attempts.told;
  }

not_broken : (status : PubStatus) → ((t : Tree) → IsBrokenSo status t) → (x : Option Told) → IfSome x (λ store. IsBrokenSo status (now store.places))
not_broken status gives None = tt
not_broken status gives (Some store) = gives (now store.places)

line_of : (made : Made) (payload : Rattle.ext_published.specs.declared.payload.Payload.Payload) → Rattle.ext_publish.specs.Attempting.IsMadeOf made payload → published_line made.files made.bytes ≡ published_line (length (payload_files payload)) (payload_bytes payload)
line_of made payload is = ap (λ n. published_line n made.bytes) is.files ∙ ap (published_line (length (payload_files payload))) is.bytes

-- what was published is told
pub for_done : (made : Made) (asked : AskedOf) (old new : PubDevices) (status : PubStatus) → Attempts (Ok made) asked old.store new.store old.out new.out → TellsDone made old.sink new.sink status → PublishesFor asked old new status
for_done made asked old new Done attempts tells =
    publishes_for (Ok made) asked old new Done attempts
    (λ s d e ends. (ends.0, ends.1, subst (Appends old.sink.written new.sink.written) (line_of made ends.0 ends.2) tells)) tt tt tt (not_broken Done (λ t. tt) old.store.told)
for_done made asked old new (Refused refusal) attempts tells = absurd tells
for_done made asked old new (Usage place) attempts tells = absurd tells
for_done made asked old new WriteFault attempts tells =
    publishes_for (Ok made) asked old new WriteFault attempts
    (λ s d e ends. inl (ends.0, ends.1, subst (AppendsProperPrefix old.sink new.sink) (line_of made ends.0 ends.2) tells.1)) tt tells.0 tt (not_broken WriteFault (λ t. tt) old.store.told)
for_done made asked old new DiskFault attempts tells = absurd tells
for_done made asked old new OutFault attempts tells = absurd tells
for_done made asked old new OutOfMemory attempts tells =
    publishes_for (Ok made) asked old new OutOfMemory attempts (λ s d e ends. nothing_written old.sink new.sink tells) tt tt tells (not_broken OutOfMemory (λ t. tt) old.store.told)
for_done made asked old new (BadStore why) attempts tells = absurd tells
for_done made asked old new Unfinished attempts tells = absurd tells

-- so is a refusal
for_refused : (refusal : PubRefusal) (asked : AskedOf) (old new : PubDevices) (status : PubStatus) → Attempts (Err (stops.Refused refusal)) asked old.store new.store old.out new.out → TellsRefused refusal old.sink new.sink status → PublishesFor asked old new status
for_refused refusal asked old new Done attempts tells = absurd tells
for_refused refusal asked old new (Refused told) attempts tells =
    subst (λ r. PublishesFor asked old new (Refused r)) (sym tells.0)
    (publishes_for (Err (stops.Refused refusal)) asked old new (Refused refusal) attempts (λ s d e ends. (ends.0, ends.1, tells.1)) tt tt tt (not_broken (Refused refusal) (λ t. tt) old.store.told))
for_refused refusal asked old new (Usage place) attempts tells = absurd tells
for_refused refusal asked old new WriteFault attempts tells =
    publishes_for (Err (stops.Refused refusal)) asked old new WriteFault attempts (λ s d e ends. inr (refusal, ends.0, ends.1, tells.1)) tt tells.0 tt (not_broken WriteFault (λ t. tt) old.store.told)
for_refused refusal asked old new DiskFault attempts tells = absurd tells
for_refused refusal asked old new OutFault attempts tells = absurd tells
for_refused refusal asked old new OutOfMemory attempts tells =
    publishes_for (Err (stops.Refused refusal)) asked old new OutOfMemory attempts (λ s d e ends. nothing_written old.sink new.sink tells) tt tt tells (not_broken OutOfMemory (λ t. tt) old.store.told)
for_refused refusal asked old new (BadStore why) attempts tells = absurd tells
for_refused refusal asked old new Unfinished attempts tells = absurd tells

broken_of : (why : BadStores) (x : Option Told) → IfSome x (λ d. IsBrokenStop (now d.places) (stops.BadStore why)) → IfSome x (λ store. IsBrokenSo (BadStore why) (now store.places))
broken_of why None is = tt
broken_of (bad_stores.Broken line) (Some d) is = is
broken_of (bad_stores.Damaged damage) (Some d) is = tt

-- a run that stopped
pub for_stopped : (stop : Stop) (asked : AskedOf) (old new : PubDevices) (status : PubStatus) → Attempts (Err stop) asked old.store new.store old.out new.out → TellsStop stop old.sink new.sink status → PublishesFor asked old new status
for_stopped (stops.Refused refusal) asked old new status attempts tells = for_refused refusal asked old new status attempts tells
for_stopped stops.OutOfMemory asked old new status attempts tells =
    subst (PublishesFor asked old new) (sym tells.0)
    (publishes_for (Err stops.OutOfMemory) asked old new OutOfMemory attempts (λ s d e ends. nothing_written old.sink new.sink tells.1) tt tt tells.1 (not_broken OutOfMemory (λ t. tt) old.store.told))
for_stopped stops.DiskFault asked old new status attempts tells =
    subst (PublishesFor asked old new) (sym tells.0)
    (publishes_for (Err stops.DiskFault) asked old new DiskFault attempts (λ s d e ends. nothing_written old.sink new.sink tells.1) tt attempts.cause tells.1 (not_broken DiskFault (λ t. tt) old.store.told))
for_stopped stops.OutFault asked old new status attempts tells =
    subst (PublishesFor asked old new) (sym tells.0)
    (publishes_for (Err stops.OutFault) asked old new OutFault attempts (λ s d e ends. nothing_written old.sink new.sink tells.1) tt attempts.cause tells.1 (not_broken OutFault (λ t. tt) old.store.told))
for_stopped (stops.BadStore why) asked old new status attempts tells =
    subst (PublishesFor asked old new) (sym tells.0)
    (publishes_for (Err (stops.BadStore why)) asked old new (BadStore why) attempts (λ s d e ends. ends) tt tt tells.1 (broken_of why old.store.told attempts.broken))
for_stopped stops.Unfinished asked old new status attempts tells =
    subst (PublishesFor asked old new) (sym tells.0)
    (publishes_for (Err stops.Unfinished) asked old new Unfinished attempts (λ s d e ends. (ends.0, ends.1, ends.2, nothing_written old.sink new.sink tells.1)) tt tt tells.1 (not_broken Unfinished (λ t. tt) old.store.told))

fits : (words : List (List ℕ)) (status : PubStatus) → AskSomething words → IsNoUsage status → FitsWords words status
fits words Done ask no_usage = ask
fits words (Refused refusal) ask no_usage = ask
fits words (Usage place) ask no_usage = absurd no_usage
fits words WriteFault ask no_usage = ask
fits words DiskFault ask no_usage = ask
fits words OutFault ask no_usage = ask
fits words OutOfMemory ask no_usage = tt
fits words (BadStore why) ask no_usage = ask
fits words Unfinished ask no_usage = ask

no_usage_is : (status : PubStatus) (place : ℕ) → IsNoUsage status → status ≡ Usage place → ⊥
no_usage_is status place no_usage is = subst IsNoUsage is no_usage

-- the words ask this, and nothing else
pub asked_is_run : (words : List (List ℕ)) (asked : AskedOf) (old new : PubDevices) (status : PubStatus) → IsPublishAsk asked → words ≡ asked_words asked → PublishesFor asked old new status → Publishes words old new status
asked_is_run words asked old new status ask words_are run = record {
  words_fit = fits words status (record { asked = asked; is = ask; same = words_are }) run.no_usage;
  cause = run.cause;
  store = run.store;
  out = run.out;
  untouched = λ place is. absurd (no_usage_is status place run.no_usage is);
  silent = run.silent;
  broken = run.broken;
  ends = all old.store.told run.ends;
  stops = all_stops_of old.store.told run.stops;
}
  where
    this : (other : AskedOf) → IsPublishAsk other → words ≡ asked_words other → asked ≡ other
    this other is same = one_asked asked other ask is (sym words_are ∙ same)

    both : (store : Told) (x y : Option Told) → BothTold (EndsFor asked status old new store) x y → BothTold (EndsQuiet words status old new store) x y
    both store None None ends = tt
    both store None (Some e) ends = ends
    both store (Some d) None ends = ends
    both store (Some d) (Some e) ends = λ other is same. subst (λ a. EndsFor a status old new store d e) (this other is same) ends

    all : (x : Option Told) → IfSome x (λ store. BothTold (EndsFor asked status old new store) old.out.told new.out.told) → IfSome x (λ store. BothTold (EndsQuiet words status old new store) old.out.told new.out.told)
    all None ends = tt
    all (Some store) ends = both store old.out.told new.out.told ends

    both_stops_of : (store : Told) (x y : Option Told) → BothTold (StopsFor asked store) x y → BothTold (StopsQuiet words store) x y
    both_stops_of store None None ends = tt
    both_stops_of store None (Some e) ends = ends
    both_stops_of store (Some d) None ends = ends
    both_stops_of store (Some d) (Some e) ends = λ other is same. subst (λ a. StopsFor a store d e) (this other is same) ends

    all_stops_of : (x : Option Told) → IfSome x (λ store. BothTold (StopsFor asked store) old.out.told new.out.told) → IfSome x (λ store. BothTold (StopsQuiet words store) old.out.told new.out.told)
    all_stops_of None ends = tt
    all_stops_of (Some store) ends = both_stops_of store old.out.told new.out.told ends

-- the words ask nothing, or memory ran out: nothing was touched
module _ (words : List (List ℕ)) (devices : PubDevices) (status : PubStatus) (store : IfSome devices.store.told IsDisk) (out : IfSome devices.out.told IsDisk)
    (ends : (s : State) (asked : AskedOf) (d : Told) → EndsWith s asked d d devices.sink devices.sink status) where
  stops_here : (x : Told) (y : Option Told) → IfSome y IsDisk → BothTold (StopsQuiet words x) y y
  stops_here x None disk = tt
  stops_here x (Some d) disk = λ asked is same s sound stands. stops_unchanged s asked d d disk (λ p. unchanged_itself d p)

  all_here : (x : Option Told) → IfSome x (λ store. BothTold (StopsQuiet words store) devices.out.told devices.out.told)
  all_here None = tt
  all_here (Some x) = stops_here x devices.out.told out

  ends_here : (x : Told) (y : Option Told) → BothTold (EndsQuiet words status devices devices x) y y
  ends_here x None = tt
  ends_here x (Some d) = λ asked is same s sound stands quiet. ends s asked d

  ends_all : (x : Option Told) → IfSome x (λ store. BothTold (EndsQuiet words status devices devices store) devices.out.told devices.out.told)
  ends_all None = tt
  ends_all (Some x) = ends_here x devices.out.told

  pub untouched_run : FitsWords words status → PubCause (counts_of devices) (counts_of devices) status → SaysNothing status devices.sink devices.sink → ((t : Tree) → IsBrokenSo status t) → Publishes words devices devices status
  untouched_run fits cause silent broken = record {
    words_fit = fits;
    cause = cause;
    store = untouched_store devices.store store;
    out = follows_itself devices.out;
    untouched = λ place is. refl;
    silent = silent;
    broken = not_broken status broken devices.store.told;
    ends = ends_all devices.store.told;
    stops = all_here devices.store.told;
  }

-- the words were not read as what is asked
pub wrong_run : (words : List (List ℕ)) (refused : AskErr) (devices : PubDevices) → IfSome devices.store.told IsDisk → IfSome devices.out.told IsDisk → ReadsAsked words (Err refused) → Publishes words devices devices (status_of_words refused)
wrong_run words ask_errors.OutOfMemory devices store out reads = untouched_run words devices OutOfMemory store out (λ s asked d. keeps_itself devices.sink.written) tt tt refl (λ t. tt)
wrong_run words (ask_errors.Usage place) devices store out reads = untouched_run words devices (Usage place) store out (λ s asked d. keeps_itself devices.sink.written) reads tt refl (λ t. tt)
