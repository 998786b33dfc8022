-- A run between its words and its line: what is published of a host, in a folder whose names were synced first.
use Rattle.std.proofs.Common.{◌≡◌, ℕ, ◌≤◌, Bool, true, false, List, [], ◌∷◌, ◌++◌, Option, Some, None, IfErr, IfSome, Result, Ok, Err, refl, sym, ap, ◌∙◌, subst, inl, inr}
use Rattle.std.specs.Option.{is_some}
use Rattle.std.proofs.lemmas.Option.{none-some}
use Rattle.ext_disk.specs.Disk.{Tree, Places, Told, DiskState, BothTold, IsDisk, now}
use Rattle.ext_disk.specs.Fixed.{IsUnchangedAt}
use Rattle.ext_disk.specs.Since.{Follows, IsLater, Rests, Since}
use Rattle.ext_disk.proofs.ForCallers.{since_past, unchanged_itself}
use Rattle.ext_tree.specs.Tree.{Entries, lookup}
use Rattle.ext_tree.specs.declared.entry.Entry.TheVariants as entries
use Rattle.ext_tree.proofs.ForCallers.{lookup_part, root_part}
use Rattle.ext_host.specs.Drawn.{HasFile}
use Rattle.ext_host.specs.Held.{HeldFile}
use Rattle.ext_host.specs.declared.host.Host.{Host}
use Rattle.ext_store_files.specs.HeldFiles.{is_served}
use Rattle.ext_store_files.specs.LeftOvers.{most_left_overs}
use Rattle.ext_store_files.specs.Removal.{AllStand, MoreThan, Stand}
use Rattle.ext_store_files.specs.Writing.{Works, nowhere}
use Rattle.ext_store_files.specs.declared.fault.StoreFault.TheVariants as faults
use Rattle.ext_store_files.proofs.ForCallers.{rose_since}
use Rattle.ext_gen.specs.Opened.{Generation}
use Rattle.ext_gen.specs.Opening.{KeepsNow, OpenCause, OpenSays, OpensTold}
use Rattle.ext_gen.specs.Sound.{IsSound}
use Rattle.ext_gen.specs.Store.{State, Stands}
use Rattle.ext_gen.specs.declared.errors.StoreErr.{StoreErr}
use Rattle.ext_gen.specs.declared.errors.StoreErr.TheVariants as store_errors
use Rattle.ext_gen.specs.declared.bad_store.BadStore.TheVariants as bad_stores
use Rattle.ext_gen.proofs.ForCallers.{sound_is_not_broken}
use Rattle.ext_published.specs.Asked.{AskedOf}
use Rattle.ext_published.specs.Payload.{GivesPayload, HasNoneAt, HasOtherAt}
use Rattle.ext_published.specs.Places.{published_manifest_path}
use Rattle.ext_published.specs.declared.payload.Payload.{Payload}
use Rattle.ext_published.specs.declared.payload.Payload.TheVariants.{Directory, File}
use Rattle.ext_published.specs.declared.refusal.PubRefusal.{PubRefusal}
use Rattle.ext_published.specs.declared.refusal.PubRefusal.TheVariants.{NoStore, NoEntry, NotFile, LimitPath, OutKind, LimitText, OutManifest, Listed}
use Rattle.ext_publish.specs.Out.{IsQuiet, first_missing, is_left_at}
use Rattle.ext_publish.specs.Refusing.{IsAllowed, IsPayloadOf, IsRefused}
use Rattle.ext_publish.specs.Attempting.{AttemptCause, Attempts, AttemptsOn, AttemptsOver, EndsAttempt, EndsDone, HasNoPayload, HostCause, IsBrokenStop, IsMadeOf, TellsHost, TellsOpened}
use Rattle.ext_publish.specs.Carrying.{Carries, CarryCause, EndsCarrying, IsCarriedOut, IsPublishable, IsUnpublishable, Tells}
use Rattle.ext_publish.specs.Filling.{IsPublishedFileOf, IsReadable}
use Rattle.ext_publish.specs.Stopping.{OutCause, stop_of_store}
use Rattle.ext_publish.specs.Stops.{StopsWell}
use Rattle.ext_publish.specs.Store.{bytes_in, host_of_state}
use Rattle.ext_publish.specs.declared.counting.Made.{Made}
use Rattle.ext_publish.specs.declared.stop.Stop.{Stop}
use Rattle.ext_publish.specs.declared.stop.Stop.TheVariants as stops
use Rattle.ext_publish.proofs.StoreLemmas.{keeps_store, opened_tells}

-- the files that are published are seen on the host
pub seen_of : (root : Entries HeldFile) (path : List (List ℕ)) (payload : Payload) → GivesPayload root path (Ok payload) → (held : HeldFile) → IsPublishedFileOf payload held → HasFile root held
seen_of root path (Directory tree) gives held ([], has) = absurd (none-some (entries.File has.attributes held) (sym (ap (λ es. lookup es []) gives.1 ∙ root_part path root) ∙ has.stands))
seen_of root path (Directory tree) gives held (n ∷ below, has) = record {
  path = path ++ n ∷ below;
  attributes = has.attributes;
  stands = sym (ap (λ es. lookup es (n ∷ below)) gives.1 ∙ lookup_part path n below root) ∙ has.stands;
}
seen_of root path (File one) gives held same = record { path = path; attributes = gives.attributes; stands = gives.stands ∙ ap (λ (h : HeldFile). Some (entries.File gives.attributes h)) (sym same) }

pub readable_of : (host : Host) (path : List (List ℕ)) (payload : Payload) → ((held : HeldFile) → HasFile host.root held → is_served held.body ≡ true) → GivesPayload host.root path (Ok payload) → IsReadable payload
readable_of host path payload served gives = λ held is. served held (seen_of host.root path payload gives held is)

tells_payload : (store : DiskState) (host : Host) (s : State) (path : List (List ℕ)) (payload : Payload) → TellsHost store host s → GivesPayload host.root path (Ok payload) → Tells store payload (bytes_in s)
tells_payload store host s path payload tells gives = record {
  tells = λ held is. tells.tells held (seen_of host.root path payload gives held is);
  stamped = λ held is. tells.stamped held (seen_of host.root path payload gives held is);
}

payload_is : (store : DiskState) (host : Host) (s : State) (asked : AskedOf) (payload : Payload) → TellsHost store host s → GivesPayload host.root asked.path (Ok payload) → IsPayloadOf (host_of_state s) asked payload
payload_is store host s asked payload tells gives = record { of = host; is = tells.is; gives = gives }

-- what may be published of the host, and what may not
allows : (host : Option Host) (asked : AskedOf) (t : Tree) (payload : Payload) → IsPayloadOf host asked payload → IsPublishable asked t payload → IsAllowed host asked t payload
allows host asked t payload is may = record { room = record { room = record { payload_is = is; paths = may.paths; kinds = may.kinds }; texts = may.texts }; manifest = may.manifest }

refuses : (host : Option Host) (asked : AskedOf) (t : Tree) (payload : Payload) (refusal : PubRefusal) → IsPayloadOf host asked payload → IsUnpublishable asked t payload refusal → IsRefused host asked t refusal
refuses host asked t payload NoStore is why = absurd why
refuses host asked t payload (NoEntry path) is why = absurd why
refuses host asked t payload (NotFile path) is why = absurd why
refuses host asked t payload LimitPath is why = (payload, is, why)
refuses host asked t payload (OutKind path) is why = (payload, is, why.0, why.1)
refuses host asked t payload LimitText is why = (payload, record { payload_is = is; paths = why.0; kinds = why.1 }, why.2)
refuses host asked t payload (OutManifest line) is why = (payload, record { room = record { payload_is = is; paths = why.0; kinds = why.1 }; texts = why.2 }, why.3)
refuses host asked t payload (Listed name) is why = (payload, record { room = record { payload_is = is; paths = why.1; kinds = why.2 }; texts = why.3 }, why.0, why.4)

done_of : (s : State) (asked : AskedOf) (d e : Told) (payload : Payload) → IsPayloadOf (host_of_state s) asked payload → IsCarriedOut asked d e payload (bytes_in s) → EndsDone s asked d e payload
done_of s asked d e payload is done = record {
  allowed = allows (host_of_state s) asked (now d.places) payload is done.allowed;
  few = done.few;
  published = done.published;
  durable = done.durable;
  elsewhere = done.elsewhere;
}

stops_of : {T : Type 0} (result : Result T Stop) (store : DiskState) (s : State) (asked : AskedOf) (payload : Payload) (d e : Told) → IsPayloadOf (host_of_state s) asked payload → Tells store payload (bytes_in s) → Carries result store asked payload d e → StopsWell s asked d e
stops_of result store s asked payload d e is tells carries = record {
  there = λ quiet none t since.
      let left = (carries.stops quiet (bytes_in s) tells).there none t since in
      record {
        manifest = elim left.manifest [
          | inl old ↦ inl old
          | inr new ↦ inr (payload, allows (host_of_state s) asked (now d.places) payload is new.0, new.1)
        ];
        elsewhere = left.elsewhere;
      };
  missing = λ quiet first at t since. (carries.stops quiet (bytes_in s) tells).missing first at t since;
}

ends_stopped : (T : Type 0) (stop : Stop) (s : State) (asked : AskedOf) (payload : Payload) (d e : Told) → IsPayloadOf (host_of_state s) asked payload → EndsCarrying {T = T} (Err stop) asked payload (bytes_in s) d e → EndsAttempt (Err stop) s asked d e
ends_stopped T stops.OutOfMemory s asked payload d e is ends = tt
ends_stopped T (stops.Refused refusal) s asked payload d e is ends = (refuses (host_of_state s) asked (now d.places) payload refusal is ends.0, λ p. ap (λ (t : Tree). t p) ends.1)
ends_stopped T stops.DiskFault s asked payload d e is ends = tt
ends_stopped T stops.OutFault s asked payload d e is ends = tt
ends_stopped T (stops.BadStore why) s asked payload d e is ends = ends
ends_stopped T stops.Unfinished s asked payload d e is ends = (payload, allows (host_of_state s) asked (now d.places) payload is ends.0, ends.1)

-- it was published, or not
pub attempts_done : {T : Type 0} (x : T) (made : Made) (store : DiskState) (host : Host) (asked : AskedOf) (payload : Payload) (old new : Option Told) → GivesPayload host.root asked.path (Ok payload) → IsMadeOf made payload
    → BothTold (Carries {T = T} (Ok x) store asked payload) old new → (s : State) → TellsHost store host s → BothTold (AttemptsOn (Ok made) s asked) old new
attempts_done x made store host asked payload None None gives is both s tells = tt
attempts_done x made store host asked payload None (Some e) gives is both s tells = both
attempts_done x made store host asked payload (Some d) None gives is both s tells = both
attempts_done x made store host asked payload (Some d) (Some e) gives is both s tells =
    let of = payload_is store host s asked payload tells gives in
    let told = tells_payload store host s asked.path payload tells gives in
    record {
      ends = λ quiet. (payload, done_of s asked d e payload of (both.ends quiet (bytes_in s) told), is);
      stops = stops_of (Ok x) store s asked payload d e of told both;
    }

pub attempts_stopped : (T : Type 0) (stop : Stop) (store : DiskState) (host : Host) (asked : AskedOf) (payload : Payload) (old new : Option Told) → GivesPayload host.root asked.path (Ok payload)
    → BothTold (Carries {T = T} (Err stop) store asked payload) old new → (s : State) → TellsHost store host s → BothTold (AttemptsOn (Err stop) s asked) old new
attempts_stopped T stop store host asked payload None None gives both s tells = tt
attempts_stopped T stop store host asked payload None (Some e) gives both s tells = both
attempts_stopped T stop store host asked payload (Some d) None gives both s tells = both
attempts_stopped T stop store host asked payload (Some d) (Some e) gives both s tells =
    let of = payload_is store host s asked payload tells gives in
    let told = tells_payload store host s asked.path payload tells gives in
    record {
      ends = λ quiet. ends_stopped T stop s asked payload d e of (both.ends quiet (bytes_in s) told);
      stops = stops_of {T = T} (Err stop) store s asked payload d e of told both;
    }

-- nothing changed
abbrev pub AllUnchanged : Told → Told → Type 0
AllUnchanged d e = (p : List (List ℕ)) → IsUnchangedAt d e p

left_as_was : (d e : Told) → IsDisk d → IsQuiet d.places → AllUnchanged d e → (t : Tree) → Since e d.clock t → (p : List (List ℕ)) → t p ≡ now d.places p
left_as_was d e disk quiet all t since p = Rattle.ext_publish.proofs.CarryingLemmas.fixed_quiet d e p disk quiet (all p) t since

pub stops_unchanged : (s : State) (asked : AskedOf) (d e : Told) → IsDisk d → AllUnchanged d e → StopsWell s asked d e
stops_unchanged s asked d e disk all = record {
  there = λ quiet none t since. record { manifest = inl (left_as_was d e disk quiet all t since (published_manifest_path asked)); elsewhere = λ p apart. left_as_was d e disk quiet all t since p };
  missing = λ quiet first is t since p apart. left_as_was d e disk quiet all t since p;
}

unchanged_now : (d e : Told) → AllUnchanged d e → now e.places ≡ now d.places
unchanged_now d e all = λ i p. (all p).stays.node i

pub attempts_unchanged : (stop : Stop) (s : State) (asked : AskedOf) (d e : Told) → IsDisk d → AllUnchanged d e → EndsAttempt (Err stop) s asked d e → AttemptsOn (Err stop) s asked d e
attempts_unchanged stop s asked d e disk all ends = record { ends = λ quiet. ends; stops = stops_unchanged s asked d e disk all }

-- a count of what stands depends on what stands alone
all_stand : (reach : List (List ℕ) → Bool) (x y : Places) (ps : List (List (List ℕ))) → now x ≡ now y → AllStand reach y ps → AllStand reach x ps
all_stand reach x y [] same all = tt
all_stand reach x y (p ∷ ps) same all = (all.0, ap (λ (t : Tree). is_some (t p)) same ∙ all.1, all_stand reach x y ps same all.2)

stand_same : (reach : List (List ℕ) → Bool) (x y : Places) (ps : List (List (List ℕ))) → now x ≡ now y → Stand reach y ps → Stand reach x ps
stand_same reach x y ps same stand = record { distinct = stand.distinct; all = all_stand reach x y ps same stand.all }

more_same : (reach : List (List ℕ) → Bool) (x y : Places) → now x ≡ now y → MoreThan most_left_overs reach y → MoreThan most_left_overs reach x
more_same reach x y same more = (more.0, stand_same reach x y more.0 same more.1, more.2)

ends_later : (result : Result Made Stop) (s : State) (asked : AskedOf) (d c e : Told) → now c.places ≡ now d.places → EndsAttempt result s asked c e → EndsAttempt result s asked d e
ends_later (Ok made) s asked d c e same ends = (
  ends.0,
  record {
    allowed = subst (λ t. IsAllowed (host_of_state s) asked t ends.0) same ends.1.allowed;
    few = λ ps stand. ends.1.few ps (stand_same (is_left_at asked) c.places d.places ps same stand);
    published = ends.1.published;
    durable = ends.1.durable;
    elsewhere = subst (λ t. Rattle.ext_publish.specs.Carrying.ChangesThere t (now e.places) asked) same ends.1.elsewhere;
  },
  ends.2,
)
ends_later (Err stops.OutOfMemory) s asked d c e same ends = tt
ends_later (Err (stops.Refused refusal)) s asked d c e same ends =
    (subst (λ t. IsRefused (host_of_state s) asked t refusal) same ends.0, λ p. ends.1 p ∙ ap (λ (t : Tree). t p) same)
ends_later (Err stops.DiskFault) s asked d c e same ends = tt
ends_later (Err stops.OutFault) s asked d c e same ends = tt
ends_later (Err (stops.BadStore why)) s asked d c e same ends = ends
ends_later (Err stops.Unfinished) s asked d c e same ends =
    (ends.0, subst (λ t. IsAllowed (host_of_state s) asked t ends.0) same ends.1, more_same (is_left_at asked) d.places c.places (sym same) ends.2)

quiet_later : (d c : Told) → AllUnchanged d c → IsQuiet d.places → IsQuiet c.places
quiet_later d c all quiet = record { synced = λ p. (all p).stays.synced (quiet.synced p); hard = λ p. (all p).stays.hard (quiet.hard p) }

stops_later : (s : State) (asked : AskedOf) (d c e : Told) → IsDisk d → AllUnchanged d c → IsLater c e → StopsWell s asked c e → StopsWell s asked d e
stops_later s asked d c e disk all later stops = record {
  there = λ quiet none t since. elim ((since_past c e d.clock t later).1 since) [
    | inl before ↦ record { manifest = inl (left_as_was d c disk quiet all t before (published_manifest_path asked)); elsewhere = λ p apart. left_as_was d c disk quiet all t before p }
    | inr after ↦
        subst (λ x. Rattle.ext_publish.specs.Stops.IsLeftWhole s x t asked) (unchanged_now d c all)
        (stops.there (quiet_later d c all quiet) (ap (λ x. first_missing x [] asked.folder) (unchanged_now d c all) ∙ none) t after)
  ];
  missing = λ quiet first is t since. elim ((since_past c e d.clock t later).1 since) [
    | inl before ↦ λ p apart. left_as_was d c disk quiet all t before p
    | inr after ↦
        subst (λ x. Rattle.ext_publish.specs.Stops.IsLeftElsewhere x t first) (unchanged_now d c all)
        (stops.missing (quiet_later d c all quiet) first (ap (λ x. first_missing x [] asked.folder) (unchanged_now d c all) ∙ is) t after)
  ];
}

-- a run in a folder in which nothing had changed
attempts_later : (result : Result Made Stop) (s : State) (asked : AskedOf) (d c e : Told) → IsDisk d → AllUnchanged d c → IsLater c e → AttemptsOn result s asked c e → AttemptsOn result s asked d e
attempts_later result s asked d c e disk all later on = record {
  ends = λ quiet. ends_later result s asked d c e (unchanged_now d c all) (on.ends (quiet_later d c all quiet));
  stops = stops_later s asked d c e disk all later on.stops;
}

-- syncs alone
synced_unchanged : (x y : Option Told) → BothTold (λ d e. (p : List (List ℕ)) → false ≡ false → IsUnchangedAt d e p) x y → BothTold AllUnchanged x y
synced_unchanged None None out = tt
synced_unchanged None (Some e) out = out
synced_unchanged (Some d) None out = out
synced_unchanged (Some d) (Some e) out = λ p. out p refl

out_attempt : (stop : Stop) (old new : DiskState) (s : State) (asked : AskedOf) (d e : Told) → OutCause old new stop → EndsAttempt (Err stop) s asked d e
out_attempt stops.OutOfMemory old new s asked d e cause = tt
out_attempt (stops.Refused refusal) old new s asked d e cause = absurd cause
out_attempt stops.DiskFault old new s asked d e cause = tt
out_attempt stops.OutFault old new s asked d e cause = tt
out_attempt (stops.BadStore why) old new s asked d e cause = absurd cause
out_attempt stops.Unfinished old new s asked d e cause = absurd cause

-- the folders were not all synced
pub attempts_unsynced : (stop : Stop) (store : DiskState) (opened : Option Generation) (asked : AskedOf) (old new : DiskState) → IfSome old.told IsDisk → Works nowhere nowhere 0 old new → OutCause old new stop
    → (s : State) → TellsOpened store opened s → BothTold (AttemptsOn (Err stop) s asked) old.told new.told
attempts_unsynced stop store opened asked old new disk works cause s tells = at old.told new.told disk (synced_unchanged old.told new.told works.spares.told)
  where
    at : (x y : Option Told) → IfSome x IsDisk → BothTold AllUnchanged x y → BothTold (AttemptsOn (Err stop) s asked) x y
    at None None disk all = tt
    at None (Some e) disk all = all
    at (Some d) None disk all = all
    at (Some d) (Some e) disk all = attempts_unchanged stop s asked d e disk all (out_attempt stop old new s asked d e cause)

-- there is no store
pub attempts_nothing : (store : DiskState) (asked : AskedOf) (old new : DiskState) → IfSome old.told IsDisk → Works nowhere nowhere 0 old new → (s : State) → TellsOpened store None s
    → BothTold (AttemptsOn (Err (stops.Refused NoStore)) s asked) old.told new.told
attempts_nothing store asked old new disk works s tells = at old.told new.told disk (synced_unchanged old.told new.told works.spares.told)
  where
    at : (x y : Option Told) → IfSome x IsDisk → BothTold AllUnchanged x y → BothTold (AttemptsOn (Err (stops.Refused NoStore)) s asked) x y
    at None None disk all = tt
    at None (Some e) disk all = all
    at (Some d) None disk all = all
    at (Some d) (Some e) disk all = attempts_unchanged (stops.Refused NoStore) s asked d e disk all (tells, λ p. (all p).stays.node)

-- the folders were synced, and it went on
pub attempts_synced : (result : Result Made Stop) (asked : AskedOf) (s : State) (old mid new : DiskState) → IfSome old.told IsDisk → Works nowhere nowhere 0 old mid → Follows mid new → BothTold (AttemptsOn result s asked) mid.told new.told
    → BothTold (AttemptsOn result s asked) old.told new.told
attempts_synced result asked s old mid new disk works follows on = at old.told mid.told new.told disk (synced_unchanged old.told mid.told works.spares.told) follows.told on
  where
    at : (x y z : Option Told) → IfSome x IsDisk → BothTold AllUnchanged x y → BothTold IsLater y z → BothTold (AttemptsOn result s asked) y z → BothTold (AttemptsOn result s asked) x z
    at None None None disk all later on = tt
    at None None (Some e) disk all later on = later
    at None (Some c) z disk all later on = absurd all
    at (Some d) None z disk all later on = absurd all
    at (Some d) (Some c) None disk all later on = later
    at (Some d) (Some c) (Some e) disk all later on = attempts_later result s asked d c e disk all later on

-- the host has nothing to be published there
no_payload_ends : (stop : Stop) (store : DiskState) (host : Host) (s : State) (asked : AskedOf) (d : Told) → TellsHost store host s → HasNoPayload host.root asked.path stop → EndsAttempt (Err stop) s asked d d
no_payload_ends stops.OutOfMemory store host s asked d tells none = tt
no_payload_ends (stops.Refused NoStore) store host s asked d tells none = absurd none
no_payload_ends (stops.Refused (NoEntry at)) store host s asked d tells none = ((none.0, (host, tells.is, subst (HasNoneAt host.root) (sym none.0) none.1)), λ p. refl)
no_payload_ends (stops.Refused (NotFile at)) store host s asked d tells none = ((none.0, (host, tells.is, subst (HasOtherAt host.root) (sym none.0) none.1)), λ p. refl)
no_payload_ends (stops.Refused LimitPath) store host s asked d tells none = absurd none
no_payload_ends (stops.Refused (OutKind at)) store host s asked d tells none = absurd none
no_payload_ends (stops.Refused LimitText) store host s asked d tells none = absurd none
no_payload_ends (stops.Refused (OutManifest line)) store host s asked d tells none = absurd none
no_payload_ends (stops.Refused (Listed name)) store host s asked d tells none = absurd none
no_payload_ends stops.DiskFault store host s asked d tells none = tt
no_payload_ends stops.OutFault store host s asked d tells none = tt
no_payload_ends (stops.BadStore why) store host s asked d tells none = absurd none
no_payload_ends stops.Unfinished store host s asked d tells none = absurd none

still : (stop : Stop) (asked : AskedOf) (s : State) → (x : Option Told) → IfSome x IsDisk → ((d : Told) → EndsAttempt (Err stop) s asked d d) → BothTold (AttemptsOn (Err stop) s asked) x x
still stop asked s None disk ends = tt
still stop asked s (Some d) disk ends = attempts_unchanged stop s asked d d disk (λ p. unchanged_itself d p) (ends d)

pub attempts_no_payload : (stop : Stop) (store : DiskState) (host : Host) (asked : AskedOf) (out : DiskState) → IfSome out.told IsDisk → HasNoPayload host.root asked.path stop → (s : State) → TellsHost store host s → BothTold (AttemptsOn (Err stop) s asked) out.told out.told
attempts_no_payload stop store host asked out disk none s tells = still stop asked s out.told disk (λ d. no_payload_ends stop store host s asked d tells none)

-- no memory
pub attempts_memory : (stop : Stop) (asked : AskedOf) (out : DiskState) → IfSome out.told IsDisk → stop ≡ stops.OutOfMemory → (s : State) → BothTold (AttemptsOn (Err stop) s asked) out.told out.told
attempts_memory stop asked out disk is s = still stop asked s out.told disk (λ d. subst (λ e. EndsAttempt (Err e) s asked d d) (sym is) tt)

-- causes
pub host_out : (store old new : DiskState) (stop : Stop) → OutCause old new stop → HostCause store store old new stop
host_out store old new stops.OutOfMemory cause = tt
host_out store old new (stops.Refused refusal) cause = tt
host_out store old new stops.DiskFault cause = absurd cause
host_out store old new stops.OutFault cause = cause
host_out store old new (stops.BadStore why) cause = absurd cause
host_out store old new stops.Unfinished cause = tt

pub host_since : (store after old mid new : DiskState) (stop : Stop) → old.faults ≤ mid.faults → HostCause store after mid new stop → HostCause store after old new stop
host_since store after old mid new stops.OutOfMemory count cause = tt
host_since store after old mid new (stops.Refused refusal) count cause = tt
host_since store after old mid new stops.DiskFault count cause = cause
host_since store after old mid new stops.OutFault count cause = rose_since old.faults mid.faults new.faults count cause
host_since store after old mid new (stops.BadStore (bad_stores.Broken line)) count cause = cause
host_since store after old mid new (stops.BadStore (bad_stores.Damaged damage)) count cause = tt
host_since store after old mid new stops.Unfinished count cause = tt

pub host_no_payload : (root : Entries HeldFile) (path : List (List ℕ)) (store old : DiskState) (stop : Stop) → HasNoPayload root path stop → HostCause store store old old stop
host_no_payload root path store old stops.OutOfMemory none = tt
host_no_payload root path store old (stops.Refused refusal) none = tt
host_no_payload root path store old stops.DiskFault none = absurd none
host_no_payload root path store old stops.OutFault none = absurd none
host_no_payload root path store old (stops.BadStore why) none = absurd none
host_no_payload root path store old stops.Unfinished none = tt

pub host_carry : (payload : Payload) (store after old new : DiskState) (stop : Stop) → CarryCause payload store after old new stop → HostCause store after old new stop
host_carry payload store after old new stops.OutOfMemory cause = tt
host_carry payload store after old new (stops.Refused refusal) cause = tt
host_carry payload store after old new stops.DiskFault cause = cause
host_carry payload store after old new stops.OutFault cause = cause
host_carry payload store after old new (stops.BadStore (bad_stores.Broken line)) cause = cause
host_carry payload store after old new (stops.BadStore (bad_stores.Damaged damage)) cause = tt
host_carry payload store after old new stops.Unfinished cause = tt

attempt_host : (old mid after out new : DiskState) (stop : Stop) → old.faults ≤ mid.faults → HostCause mid after out new stop → AttemptCause old after out new stop
attempt_host old mid after out new stops.OutOfMemory count cause = tt
attempt_host old mid after out new (stops.Refused refusal) count cause = tt
attempt_host old mid after out new stops.DiskFault count cause = rose_since old.faults mid.faults after.faults count cause
attempt_host old mid after out new stops.OutFault count cause = cause
attempt_host old mid after out new (stops.BadStore why) count cause = tt
attempt_host old mid after out new stops.Unfinished count cause = tt

not_broken : (mid after out new : DiskState) (stop : Stop) (t : Tree) → HostCause mid after out new stop → IsBrokenStop t stop
not_broken mid after out new stops.OutOfMemory t cause = tt
not_broken mid after out new (stops.Refused refusal) t cause = tt
not_broken mid after out new stops.DiskFault t cause = tt
not_broken mid after out new stops.OutFault t cause = tt
not_broken mid after out new (stops.BadStore (bad_stores.Broken line)) t cause = absurd cause
not_broken mid after out new (stops.BadStore (bad_stores.Damaged damage)) t cause = tt
not_broken mid after out new stops.Unfinished t cause = tt

if_err : {T : Type 0} (P Q : Stop → Type 0) → ((e : Stop) → P e → Q e) → (result : Result T Stop) → IfErr result P → IfErr result Q
if_err P Q gives (Ok x) is = tt
if_err P Q gives (Err e) is = gives e is

if_all : (P : Told → Type 0) → ((d : Told) → P d) → (x : Option Told) → IfSome x P
if_all P gives None = tt
if_all P gives (Some d) = gives d

-- the store was opened, and what is asked published of it or not
pub attempts_opened : (opened : Option Generation) (result : Result Made Stop) (asked : AskedOf) (store mid after out new : DiskState) → Follows store mid → BothTold KeepsNow store.told mid.told → BothTold (OpensTold (Ok opened)) store.told mid.told
    → IfSome store.told (λ d. OpenSays (Ok opened) (now d.places)) → Rests mid after → Follows out new → IfErr result (HostCause mid after out new) → ((s : State) → TellsOpened mid opened s → BothTold (AttemptsOn result s asked) out.told new.told)
    → Attempts result asked store after out new
attempts_opened opened result asked store mid after out new follows keeps opens says rests goes cause told = record {
  store = keeps_store (Ok opened) store mid after follows keeps opens rests;
  out = goes;
  cause = if_err (HostCause mid after out new) (AttemptCause store after out new) (λ e is. attempt_host store mid after out new e follows.count is) result cause;
  broken = if_all (λ d. IfErr result (IsBrokenStop (now d.places))) (λ d. if_err (HostCause mid after out new) (IsBrokenStop (now d.places)) (λ e is. not_broken mid after out new e (now d.places) is) result cause) store.told;
  told = at store.told (opened_tells opened mid store.told keeps says);
}
  where
    over : (d : Told) (x y : Option Told) → BothTold IsLater x y → ((s : State) → Stands (now d.places) s → BothTold (AttemptsOn result s asked) x y) → BothTold (AttemptsOver result asked d) x y
    over d None None later gives = tt
    over d None (Some f) later gives = later
    over d (Some e) None later gives = later
    over d (Some e) (Some f) later gives = λ sound s stands. gives s stands

    at : (x : Option Told) → IfSome x (λ d. (s : State) → Stands (now d.places) s → TellsOpened mid opened s) → IfSome x (λ d. BothTold (AttemptsOver result asked d) out.told new.told)
    at None tells = tt
    at (Some d) tells = over d out.told new.told goes.told (λ s stands. told s (tells s stands))

unopened_cause : (error : StoreErr) (store after out : DiskState) → OpenCause store.faults after.faults error → AttemptCause store after out out (stop_of_store error)
unopened_cause (store_errors.Fault faults.OutOfMemory) store after out cause = tt
unopened_cause (store_errors.Fault faults.DiskFault) store after out cause = cause
unopened_cause (store_errors.Fault faults.DepotFault) store after out cause = absurd cause
unopened_cause (store_errors.Broken line) store after out cause = tt
unopened_cause (store_errors.Fault (faults.Damaged damage)) store after out cause = tt
unopened_cause (store_errors.Mismatch path listed found) store after out cause = absurd cause
unopened_cause (store_errors.NotInDepot path) store after out cause = absurd cause
unopened_cause store_errors.Unfinished store after out cause = absurd cause
unopened_cause (store_errors.Limit which) store after out cause = absurd cause

unopened_broken : (error : StoreErr) (t : Tree) → OpenSays (Err error) t → IsBrokenStop t (stop_of_store error)
unopened_broken (store_errors.Fault faults.OutOfMemory) t says = tt
unopened_broken (store_errors.Fault faults.DiskFault) t says = tt
unopened_broken (store_errors.Fault faults.DepotFault) t says = tt
unopened_broken (store_errors.Broken line) t says = says
unopened_broken (store_errors.Fault (faults.Damaged damage)) t says = tt
unopened_broken (store_errors.Mismatch path listed found) t says = tt
unopened_broken (store_errors.NotInDepot path) t says = tt
unopened_broken store_errors.Unfinished t says = tt
unopened_broken (store_errors.Limit which) t says = tt

unopened_ends : (error : StoreErr) (s : State) (asked : AskedOf) (x d : Told) → IsSound x.places → OpenSays (Err error) (now x.places) → EndsAttempt (Err (stop_of_store error)) s asked d d
unopened_ends (store_errors.Fault faults.OutOfMemory) s asked x d sound says = tt
unopened_ends (store_errors.Fault faults.DiskFault) s asked x d sound says = tt
unopened_ends (store_errors.Fault faults.DepotFault) s asked x d sound says = tt
unopened_ends (store_errors.Broken line) s asked x d sound says = sound_is_not_broken x.places line sound says
unopened_ends (store_errors.Fault (faults.Damaged damage)) s asked x d sound says = says
unopened_ends (store_errors.Mismatch path listed found) s asked x d sound says = tt
unopened_ends (store_errors.NotInDepot path) s asked x d sound says = tt
unopened_ends store_errors.Unfinished s asked x d sound says = tt
unopened_ends (store_errors.Limit which) s asked x d sound says = tt

-- it was not opened
pub attempts_unopened : (error : StoreErr) (asked : AskedOf) (store after out : DiskState) → Follows store after → BothTold KeepsNow store.told after.told → BothTold (OpensTold (Err error)) store.told after.told
    → IfSome store.told (λ d. OpenSays (Err error) (now d.places)) → OpenCause store.faults after.faults error → IfSome out.told IsDisk → Attempts (Err (stop_of_store error)) asked store after out out
attempts_unopened error asked store after out follows keeps opens says cause disk = record {
  store = keeps_store (Err error) store after after follows keeps opens (Rattle.ext_disk.proofs.ForCallers.rests_itself after);
  out = Rattle.ext_disk.proofs.ForCallers.follows_itself out;
  cause = unopened_cause error store after out cause;
  broken = broken store.told says;
  told = told store.told says;
}
  where
    broken : (x : Option Told) → IfSome x (λ d. OpenSays (Err error) (now d.places)) → IfSome x (λ d. IsBrokenStop (now d.places) (stop_of_store error))
    broken None says = tt
    broken (Some d) says = unopened_broken error (now d.places) says

    over : (d : Told) → OpenSays (Err error) (now d.places) → (x : Option Told) → IfSome x IsDisk → BothTold (AttemptsOver (Err (stop_of_store error)) asked d) x x
    over d says None disk = tt
    over d says (Some e) disk = λ sound s stands. attempts_unchanged (stop_of_store error) s asked e e disk (λ p. unchanged_itself e p) (unopened_ends error s asked d e sound says)

    told : (x : Option Told) → IfSome x (λ d. OpenSays (Err error) (now d.places)) → IfSome x (λ d. BothTold (AttemptsOver (Err (stop_of_store error)) asked d) out.told out.told)
    told None says = tt
    told (Some d) says = over d says out.told disk
