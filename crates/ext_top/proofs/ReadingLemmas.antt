-- Commands that only read the store: nothing is done, or its files are checked, or one of them is shown.
use Rattle.std.specs.Prelude.{IfErr}
use Rattle.std.proofs.Common.{◌≡◌, ℕ, true, List, inl, Option, Some, None, IfSome, Result, Ok, Err, refl, sym, ap, ◌∙◌, subst}
use Rattle.ext_depot.specs.Depot.{DepotState, Files}
use Rattle.ext_disk.specs.Disk.{Told, DiskState, BothTold, IsDisk, now}
use Rattle.ext_host.specs.Drawn.{IsFileOf}
use Rattle.ext_host.specs.Held.{HeldFile}
use Rattle.ext_host.specs.Shelf.{IsFound, ShelfCause}
use Rattle.ext_host.specs.declared.host.Host.{Host}
use Rattle.ext_host.specs.declared.shelf.ShelfErr.{ShelfErr}
use Rattle.ext_host.specs.declared.shelf.ShelfErr.TheVariants as shelf_errors
use Rattle.ext_host.specs.declared.damage.Damage.{Damage}
use Rattle.ext_store_files.specs.HeldFiles.{body_told, is_served}
use Rattle.ext_store_files.specs.declared.fault.StoreFault.TheVariants.{OutOfMemory, DiskFault, DepotFault, Damaged}
use Rattle.ext_homes.specs.Giving.{lists_kept, trees_before}
use Rattle.ext_gen.specs.Checking as gen
use Rattle.ext_gen.specs.Checking.{AreChecked, files_of_host}
use Rattle.ext_gen.specs.Opened.{Generation, IsOpened}
use Rattle.ext_gen.specs.Preparing.{host_before}
use Rattle.ext_gen.specs.Store.{State, none, at, Stands, generation_in}
use Rattle.ext_gen.specs.Sound.{IsDurably}
use Rattle.ext_gen.proofs.ForCallers.{opened_is_served, opened_is_well_formed}
use Rattle.ext_cmd.specs.Replies.{answer_text}
use Rattle.ext_cmd.specs.declared.answer.Answer.{Answer}
use Rattle.ext_cmd.specs.declared.answer.Answer.TheVariants.{Checked}
use Rattle.ext_cmd.specs.declared.refusal.Refusal.{Refusal}
use Rattle.ext_intents.specs.Check.{host_files}
use Rattle.ext_intents.specs.Intents.{trees_seen}
use Rattle.ext_intents.specs.declared.intent.Intent.TheVariants.{Answers, Refuses}
use Rattle.ext_top.specs.Applying.{AppliesEnds, AppliesTold, ApplyCause, IsApplied, IsDamage, RestCause, apply_err_of_shelf}
use Rattle.ext_top.specs.Machine.{Comes, Counts, Outcome, bytes_at, checked_text, gives, refuses, shows, state_after}
use Rattle.ext_top.specs.declared.applied.Applied.{Applied}
use Rattle.ext_top.specs.declared.applied.Reply.TheVariants.{Text, File, Refused}
use Rattle.ext_top.specs.declared.apply_err.ApplyErr.{ApplyErr}
use Rattle.ext_top.specs.declared.apply_err.ApplyErr.TheVariants.{Fault, Unfinished}
use Rattle.ext_top.proofs.ApplyingLemmas.{rested_told, trees_alike}
use Rattle.ext_top.proofs.CheckLemmas.{file_of_host, kept_is_listed, number_of_host, size_of_host}
use Rattle.ext_top.proofs.StoredLemmas.{none_damaged, of_no_tree}

pub answered : (P : State → Outcome → Type 0) (from : Option Generation) (old new : DiskState) (applied : Applied) (outcome : State → Outcome) → new.told ≡ old.told → IfSome old.told IsDisk
    → ((s : State) → generation_in s ≡ from → P s (outcome s) × IsApplied s (outcome s) applied × (state_after s (outcome s) ≡ s)) → BothTold (AppliesTold P from (Ok applied)) old.told new.told
answered P from old new applied outcome same disk says = rested_told P from (Ok applied) old.told new.told same disk (λ d told s is durably.
    let of = says s is in
    (outcome s, of.0, of.1, subst (λ t. IsDurably t d.places) (sym of.2) durably))

-- an answer
pub answers_applied : (answer : Answer) (text : List ℕ) (from : Option Generation) (files : Option Files) (old new : DiskState) → text ≡ answer_text answer → new.told ≡ old.told → IfSome old.told IsDisk
    → BothTold (AppliesTold (λ s. Comes s files (Answers answer)) from (Ok (record { opened = from; reply = Text text }))) old.told new.told
answers_applied answer text from files old new is same disk = answered (λ s. Comes s files (Answers answer)) from old new (record { opened = from; reply = Text text }) (λ s. gives s text) same disk
    (λ s here. (ap (gives s) is, record { opened = sym here; reply = (s, refl) }, refl))

-- a refusal
pub refusal_applied : (refusal : Refusal) (from : Option Generation) (files : Option Files) (old new : DiskState) → new.told ≡ old.told → IfSome old.told IsDisk
    → BothTold (AppliesTold (λ s. Comes s files (Refuses refusal)) from (Ok (record { opened = from; reply = Refused refusal }))) old.told new.told
refusal_applied refusal from files old new same disk = answered (λ s. Comes s files (Refuses refusal)) from old new (record { opened = from; reply = Refused refusal }) (λ s. refuses refusal) same disk
    (λ s here. (refl, record { opened = sym here; reply = refl }, refl))

-- no store that stands for a state is damaged
pub no_damage : (s : State) (from : Option Generation) (d : Told) (disk : DiskState) (damage : Damage) → generation_in s ≡ from → disk.told ≡ Some d → Stands (now d.places) s
    → ¬ IsDamage from disk damage
no_damage s from d disk damage is told stands differs =
    none_damaged s d disk told stands damage.listed damage.home damage.found (subst (λ o. lists_kept (trees_before (host_before o)) damage.listed damage.home) (sym is) differs.lists) differs.differs

unread_ends : (P : Outcome → Type 0) (from : Option Generation) (old new : DiskState) (error : ApplyErr) (s : State) (d : Told) → generation_in s ≡ from → old.told ≡ Some d → IsDurably s d.places → RestCause from old new error
    → AppliesEnds P s (Err error) d.places
unread_ends P from old new (Fault DiskFault) s d is told durably cause = inl durably
unread_ends P from old new (Fault DepotFault) s d is told durably cause = absurd cause
unread_ends P from old new (Fault (Damaged damage)) s d is told durably cause = absurd (no_damage s from d old damage is told durably.stands cause)
unread_ends P from old new Unfinished s d is told durably cause = absurd cause
unread_ends P from old new (Fault OutOfMemory) s d is told durably cause = durably

pub unread_applies : (P : State → Outcome → Type 0) (from : Option Generation) (old new : DiskState) (error : ApplyErr) → new.told ≡ old.told → IfSome old.told IsDisk → RestCause from old new error
    → BothTold (AppliesTold P from (Err error)) old.told new.told
unread_applies P from old new error same disk cause = rested_told P from (Err error) old.told new.told same disk (λ d told s is durably. unread_ends (P s) from old new error s d is told durably cause)

-- a cause of a command that only reads the store is one of a command that may do more
pub rest_cause : (from : Option Generation) (old new : DiskState) (before after : DepotState) (error : ApplyErr) → RestCause from old new error → ApplyCause from old new before after error
rest_cause from old new before after (Fault DiskFault) cause = cause
rest_cause from old new before after (Fault DepotFault) cause = absurd cause
rest_cause from old new before after (Fault (Damaged damage)) cause = cause
rest_cause from old new before after Unfinished cause = absurd cause
rest_cause from old new before after (Fault OutOfMemory) cause = tt

-- it is a file of the host that the store has
pub file_cause : (from : Option Generation) (old new : DiskState) (held : HeldFile) (error : ShelfErr) → IsFileOf (trees_before (host_before from)) held → ShelfCause old.faults new.faults (body_told old held.body) held error
    → RestCause from old new (apply_err_of_shelf error)
file_cause from old new held shelf_errors.OutOfMemory file cause = tt
file_cause from old new held shelf_errors.Fault file cause = cause
file_cause from old new held (shelf_errors.Damaged damage) file cause = record {
  lists = kept_is_listed (trees_before (host_before from)) held damage.home damage.listed cause.0 file;
  differs = subst (λ t. IsFound damage.listed t damage.found) (ap (body_told old) cause.0.body) cause.1;
}

-- the first of the host's files that was not
pub check_cause : (g : Generation) (old new : DiskState) (error : ShelfErr) → IsOpened g → gen.StopsAtFile old new (files_of_host g.host) error → RestCause (Some g) old new (apply_err_of_shelf error)
check_cause g old new error opened stops =
    file_cause (Some g) old new stops.held error (file_of_host g.host stops.before stops.after stops.held (opened_is_well_formed g opened) stops.is) stops.cause

pub checked_is : (disk : DiskState) (host : Host) (counts : ℕ × ℕ) (text : List ℕ) → AreChecked disk (files_of_host host) counts → text ≡ answer_text (Checked counts.0 counts.1) → text ≡ checked_text host
checked_is disk host counts text checked is =
    is ∙ (ap (λ n. answer_text (Checked n counts.1)) (checked.number ∙ number_of_host host) ∙ ap (λ n. answer_text (Checked (host_files host) n)) (checked.bytes ∙ size_of_host host))

counts_of : (g : Generation) (text : List ℕ) (s : State) → text ≡ checked_text g.host → generation_in s ≡ Some g → Counts s (gives s text)
counts_of g text none is same = cc
counts_of g text (at h contents) is same = let one : h ≡ g = cc in ap (gives (at h contents)) (is ∙ ap (λ (x : Generation). checked_text x.host) (sym one))

pub checked_applied : (g : Generation) (counts : ℕ × ℕ) (text : List ℕ) (old new : DiskState) → AreChecked old (files_of_host g.host) counts → text ≡ answer_text (Checked counts.0 counts.1) → new.told ≡ old.told → IfSome old.told IsDisk
    → BothTold (AppliesTold (λ s. Counts s) (Some g) (Ok (record { opened = Some g; reply = Text text }))) old.told new.told
checked_applied g counts text old new checked is same disk = answered (λ s. Counts s) (Some g) old new (record { opened = Some g; reply = Text text }) (λ s. gives s text) same disk
    (λ s here. (counts_of g text s (checked_is old g.host counts text checked is) here, record { opened = sym here; reply = (s, refl) }, refl))

pub seen_is_before : (from : Option Generation) (held : HeldFile) → IsFileOf (trees_seen (host_before from)) held → IsFileOf (trees_before (host_before from)) held
seen_is_before from held file = subst (λ trees. IsFileOf trees held) (trees_alike from) file

before_is_served : (from : Option Generation) (held : HeldFile) → IfSome from IsOpened → IsFileOf (trees_before (host_before from)) held → is_served held.body ≡ true
before_is_served None held opened file = absurd (of_no_tree held file)
before_is_served (Some g) held opened file = opened_is_served g opened held file

pub seen_is_served : (from : Option Generation) (held : HeldFile) → IfSome from IsOpened → IsFileOf (trees_seen (host_before from)) held → is_served held.body ≡ true
seen_is_served from held opened file = before_is_served from held opened (seen_is_before from held file)

pub shown_applied : (held : HeldFile) (from : Option Generation) (old new : DiskState) → IsFileOf (trees_before (host_before from)) held → new.told ≡ old.told → IfSome old.told IsDisk
    → BothTold (AppliesTold (λ s outcome. outcome ≡ shows (bytes_at s held.body)) from (Ok (record { opened = from; reply = File held }))) old.told new.told
shown_applied held from old new file same disk =
    answered (λ s outcome. outcome ≡ shows (bytes_at s held.body)) from old new (record { opened = from; reply = File held }) (λ s. shows (bytes_at s held.body)) same disk
    (λ s here. (refl, record { opened = sym here; reply = (refl, subst (λ o. IsFileOf (trees_before (host_before o)) held) (sym here) file) }, refl))

-- why a command that only reads was not carried out is why one was not
pub rest_is_cause : (from : Option Generation) (old new : DiskState) (before after : DepotState) (result : Result Applied ApplyErr) → IfErr result (RestCause from old new) → IfErr result (ApplyCause from old new before after)
rest_is_cause from old new before after (Ok applied) cause = tt
rest_is_cause from old new before after (Err (Fault DiskFault)) cause = cause
rest_is_cause from old new before after (Err (Fault DepotFault)) cause = absurd cause
rest_is_cause from old new before after (Err (Fault (Damaged damage))) cause = cause
rest_is_cause from old new before after (Err (Fault OutOfMemory)) cause = tt
rest_is_cause from old new before after (Err Unfinished) cause = absurd cause
