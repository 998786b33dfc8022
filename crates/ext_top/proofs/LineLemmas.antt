-- A line of a run: what the command leaves, and then what its reply does.
use Rattle.std.proofs.Common.{◌≡◌, ℕ, ◌≤◌, List, [], ◌∷◌, length, inl, inr, Option, Some, None, IfOk, Result, Ok, Err, refl, sym, ap, ◌∙◌, subst, arith, append-nil}
use Rattle.std.specs.Io.KnownBytes.{Appends}
use Rattle.ext_text.specs.Causes.{Rose}
use Rattle.ext_io.specs.SinkState.{SinkState}
use Rattle.ext_depot.specs.Depot.{DepotState, Files}
use Rattle.ext_disk.specs.Disk.{Places, Told, DiskState, BothTold, now}
use Rattle.ext_disk.specs.Since.{Rests}
use Rattle.ext_host.specs.Drawn.{IsFileOf}
use Rattle.ext_host.specs.Held.{HeldFile}
use Rattle.ext_host.specs.Shelf.{IsFound, stored}
use Rattle.ext_host.specs.declared.body.Body.{Body}
use Rattle.ext_host.specs.declared.body.Body.TheVariants.{Here, Kept, Depot}
use Rattle.ext_host.specs.declared.home.Home.{Home}
use Rattle.ext_store_files.specs.HeldFiles.{body_told, told_at}
use Rattle.ext_store_files.specs.Names.{home_path}
use Rattle.ext_store_files.specs.declared.fault.StoreFault.TheVariants as store_faults
use Rattle.ext_homes.specs.Giving.{trees_before}
use Rattle.ext_index.specs.ValidIndex.{IsKeptUpTo}
use Rattle.ext_gen.specs.Opened.{Generation}
use Rattle.ext_gen.specs.Preparing.{host_before}
use Rattle.ext_gen.specs.Store.{State, none, at, Stands, generation_in}
use Rattle.ext_gen.specs.Sound.{IsDurably, StandsSince}
use Rattle.ext_gen.specs.declared.bad_store.BadStore.TheVariants.{Broken, Damaged}
use Rattle.ext_gen.proofs.ForCallers.{current_is_opened, opened_is_valid_for, stands_since_wider}
use Rattle.ext_cmd.specs.declared.command.Command.{Command}
use Rattle.ext_cmd.specs.declared.refusal.Refusal.{Refusal}
use Rattle.ext_top.specs.Applying.{AppliesEnds, AppliesTold, ApplyCause, IsPassed, IsReply, IsServedReply, IsShownReply}
use Rattle.ext_top.specs.Exits.{IsOnTheWay, Standing, StandsAs, StopsWith, between, does, durable}
use Rattle.ext_top.specs.Lines.{LineCause, LineEnds, LineStops, LineTold, stop_of_apply}
use Rattle.ext_top.specs.Machine.{Outcome, Step, bytes_at, gives, refuses, shows, state_after, trees_in}
use Rattle.ext_top.specs.Replying.{FileCause, ReplyCause, TextCause, WritesPartly, WritesRefusal, WritesReply, WritesText}
use Rattle.ext_top.specs.declared.applied.Reply.{Reply}
use Rattle.ext_top.specs.declared.applied.Reply.TheVariants.{Text, File, Refused}
use Rattle.ext_top.specs.declared.apply_err.ApplyErr.{ApplyErr}
use Rattle.ext_top.specs.declared.apply_err.ApplyErr.TheVariants as apply_errors
use Rattle.ext_top.specs.declared.lines.Written.{Written}
use Rattle.ext_top.specs.declared.stop.Stop.{Stop}
use Rattle.ext_top.specs.declared.stop.Stop.TheVariants.{WriteFault, DiskFault, DepotFault, OutOfMemory, BadStore, Unfinished}
use Rattle.ext_top.proofs.CheckLemmas.{kept_is_listed}
use Rattle.ext_top.proofs.StoredLemmas.{of_no_tree, stamped_at, told_home}

-- nothing is added
pub adds_nothing : (k : Option (List ℕ)) → Appends k k []
adds_nothing None = tt
adds_nothing (Some xs) = sym (append-nil xs)

-- a sink that is left alone
pub same_sink : (k l : SinkState) → l ≡ k → Appends k.written l.written []
same_sink k l same = subst (λ (m : SinkState). Appends k.written m.written []) (sym same) (adds_nothing k.written)

stopped : (s : State) (files : Option Files) (command : Command) (k : SinkState) (e : Places) (stop : Stop) (standing : Standing) → StopsWith stop s files (does command) standing [] → StandsAs standing e
    → LineStops (does command) s files k k e stop
stopped s files command k e stop standing stops stands = record { standing = standing; part = []; stops = stops; appends = adds_nothing k.written; stands = stands }

undone_ends : (s : State) (files : Option Files) (command : Command) (k : SinkState) (error : ApplyErr) (e : Places) → AppliesEnds (Step s files command) s (Err error) e → LineStops (does command) s files k k e (stop_of_apply error)
undone_ends s files command k (apply_errors.Fault store_faults.DiskFault) e (inl durably) = stopped s files command k e DiskFault (durable s) (inl (refl, refl)) durably
undone_ends s files command k (apply_errors.Fault store_faults.DiskFault) e (inr (outcome, step, either)) =
    stopped s files command k e DiskFault (between s (state_after s outcome)) (inr (inl (record { outcome = outcome; comes = step; stands = refl; nothing = refl }))) either
undone_ends s files command k (apply_errors.Fault store_faults.DepotFault) e durably = stopped s files command k e DepotFault (durable s) (refl, refl) durably
undone_ends s files command k (apply_errors.Fault (store_faults.Damaged damage)) e never = absurd never
undone_ends s files command k apply_errors.Unfinished e durably = stopped s files command k e Unfinished (durable s) (refl, refl) durably
undone_ends s files command k (apply_errors.Fault store_faults.OutOfMemory) e durably = stopped s files command k e OutOfMemory (durable s) (inl (refl, refl)) durably

on_the_way : (s x : State) (files : Option Files) (command : Command) → IsPassed (Step s files command) s x → IsOnTheWay s files (does command ∷ []) x
on_the_way s x files command (inl is) = inl is
on_the_way s x files command (inr (outcome, step, is)) = inr (outcome, step, is)

line_since : (s : State) (files : Option Files) (command : Command) (e : Told) (m : ℕ) → StandsSince (IsPassed (Step s files command) s) e m → StandsSince (IsOnTheWay s files (does command ∷ [])) e m
line_since s files command e m since = stands_since_wider (IsPassed (Step s files command) s) (IsOnTheWay s files (does command ∷ [])) e m (λ x. on_the_way s x files command) since

undone_told : (files : Option Files) (command : Command) (opened : Option Generation) (k : SinkState) (error : ApplyErr) (d e : Told) → AppliesTold (λ s. Step s files command) opened (Err error) d e
    → LineTold (does command) opened files k k (Err (stop_of_apply error)) d e
undone_told files command opened k error d e applies = λ s is durably.
    let of = applies s is durably in
    record { ends = undone_ends s files command k error e.places of.ends; since = line_since s files command e d.clock of.since }

pub undone_line : (files : Option Files) (command : Command) (opened : Option Generation) (k : SinkState) (error : ApplyErr) (x y : Option Told) → BothTold (AppliesTold (λ s. Step s files command) opened (Err error)) x y
    → BothTold (LineTold (does command) opened files k k (Err (stop_of_apply error))) x y
undone_line files command opened k error None None applies = tt
undone_line files command opened k error None (Some e) applies = absurd applies
undone_line files command opened k error (Some d) None applies = absurd applies
undone_line files command opened k error (Some d) (Some e) applies = undone_told files command opened k error d e applies

pub undone_cause : (opened : Option Generation) (k l : SinkState) (d e : DiskState) (before after : DepotState) (error : ApplyErr) → ApplyCause opened d e before after error → LineCause opened k l d e before after (stop_of_apply error)
undone_cause opened k l d e before after (apply_errors.Fault store_faults.DiskFault) cause = cause
undone_cause opened k l d e before after (apply_errors.Fault store_faults.DepotFault) cause = cause
undone_cause opened k l d e before after (apply_errors.Fault (store_faults.Damaged damage)) cause = cause
undone_cause opened k l d e before after apply_errors.Unfinished cause = cause
undone_cause opened k l d e before after (apply_errors.Fault store_faults.OutOfMemory) cause = tt

kept_in : (g : Generation) (d : Told) (held : HeldFile) (contents : Home → List ℕ) → Stands (now d.places) (at g contents) → IsFileOf (trees_in (at g contents)) held → IsKeptUpTo g.number held.body
kept_in g d held contents stands file = (opened_is_valid_for g (current_is_opened g (now d.places) stands.0)).kept held file

-- a file of the host of a store that stands for a state: its bytes are told, and they have the listed size
shown_told : (s : State) (d : Told) (disk : DiskState) (held : HeldFile) (body : Body) → held.body ≡ body → disk.told ≡ Some d → Stands (now d.places) s → IsFileOf (trees_in s) held
    → (body_told disk held.body ≡ stored (bytes_at s held.body)) × (length (bytes_at s held.body) ≡ held.stamp.size)
shown_told none d disk held body is told stands file = absurd (of_no_tree held file)
shown_told (at g contents) d disk held (Here bytes) is told stands file = absurd (subst (IsKeptUpTo g.number) is (kept_in g d held contents stands file))
shown_told (at g contents) d disk held (Kept home) is told stands file =
    let s = at g contents in
    let listed = kept_is_listed (trees_in s) held home held.stamp (record { body = is; stamp = refl }) file in
    subst (λ b. (body_told disk b ≡ stored (bytes_at s b)) × (length (bytes_at s b) ≡ held.stamp.size)) (sym is)
    (told_home s d disk told stands held.stamp home listed, sym (stamped_at s d stands held.stamp home listed).size)
shown_told (at g contents) d disk held (Depot path) is told stands file = absurd (subst (IsKeptUpTo g.number) is (kept_in g d held contents stands file))

-- what is handed back
abbrev pub written_of : Option Generation → Result (Option Refusal) Stop → Result Written Stop
written_of opened (Ok last) = Ok (record { opened = opened; refusal = last })
written_of opened (Err stop) = Err stop

shown_ends : (s : State) (files : Option Files) (command : Command) (k l : SinkState) (e : Places) (bytes : List ℕ) (opened : Option Generation) (result : Result (Option Refusal) Stop) → Step s files command (shows bytes) → opened ≡ generation_in s → IsDurably s e
    → WritesPartly bytes k l result → IfOk result (λ last. last ≡ None) → LineEnds (does command) s files k l e (written_of opened result)
shown_ends s files command k l e bytes opened (Ok last) step is durably writes nothing = record { outcome = shows bytes; comes = step; opened = is; refusal = nothing; appends = writes; durably = durably }
shown_ends s files command k l e bytes opened (Err WriteFault) step is durably (prefix, proper, appends) nothing = record {
  standing = durable s;
  part = prefix;
  stops = record { outcome = shows bytes; comes = step; stands = refl; rest = proper.0; reply = proper.1; not_all = proper.2 };
  appends = appends;
  stands = durably;
}
shown_ends s files command k l e bytes opened (Err DiskFault) step is durably (prefix, partly, appends) nothing = record {
  standing = durable s;
  part = prefix;
  stops = inr (inr (record { bytes = bytes; comes = step; stands = refl; rest = partly.0; reply = partly.1 }));
  appends = appends;
  stands = durably;
}
shown_ends s files command k l e bytes opened (Err DepotFault) step is durably writes nothing = absurd writes
shown_ends s files command k l e bytes opened (Err OutOfMemory) step is durably (prefix, partly, appends) nothing = record {
  standing = durable s;
  part = prefix;
  stops = inr (record { bytes = bytes; comes = step; stands = refl; rest = partly.0; reply = partly.1 });
  appends = appends;
  stands = durably;
}
shown_ends s files command k l e bytes opened (Err (BadStore why)) step is durably writes nothing = absurd writes
shown_ends s files command k l e bytes opened (Err Unfinished) step is durably writes nothing = absurd writes

given_ends : (s u : State) (files : Option Files) (command : Command) (k l : SinkState) (e : Places) (text : List ℕ) (opened : Option Generation) (result : Result (Option Refusal) Stop) → Step s files command (gives u text) → opened ≡ generation_in u → IsDurably u e
    → WritesText text k l result → LineEnds (does command) s files k l e (written_of opened result)
given_ends s u files command k l e text opened (Ok last) step is durably (nothing, appends) = record { outcome = gives u text; comes = step; opened = is; refusal = nothing; appends = appends; durably = durably }
given_ends s u files command k l e text opened (Err WriteFault) step is durably (prefix, proper, appends) = record {
  standing = durable u;
  part = prefix;
  stops = record { outcome = gives u text; comes = step; stands = refl; rest = proper.0; reply = proper.1; not_all = proper.2 };
  appends = appends;
  stands = durably;
}
given_ends s u files command k l e text opened (Err DiskFault) step is durably writes = absurd writes
given_ends s u files command k l e text opened (Err DepotFault) step is durably writes = absurd writes
given_ends s u files command k l e text opened (Err OutOfMemory) step is durably writes = absurd writes
given_ends s u files command k l e text opened (Err (BadStore why)) step is durably writes = absurd writes
given_ends s u files command k l e text opened (Err Unfinished) step is durably writes = absurd writes

refused_ends : (s : State) (files : Option Files) (command : Command) (k l : SinkState) (e : Places) (refusal : Refusal) (opened : Option Generation) (result : Result (Option Refusal) Stop) → Step s files command (refuses refusal) → opened ≡ generation_in s → IsDurably s e
    → WritesRefusal refusal k l result → LineEnds (does command) s files k l e (written_of opened result)
refused_ends s files command k l e refusal opened (Ok last) step is durably (some, appends) = record { outcome = refuses refusal; comes = step; opened = is; refusal = some; appends = appends; durably = durably }
refused_ends s files command k l e refusal opened (Err WriteFault) step is durably (prefix, proper, appends) = record {
  standing = durable s;
  part = prefix;
  stops = record { outcome = refuses refusal; comes = step; stands = refl; rest = proper.0; reply = proper.1; not_all = proper.2 };
  appends = appends;
  stands = durably;
}
refused_ends s files command k l e refusal opened (Err DiskFault) step is durably writes = absurd writes
refused_ends s files command k l e refusal opened (Err DepotFault) step is durably writes = absurd writes
refused_ends s files command k l e refusal opened (Err OutOfMemory) step is durably same = record { standing = durable s; part = []; stops = inl (refl, refl); appends = same_sink k l same; stands = durably }
refused_ends s files command k l e refusal opened (Err (BadStore why)) step is durably writes = absurd writes
refused_ends s files command k l e refusal opened (Err Unfinished) step is durably writes = absurd writes

reply_ends : (s : State) (files : Option Files) (command : Command) (k l : SinkState) (mid : DiskState) (e : Told) (opened : Option Generation) (reply : Reply) (outcome : Outcome) (result : Result (Option Refusal) Stop)
    → mid.told ≡ Some e → Step s files command outcome → opened ≡ generation_in (state_after s outcome) → IsReply s reply outcome → IsDurably (state_after s outcome) e.places → WritesReply reply mid k l result
    → LineEnds (does command) s files k l e.places (written_of opened result)
reply_ends s files command k l mid e opened (Text text) outcome result told step is of durably writes =
    given_ends s of.0 files command k l e.places text opened result (subst (Step s files command) of.1 step) (is ∙ ap (λ o. generation_in (state_after s o)) of.1)
    (subst (λ o. IsDurably (state_after s o) e.places) of.1 durably) writes
reply_ends s files command k l mid e opened (File held) outcome result told step is of durably writes =
    let still = subst (λ o. IsDurably (state_after s o) e.places) of.0 durably in
    let there = shown_told s e mid held held.body refl told still.stands of.1 in
    shown_ends s files command k l e.places (bytes_at s held.body) opened result (subst (Step s files command) of.0 step) (is ∙ ap (λ o. generation_in (state_after s o)) of.0)
    still (writes.0 (bytes_at s held.body) there.0 there.1) writes.1
reply_ends s files command k l mid e opened (Refused refusal) outcome result told step is of durably writes =
    refused_ends s files command k l e.places refusal opened result (subst (Step s files command) of step) (is ∙ ap (λ o. generation_in (state_after s o)) of)
    (subst (λ o. IsDurably (state_after s o) e.places) of durably) writes

written_told : (files : Option Files) (command : Command) (from : Option Generation) (k l : SinkState) (mid : DiskState) (opened : Option Generation) (reply : Reply) (result : Result (Option Refusal) Stop) (x y z : Option Told)
    → mid.told ≡ y → z ≡ y → WritesReply reply mid k l result → BothTold (AppliesTold (λ s. Step s files command) from (Ok (record { opened = opened; reply = reply }))) x y
    → BothTold (LineTold (does command) from files k l (written_of opened result)) x z
written_told files command from k l mid opened reply result None None z told same writes applies = subst (λ o. BothTold (LineTold (does command) from files k l (written_of opened result)) None o) (sym same) tt
written_told files command from k l mid opened reply result None (Some e) z told same writes applies = absurd applies
written_told files command from k l mid opened reply result (Some d) None z told same writes applies = absurd applies
written_told files command from k l mid opened reply result (Some d) (Some e) z told same writes applies =
    subst (λ o. BothTold (LineTold (does command) from files k l (written_of opened result)) (Some d) o) (sym same) (λ s is durably.
    let of = applies s is durably in
    record {
      ends = reply_ends s files command k l mid e opened reply of.ends.0 result told of.ends.1 of.ends.2.opened of.ends.2.reply of.ends.3 writes;
      since = line_since s files command e d.clock of.since;
    })

pub written_line : (files : Option Files) (command : Command) (from : Option Generation) (k l : SinkState) (old mid new : DiskState) (opened : Option Generation) (reply : Reply) (result : Result (Option Refusal) Stop)
    → Rests mid new → WritesReply reply mid k l result → BothTold (AppliesTold (λ s. Step s files command) from (Ok (record { opened = opened; reply = reply }))) old.told mid.told
    → BothTold (LineTold (does command) from files k l (written_of opened result)) old.told new.told
written_line files command from k l old mid new opened reply result rests writes applies =
    written_told files command from k l mid opened reply result old.told mid.told new.told refl rests.told writes applies

pub rose_from : (a b c : ℕ) → a ≤ b → Rose b c → Rose a c
rose_from a b c le (inl more) = inl (omega arith)
rose_from a b c le (inr most) = inr most

shown_cause : (opened : Option Generation) (k l : SinkState) (old mid new : DiskState) (before after : DepotState) (held : HeldFile) (stop : Stop) → old.faults ≤ mid.faults → IsShownReply opened old mid (File held)
    → FileCause held k l mid new stop → LineCause opened k l old new before after stop
shown_cause opened k l old mid new before after held WriteFault le shown cause = cause
shown_cause opened k l old mid new before after held DiskFault le shown cause = rose_from old.faults mid.faults new.faults le cause
shown_cause opened k l old mid new before after held DepotFault le shown cause = absurd cause
shown_cause opened k l old mid new before after held OutOfMemory le shown cause = tt
shown_cause opened k l old mid new before after held (BadStore (Broken line)) le shown cause = absurd cause
shown_cause opened k l old mid new before after held (BadStore (Damaged damage)) le shown cause = record {
  lists = kept_is_listed (trees_before (host_before opened)) held damage.home damage.listed cause.0 shown.1;
  differs = subst (λ t. IsFound damage.listed t damage.found) (ap (body_told mid) cause.0.body ∙ ap (λ o. told_at o (home_path damage.home.generation damage.home.file)) shown.2.told) cause.1;
}
shown_cause opened k l old mid new before after held Unfinished le shown cause = absurd cause

text_cause : (opened : Option Generation) (k l : SinkState) (d e : DiskState) (before after : DepotState) (stop : Stop) → TextCause k l stop → LineCause opened k l d e before after stop
text_cause opened k l d e before after WriteFault cause = cause
text_cause opened k l d e before after DiskFault cause = absurd cause
text_cause opened k l d e before after DepotFault cause = absurd cause
text_cause opened k l d e before after OutOfMemory cause = tt
text_cause opened k l d e before after (BadStore (Broken line)) cause = absurd cause
text_cause opened k l d e before after (BadStore (Damaged damage)) cause = absurd cause
text_cause opened k l d e before after Unfinished cause = absurd cause

pub unwritten_cause : (opened : Option Generation) (k l : SinkState) (old mid new : DiskState) (before after : DepotState) (reply : Reply) (stop : Stop) → old.faults ≤ mid.faults → IsShownReply opened old mid reply
    → ReplyCause reply k l mid new stop → LineCause opened k l old new before after stop
unwritten_cause opened k l old mid new before after (Text text) stop le shown cause = text_cause opened k l old new before after stop cause
unwritten_cause opened k l old mid new before after (File held) stop le shown cause = shown_cause opened k l old mid new before after held stop le shown cause
unwritten_cause opened k l old mid new before after (Refused refusal) stop le shown cause = text_cause opened k l old new before after stop cause

pub shown_is_served : (opened : Option Generation) (old mid : DiskState) (reply : Reply) → IsShownReply opened old mid reply → IsServedReply reply
shown_is_served opened old mid (Text text) shown = tt
shown_is_served opened old mid (File held) shown = shown.0
shown_is_served opened old mid (Refused refusal) shown = tt
