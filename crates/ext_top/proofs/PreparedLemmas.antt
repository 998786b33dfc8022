-- What a change does to a disk and what it met, by what preparing and switching say.
use Rattle.std.proofs.Common.{◌≡◌, ℕ, Bool, true, false, ◌||◌, ◌⊎◌, List, ◌++◌, inl, inr, Option, Some, None, is_some, IfSome, Result, Ok, Err, refl, sym, ap, ◌∙◌, subst, arith}
use Rattle.ext_text.proofs.ForCallers.{same_path}
use Rattle.ext_depot.specs.Depot.{DepotState}
use Rattle.ext_disk.specs.Disk.{Places, Told, DiskState, BothTold, now}
use Rattle.ext_host.specs.Held.{HeldFile}
use Rattle.ext_host.specs.declared.host.Host.{Host}
use Rattle.ext_store_files.specs.Names.{current_path, generation_path, next_path}
use Rattle.ext_store_files.specs.Removal.{AtMost}
use Rattle.ext_store_files.specs.Writing.{is_at}
use Rattle.ext_store_files.proofs.ForCallers.{told_map, told_same, told_then, within_most, within_none}
use Rattle.ext_store_files.specs.declared.fault.StoreFault.TheVariants as store_faults
use Rattle.ext_store_files.specs.LeftOvers.{most_left_overs}
use Rattle.ext_homes.specs.Giving.{stored_by}
use Rattle.ext_homes.specs.Refused.{StopsAt}
use Rattle.ext_gen.specs.Committing.{SwitchesNow, is_switched}
use Rattle.ext_gen.specs.Opened.{Generation}
use Rattle.ext_gen.specs.Preparing.{LimitSays, PrepareCause, Prepares, PreparesTold, coming_number, host_before, is_left, limit_of, most_bytes_of, most_files}
use Rattle.ext_gen.specs.PreparingPaths.{ChangesAt, ChangesTold, Cleans, CleansSays, FewGone, IsComing, gone, made, stays}
use Rattle.ext_gen.specs.PreparingPaths as paths
use Rattle.ext_gen.proofs.ForCallers.{few_lost, few_same, few_stood}
use Rattle.ext_gen.specs.declared.errors.StoreErr.{StoreErr}
use Rattle.ext_gen.specs.declared.errors.StoreErr.TheVariants as store_errors
use Rattle.ext_cmd.specs.declared.refusal.Refusal.{Refusal}
use Rattle.ext_cmd.specs.declared.answer.Answer.{Answer}
use Rattle.ext_intents.specs.declared.intent.Intent.TheVariants.{Changes}
use Rattle.ext_top.specs.Applying.{WhereDamaged, refusal_from}
use Rattle.ext_top.specs.Machine.{IsMismatch, IsNotThere}
use Rattle.ext_top.specs.Working.{IsDamagedFor, Met, RefusesChange, StopsChange, ReplacedTold, ReplacesAt, ReplacesTold, changes, current}
use Rattle.ext_top.specs.declared.apply_err.ApplyErr.{ApplyErr}

or_parts : (a b : Bool) → a || b ≡ true → (a ≡ true) ⊎ (b ≡ true)
or_parts true b is = inl refl
or_parts false b is = inr is

switched_at : (from : Option Generation) (next : Host) (c d e : Places) (p : List (List ℕ)) (b : Bool) → is_switched p ≡ b → (is_switched p ≡ false → (e p).node ≡ (d p).node)
    → ChangesAt (is_left from) (coming_number from) (most_files next) c d p → ReplacesAt from next c e p
switched_at from next c d e p true is keeps at = elim (or_parts (is_at next_path p) (is_at current_path p) is) [
  | inl here ↦ changes (made (subst (IsComing (coming_number from) (most_files next)) (same_path next_path p here) paths.next))
  | inr here ↦ current (sym (same_path current_path p here))
]
switched_at from next c d e p false is keeps (stays same) = changes (stays (keeps is ∙ same))
switched_at from next c d e p false is keeps (gone left none) = changes (gone left (keeps is ∙ none))
switched_at from next c d e p false is keeps (made at) = changes (made at)

abbrev pub Works : Option Generation → Host → Told → Told → Type 0
Works from next d e = ChangesTold (is_left from) (coming_number from) (most_files next) (most_bytes_of (coming_number from) next) d e

-- the left-overs were few enough
abbrev pub FewStood : Option Generation → Told → Told → Type 0
FewStood from d e = AtMost most_left_overs (is_left from) d.places

-- no more of them are gone than one command removes
abbrev pub FewWent : Option Generation → Told → Told → Type 0
FewWent from d e = FewGone (is_left from) d.places e.places

both_told : (A B : Told → Told → Type 0) (x y : Option Told) → BothTold A x y → BothTold B x y → BothTold (λ d e. A d e × B d e) x y
both_told A B None None one two = tt
both_told A B None (Some e) one two = absurd one
both_told A B (Some d) None one two = absurd one
both_told A B (Some d) (Some e) one two = (one, two)

switches : (from : Option Generation) (next : Host) (c d e : Told) → Works from next c d × FewStood from c d → SwitchesNow d e → ReplacesTold from next c e
switches from next c d e (works, stood) now =
    let few = within_most (most_bytes_of (coming_number from) next) c.appended d.appended works.appended in
    let same = within_none d.appended e.appended now.appended in
    record {
      now = λ p. switched_at from next c.places d.places e.places p (is_switched p) refl (now.now p) (works.now p);
      few = few_stood (is_left from) c.places e.places stood;
      appended = omega arith;
    }

pub switches_told : (from : Option Generation) (next : Host) (x y z : Option Told) → BothTold (Works from next) x y → BothTold (FewStood from) x y → BothTold SwitchesNow y z → BothTold (ReplacesTold from next) x z
switches_told from next x y z works few now =
    told_then (λ d e. Works from next d e × FewStood from d e) SwitchesNow (ReplacesTold from next) (switches from next) x y z (both_told (Works from next) (FewStood from) x y works few) now

-- where it did not come to that
pub unswitched_told : (from : Option Generation) (next : Host) (x y : Option Told) → BothTold (Works from next) x y → BothTold (FewWent from) x y → BothTold (ReplacesTold from next) x y
unswitched_told from next x y works few =
    told_map (λ d e. Works from next d e × FewWent from d e) (ReplacesTold from next) (λ d e w. record { now = λ p. changes (w.0.now p); few = w.1; appended = within_most (most_bytes_of (coming_number from) next) d.appended e.appended w.0.appended }) x y
    (both_told (Works from next) (FewWent from) x y works few)

stood_went : (from : Option Generation) (x y : Option Told) → BothTold (FewStood from) x y → BothTold (FewWent from) x y
stood_went from x y stood = told_map (FewStood from) (FewWent from) (λ d e few. few_stood (is_left from) d.places e.places few) x y stood

-- whatever kept it from that, few left-overs are gone
pub few_went : (from : Option Generation) (next : Host) (old new : DiskState) (before after : DepotState) (error : StoreErr) → Cleans {T = Generation} (is_left from) (Err error) old new → PrepareCause from next old new before after error
    → BothTold (FewWent from) old.told new.told
few_went from next old new before after (store_errors.Fault store_faults.OutOfMemory) cleans cause = cleans
few_went from next old new before after (store_errors.Fault store_faults.DiskFault) cleans cause = cleans
few_went from next old new before after (store_errors.Fault store_faults.DepotFault) cleans cause = stood_went from old.told new.told cleans
few_went from next old new before after (store_errors.Broken line) cleans cause = absurd cause
few_went from next old new before after (store_errors.Fault (store_faults.Damaged damage)) cleans cause = stood_went from old.told new.told cleans
few_went from next old new before after (store_errors.Mismatch path listed found) cleans cause = stood_went from old.told new.told cleans
few_went from next old new before after (store_errors.NotInDepot path) cleans cause = stood_went from old.told new.told cleans
few_went from next old new before after store_errors.Unfinished cleans cause =
    told_map (λ d e. CleansSays {T = Generation} (is_left from) (Err store_errors.Unfinished) d.places e.places) (FewWent from)
    (λ d e says. few_lost (is_left from) (λ n. n ≡ most_left_overs) d.places e.places (λ n is. omega arith) says.1) old.told new.told cleans
few_went from next old new before after (store_errors.Limit which) cleans cause = told_same (FewWent from) (λ d. few_same (is_left from) d.places) old.told new.told cause.told

switched_met : (from : Option Generation) (coming : Generation) (written : List (List ℕ)) (x y z : Option Told) → BothTold (λ d e. CleansSays {T = Generation} (is_left from) (Ok coming) d.places e.places) x y → BothTold (PreparesTold from coming written) x y
    → BothTold SwitchesNow y z → BothTold (ReplacedTold from coming written) x z
switched_met from coming written None None None cleans told now = tt
switched_met from coming written None None (Some f) cleans told now = absurd now
switched_met from coming written None (Some e) z cleans told now = absurd told
switched_met from coming written (Some d) None z cleans told now = absurd told
switched_met from coming written (Some d) (Some e) None cleans told now = absurd now
switched_met from coming written (Some d) (Some e) (Some f) cleans told now =
    record {
      few = cleans;
      generations = λ m is there. told.generations m is (ap is_some (sym (now.now (generation_path m) refl)) ∙ there);
      appended = within_none e.appended f.appended now.appended ∙ told.appended;
    }

pub replaced_met : (from : Option Generation) (next : Host) (answer : Answer) (coming : Generation) (old mid new : DiskState) (depot : DepotState) → Cleans {T = Generation} (is_left from) (Ok coming) old mid → Prepares from next old mid depot coming
    → BothTold SwitchesNow mid.told new.told → Met (Changes next answer) from old new depot None (Some coming)
replaced_met from next answer coming old mid new depot cleans prepares now = (
  coming,
  refl,
  record { number = prepares.number; written = prepares.written; homes = prepares.homes; told = switched_met from coming prepares.written old.told mid.told new.told cleans prepares.told now },
)

abbrev pub RefusedBy : Option Generation → Host → DiskState → DepotState → Result Refusal ApplyErr → Type 0
RefusedBy from next old depot (Ok refusal) = RefusesChange from next old depot refusal
RefusedBy from next old depot (Err e) = Unit {0}

few_of : (from : Option Generation) (x y : Option Told) → BothTold (λ d e. AtMost most_left_overs (is_left from) d.places) x y → IfSome x (λ d. AtMost most_left_overs (is_left from) d.places)
few_of from None None few = tt
few_of from None (Some e) few = absurd few
few_of from (Some d) None few = absurd few
few_of from (Some d) (Some e) few = few

-- the first file that gets no home, by what is said of it
stops_for : (from : Option Generation) (next : Host) (old new : DiskState) (depot : DepotState) (P Q : HeldFile → Type 0) → limit_of from next ≡ None → BothTold (FewStood from) old.told new.told
    → StopsAt (stored_by (host_before from) old) depot (coming_number from) (next.root ++ next.lower) 0 P → ((held : HeldFile) → P held → Q held) → StopsChange from next old depot Q
stops_for from next old new depot P Q limit few stops why = record {
  limit = limit;
  few = few_of from old.told new.told few;
  stops = record {
    before = stops.before;
    after = stops.after;
    path = stops.path;
    attributes = stops.attributes;
    held = stops.held;
    entries = stops.entries;
    placed = stops.placed;
    written = stops.written;
    homes = stops.homes;
    why = why stops.held stops.why;
  };
}

-- a damage is found for that file
abbrev pub UnpreparedDamage : Option Generation → Host → DiskState → DepotState → Result Refusal ApplyErr → Type 0
UnpreparedDamage from next old depot (Ok refusal) = Unit {0}
UnpreparedDamage from next old depot (Err e) = WhereDamaged (λ damage. StopsChange from next old depot (IsDamagedFor from old depot damage)) e

pub unprepared_damage : (from : Option Generation) (next : Host) (old new : DiskState) (before after : DepotState) (error : StoreErr) → LimitSays {T = Generation} (limit_of from next) (Err error) → Cleans {T = Generation} (is_left from) (Err error) old new
    → PrepareCause from next old new before after error → UnpreparedDamage from next old before (refusal_from error)
unprepared_damage from next old new before after (store_errors.Fault store_faults.OutOfMemory) limit cleans cause = tt
unprepared_damage from next old new before after (store_errors.Fault store_faults.DiskFault) limit cleans cause = tt
unprepared_damage from next old new before after (store_errors.Fault store_faults.DepotFault) limit cleans cause = tt
unprepared_damage from next old new before after (store_errors.Broken line) limit cleans cause = tt
unprepared_damage from next old new before after (store_errors.Fault (store_faults.Damaged damage)) limit cleans cause =
    stops_for from next old new before _ (IsDamagedFor from old before damage) limit cleans cause (λ held why. record { brought = why.0; stamp = why.1; damaged = why.2 })
unprepared_damage from next old new before after (store_errors.Mismatch path listed found) limit cleans cause = tt
unprepared_damage from next old new before after (store_errors.NotInDepot path) limit cleans cause = tt
unprepared_damage from next old new before after store_errors.Unfinished limit cleans cause = tt
unprepared_damage from next old new before after (store_errors.Limit which) limit cleans cause = tt

pub unprepared_met : (from : Option Generation) (next : Host) (old new : DiskState) (before after : DepotState) (error : StoreErr) → LimitSays {T = Generation} (limit_of from next) (Err error) → Cleans {T = Generation} (is_left from) (Err error) old new
    → PrepareCause from next old new before after error → RefusedBy from next old before (refusal_from error)
unprepared_met from next old new before after (store_errors.Fault fault) limit cleans cause = tt
unprepared_met from next old new before after (store_errors.Broken line) limit cleans cause = tt
unprepared_met from next old new before after (store_errors.Mismatch path listed found) limit cleans cause =
    stops_for from next old new before _ (IsMismatch before path listed found) limit cleans cause (λ held why. record { body = why.0; stamp = why.1; read = why.3 })
unprepared_met from next old new before after (store_errors.NotInDepot path) limit cleans cause =
    stops_for from next old new before _ (IsNotThere before path) limit cleans cause (λ held why. record { body = why.0; missing = why.2 })
unprepared_met from next old new before after store_errors.Unfinished limit cleans cause = tt
unprepared_met from next old new before after (store_errors.Limit which) limit cleans cause = limit
