-- A run over a store: it is opened, and its lines run; or it is not.
use Rattle.std.proofs.Common.{◌≡◌, ℕ, Bool, List, ◌⊎◌, inl, inr, Option, Some, None, IfSome, Result, Ok, Err, refl, sym, subst, arith}
use Rattle.ext_io.specs.SinkState.{SinkState}
use Rattle.ext_disk.specs.Disk.{BothTold, DiskState, IsDisk, Places, Told, now}
use Rattle.ext_disk.specs.Since.{Follows, IsLater}
use Rattle.ext_disk.proofs.ForCallers.{follows_then}
use Rattle.ext_depot.specs.Depot.{DepotState, Files}
use Rattle.ext_store_files.proofs.ForCallers.{kept_itself}
use Rattle.ext_store_files.specs.declared.fault.StoreFault.TheVariants as store_faults
use Rattle.ext_gen.specs.Opened.{Generation}
use Rattle.ext_gen.specs.Opening.{KeepsNow, OpenCause, OpenSays, OpensTold}
use Rattle.ext_gen.specs.Store.{Points, State, Stands}
use Rattle.ext_gen.specs.Sound.{IsDurably, IsMember, IsSound}
use Rattle.ext_gen.specs.declared.errors.StoreErr.{StoreErr}
use Rattle.ext_gen.specs.declared.errors.StoreErr.TheVariants as store_errors
use Rattle.ext_gen.proofs.ForCallers.{durably_is_sound, either_is_sound, sound_is_not_broken, stands_since_then, stands_since_wider}
use Rattle.ext_cmd.specs.declared.refusal.Refusal.{Refusal}
use Rattle.ext_top.specs.Applying.{PointsAs}
use Rattle.ext_top.specs.Chain.{ClosedCause, IsOfOpening, LinesRun, OpensStore, status_of, status_of_closed}
use Rattle.ext_top.specs.Devices.{StoreSide, store_side}
use Rattle.ext_top.specs.Exits.{IsOnTheWay, Line, Standing, StandsAs, between, durable}
use Rattle.ext_top.specs.Running.{Blames, IsClosed, RunsLines, RunsSound}
use Rattle.ext_top.specs.declared.stop.Stop.{Stop}
use Rattle.ext_top.proofs.ChainLemmas.{LinesTold, SideFollows, blames_since, lines_blame, lines_follow, lines_told}

same_now : (d e : Told) → KeepsNow d e → now e.places ≡ now d.places
same_now d e keeps = λ i p. keeps.now p refl i

points_now : (opened : Option Generation) (x y : Option Told) → BothTold KeepsNow x y → IfSome x (λ d. Points (now d.places) opened) → IfSome y (λ e. Points (now e.places) opened)
points_now opened None None keeps points = tt
points_now opened None (Some e) keeps points = absurd keeps
points_now opened (Some d) None keeps points = absurd keeps
points_now opened (Some d) (Some e) keeps points = subst (λ t. Points t opened) (sym (same_now d e keeps)) points

pub opened_points : (opened : Option Generation) (old new : DiskState) → BothTold KeepsNow old.told new.told → IfSome old.told (λ d. OpenSays (Ok opened) (now d.places)) → PointsAs new opened
opened_points opened old new keeps says = points_now opened old.told new.told keeps says

standing_is_sound : (standing : Standing) (d : Places) → StandsAs standing d → IsSound d
standing_is_sound (durable s) d durably = durably_is_sound s d durably
standing_is_sound (between s u) d either = either_is_sound s u d either

-- a store that was opened sound, and its lines
through_sound : (batch : Bool) (lines : List Line) (opened : Option Generation) (files : Option Files) (k l : SinkState) (result : Result (Option Refusal) Stop) (d e f : Told) → IsLater e f → OpensTold (Ok opened) d e
    → LinesTold None lines opened files k l result e f → RunsSound batch lines files k l (status_of batch result) d f
through_sound batch lines opened files k l result d e f later opens runs = λ sound.
    let (s, is, stood, durably) = (opens sound).ends in
    let from = runs s is durably in
    let P : State → Type 0 = λ x. IsMember d.places x ⊎ IsOnTheWay s files lines x in (
      standing_is_sound from.standing f.places from.stands,
      inl (record {
        state = s;
        stood = stood;
        result = result;
        status_is = refl;
        bytes = from.bytes;
        written = from.written;
        standing = from.standing;
        stands = from.stands;
        ends = from.ends;
        since = stands_since_then P e f d.clock later
            (stands_since_wider (IsMember d.places) P e d.clock (λ x member. inl member) (opens sound).since)
            (stands_since_wider (IsOnTheWay s files lines) P f e.clock (λ x on. inr on) from.since);
      }),
    )

opened_sound : (batch : Bool) (lines : List Line) (opened : Option Generation) (files : Option Files) (k l : SinkState) (result : Result (Option Refusal) Stop) (x y z : Option Told) → BothTold IsLater y z
    → BothTold (OpensTold (Ok opened)) x y → BothTold (LinesTold None lines opened files k l result) y z → BothTold (RunsSound batch lines files k l (status_of batch result)) x z
opened_sound batch lines opened files k l result None None None later opens runs = tt
opened_sound batch lines opened files k l result None None (Some f) later opens runs = absurd later
opened_sound batch lines opened files k l result None (Some e) z later opens runs = absurd opens
opened_sound batch lines opened files k l result (Some d) None z later opens runs = absurd opens
opened_sound batch lines opened files k l result (Some d) (Some e) None later opens runs = absurd later
opened_sound batch lines opened files k l result (Some d) (Some e) (Some f) later opens runs = through_sound batch lines opened files k l result d e f later opens runs

opens_follow : (opened : Option Generation) (sink : SinkState) (old mid : DiskState) (depot : DepotState) (log : Option (List (List ℕ))) → OpensStore opened (store_side sink old depot log) (store_side sink mid depot log)
    → SideFollows (store_side sink old depot log) (store_side sink mid depot log)
opens_follow opened sink old mid depot log opens = record { disk = opens.follows; depot = kept_itself depot; sink = omega arith }

-- the store was opened, and the lines ran
pub opened_lines : (batch : Bool) (lines : List Line) (opened : Option Generation) (sink : SinkState) (old mid : DiskState) (depot : DepotState) (log : Option (List (List ℕ))) (result : Result (Option Refusal) Stop) (new : StoreSide)
    → OpensStore opened (store_side sink old depot log) (store_side sink mid depot log) → LinesRun None lines opened (store_side sink mid depot log) result new → IfSome new.disk.told IsDisk
    → RunsLines batch lines (store_side sink old depot log) new (status_of batch result)
opened_lines batch lines opened sink old mid depot log result new opens runs disk =
    let start = store_side sink mid depot log in
    let follows = lines_follow None lines opened start result new runs in
    record {
      follows = follows_then old mid new.disk opens.follows follows.disk;
      kept = follows.depot;
      count = follows.sink;
      blames = blames_since (store_side sink old depot log) start new (status_of batch result) (opens_follow opened sink old mid depot log opens) (lines_blame batch None lines opened start result new runs);
      sound = opened_sound batch lines opened depot.contents sink new.sink result old.told mid.told new.disk.told follows.disk.told opens.sound
          (lines_told None lines opened start result new runs disk);
      on_any = inl (record { opened = opened; start = start; opens = opens; result = result; status_is = refl; runs = runs });
    }

pub is_of_opening : (old new : ℕ) (error : StoreErr) → OpenCause old new error → IsOfOpening error
is_of_opening old new (store_errors.Fault store_faults.OutOfMemory) cause = tt
is_of_opening old new (store_errors.Fault store_faults.DiskFault) cause = tt
is_of_opening old new (store_errors.Fault store_faults.DepotFault) cause = cause
is_of_opening old new (store_errors.Broken line) cause = tt
is_of_opening old new (store_errors.Fault (store_faults.Damaged damage)) cause = cause
is_of_opening old new (store_errors.Mismatch path listed found) cause = cause
is_of_opening old new (store_errors.NotInDepot path) cause = cause
is_of_opening old new store_errors.Unfinished cause = cause
is_of_opening old new (store_errors.Limit which) cause = cause

closed_blames : (old new : StoreSide) (error : StoreErr) → OpenCause old.disk.faults new.disk.faults error → Blames old new (status_of_closed error)
closed_blames old new (store_errors.Fault store_faults.OutOfMemory) cause = tt
closed_blames old new (store_errors.Fault store_faults.DiskFault) cause = cause
closed_blames old new (store_errors.Fault store_faults.DepotFault) cause = absurd cause
closed_blames old new (store_errors.Broken line) cause = tt
closed_blames old new (store_errors.Fault (store_faults.Damaged damage)) cause = absurd cause
closed_blames old new (store_errors.Mismatch path listed found) cause = tt
closed_blames old new (store_errors.NotInDepot path) cause = tt
closed_blames old new store_errors.Unfinished cause = tt
closed_blames old new (store_errors.Limit which) cause = tt

closed_cause : (old new : DiskState) (error : StoreErr) → IfSome old.told (λ d. OpenSays (Err error) (now d.places)) → OpenCause old.faults new.faults error → ClosedCause old new (status_of_closed error)
closed_cause old new (store_errors.Fault store_faults.OutOfMemory) says cause = inr (inl refl)
closed_cause old new (store_errors.Fault store_faults.DiskFault) says cause = inl (refl, cause)
closed_cause old new (store_errors.Fault store_faults.DepotFault) says cause = absurd cause
closed_cause old new (store_errors.Broken line) says cause = inr (inr (line, refl, says))
closed_cause old new (store_errors.Fault (store_faults.Damaged damage)) says cause = absurd cause
closed_cause old new (store_errors.Mismatch path listed found) says cause = absurd cause
closed_cause old new (store_errors.NotInDepot path) says cause = absurd cause
closed_cause old new store_errors.Unfinished says cause = absurd cause
closed_cause old new (store_errors.Limit which) says cause = absurd cause

closed_status : (d : Told) (old new : ℕ) (error : StoreErr) → IsSound d.places → OpenSays (Err error) (now d.places) → OpenCause old new error → IsClosed (status_of_closed error)
closed_status d old new (store_errors.Fault store_faults.OutOfMemory) sound says cause = inr refl
closed_status d old new (store_errors.Fault store_faults.DiskFault) sound says cause = inl refl
closed_status d old new (store_errors.Fault store_faults.DepotFault) sound says cause = absurd cause
closed_status d old new (store_errors.Broken line) sound says cause = absurd (sound_is_not_broken d.places line sound says)
closed_status d old new (store_errors.Fault (store_faults.Damaged damage)) sound says cause = absurd cause
closed_status d old new (store_errors.Mismatch path listed found) sound says cause = absurd cause
closed_status d old new (store_errors.NotInDepot path) sound says cause = absurd cause
closed_status d old new store_errors.Unfinished sound says cause = absurd cause
closed_status d old new (store_errors.Limit which) sound says cause = absurd cause

closed_is_sound : (d e : Told) → IsSound d.places → ((e ≡ d) ⊎ ((s : State) × Stands (now d.places) s × IsDurably s e.places)) → IsSound e.places
closed_is_sound d e sound (inl same) = subst (λ (t : Told). IsSound t.places) (sym same) sound
closed_is_sound d e sound (inr (s, stood, durably)) = durably_is_sound s e.places durably

closed_runs : (batch : Bool) (lines : List Line) (files : Option Files) (k : SinkState) (old new : ℕ) (error : StoreErr) (x y : Option Told) → IfSome x (λ d. OpenSays (Err error) (now d.places)) → OpenCause old new error → BothTold (OpensTold (Err error)) x y
    → BothTold (RunsSound batch lines files k k (status_of_closed error)) x y
closed_runs batch lines files k old new error None None says cause opens = tt
closed_runs batch lines files k old new error None (Some e) says cause opens = absurd opens
closed_runs batch lines files k old new error (Some d) None says cause opens = absurd opens
closed_runs batch lines files k old new error (Some d) (Some e) says cause opens = λ sound.
    let of = opens sound in
    (closed_is_sound d e sound of.ends, inr (record { closed = closed_status d old new error sound says cause; nothing = refl; ends = of.ends; since = of.since }))

-- the store was not opened
pub closed_lines : (batch : Bool) (lines : List Line) (sink : SinkState) (old new : DiskState) (depot : DepotState) (log : Option (List (List ℕ))) (error : StoreErr) → Follows old new → BothTold KeepsNow old.told new.told
    → IfSome old.told (λ d. OpenSays (Err error) (now d.places)) → BothTold (OpensTold (Err error)) old.told new.told → OpenCause old.faults new.faults error
    → RunsLines batch lines (store_side sink old depot log) (store_side sink new depot log) (status_of_closed error)
closed_lines batch lines sink old new depot log error follows keeps says stops cause = record {
  follows = follows;
  kept = kept_itself depot;
  count = omega arith;
  blames = closed_blames (store_side sink old depot log) (store_side sink new depot log) error cause;
  sound = closed_runs batch lines depot.contents sink old.faults new.faults error old.told new.told says cause stops;
  on_any = inr (record { follows = follows; keeps = keeps; sink = refl; depot = refl; observer = refl; cause = closed_cause old new error says cause });
}
