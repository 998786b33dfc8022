-- A run in the depot's folder, stage by stage, on disks that tell or do not.
use Rattle.std.proofs.Common.{◌≡◌, ℕ, ◌≤◌, Bool, true, false, List, [], ◌++◌, Option, Some, None, IfErr, IfSome, Result, Ok, Err, refl, sym, ap, ◌∙◌, subst, inl, inr}
use Rattle.std.specs.Result.{is_ok}
use Rattle.ext_text.specs.Causes.{Rose}
use Rattle.ext_tree.specs.declared.stamp.Stamp.{Stamp}
use Rattle.ext_disk.specs.Calls.{Does, sync_dir}
use Rattle.ext_disk.specs.Disk.{Places, Told, DiskState, BothTold, IsDisk, folder, is_file, is_synced, now}
use Rattle.ext_disk.specs.Fixed.{IsUnchangedAt, Spares, Stays}
use Rattle.ext_disk.specs.Since.{Follows, IsLater, Rests}
use Rattle.ext_disk.proofs.ForCallers.{later_itself, unchanged_itself, unchanged_then}
use Rattle.ext_host.specs.Held.{HeldFile, IsStampOf}
use Rattle.ext_host.specs.Shelf.{IsFound, stored}
use Rattle.ext_host.proofs.ForCallers.{one_stamp}
use Rattle.ext_store_files.specs.LeftOvers.{most_left_overs}
use Rattle.ext_store_files.specs.Removal.{CleanCause, Removes, is_below_any}
use Rattle.ext_store_files.specs.Writing.{SyncsIn, nowhere}
use Rattle.ext_store_files.specs.declared.errors.CleanErr.{CleanErr}
use Rattle.ext_store_files.specs.declared.errors.CleanErr.TheVariants as clean_errors
use Rattle.ext_store_files.proofs.ForCallers.{folder_synced, rose_since, told_map}
use Rattle.ext_gen.specs.declared.bad_store.BadStore.TheVariants as bad_stores
use Rattle.ext_published.specs.Asked.{AskedOf, IsPublishAsk}
use Rattle.ext_published.specs.Manifest.{with_listing}
use Rattle.ext_published.specs.Payload.{listing_name}
use Rattle.ext_published.specs.Names.{tree_text_name}
use Rattle.ext_published.specs.Places.{published_resource_path, tree_text_path}
use Rattle.ext_published.specs.declared.payload.Payload.{Payload}
use Rattle.ext_published.specs.declared.payload.Payload.TheVariants.{Directory, File}
use Rattle.ext_publish.specs.Looking.{HoldsNow, LookCause, MayPublish}
use Rattle.ext_publish.specs.Out.{first_file, is_left_at, left_names, manifest_bytes, wrong_kind}
use Rattle.ext_publish.specs.Refusing.{look_digest}
use Rattle.ext_publish.specs.declared.look_err.LookErr.{LookErr}
use Rattle.ext_publish.specs.declared.look_err.LookErr.TheVariants as look_errors
use Rattle.ext_publish.specs.Carrying.{Carries, CarryCause, LeftOverCause, EndsCarrying, EndsClear, EndsWritten, IsCleared, IsPublishable, IsResourceWritten, LookStops, Tells}
use Rattle.ext_publish.specs.Filling.{FilesCause, IsResourceFilled, IsFilledWith, IsOpenFor, is_filled_at}
use Rattle.ext_publish.specs.Folders.{MakesDown, MakesDownTold, MayMakeDown}
use Rattle.ext_publish.specs.Stopping.{OutCause, stop_of_clean}
use Rattle.ext_publish.specs.Switching.{IsSwitchable, Switches}
use Rattle.ext_publish.specs.declared.stop.Stop.{Stop}
use Rattle.ext_publish.specs.declared.stop.Stop.TheVariants as stops
use Rattle.ext_publish.proofs.CarryingLemmas.{IsWrittenOut, SparedBySwitch, carries_old, carries_switched, made_cleared, made_open, made_out, may_switch, same_file, written_out}
use Rattle.ext_publish.proofs.FoldersLemmas.{sync_spares}
use Rattle.ext_publish.proofs.ReachLemmas.{filled_is_left, right_kinds}

-- what may be published, of what is told
pub may_be : (out : DiskState) (asked : AskedOf) (payload : Payload) → MayPublish out asked payload → IfSome out.told (λ d. IsPublishable asked (now d.places) payload)
may_be out asked payload may = at out.told may.told
  where
    at : (x : Option Told) → IfSome x (λ d. (wrong_kind (now d.places) asked ≡ None) × Rattle.ext_publish.specs.Refusing.HasShortTexts asked payload (now d.places)
        × Rattle.ext_published.specs.Manifest.ListsNeither (manifest_bytes (now d.places) asked) asked.name) → IfSome x (λ d. IsPublishable asked (now d.places) payload)
    at None told = tt
    at (Some d) told = record { paths = may.paths; kinds = told.0; texts = told.1; manifest = told.2 }

-- left-overs were not all removed
ends_unclear : (T U : Type 0) (asked : AskedOf) (uncleaned : CleanErr) (d e : Told) → Removes most_left_overs (is_left_at asked) {T = T} (Err uncleaned) d e → EndsClear {T = U} (Err (stop_of_clean uncleaned)) asked d.places e.places
ends_unclear T U asked clean_errors.DiskFault d e removes = tt
ends_unclear T U asked clean_errors.OutOfMemory d e removes = tt
ends_unclear T U asked clean_errors.Unfinished d e removes = removes.0

pub clear_cause : (old new : DiskState) (uncleaned : CleanErr) → CleanCause old.faults new.faults uncleaned → LeftOverCause old new (stop_of_clean uncleaned)
clear_cause old new clean_errors.DiskFault cause = cause
clear_cause old new clean_errors.OutOfMemory cause = tt
clear_cause old new clean_errors.Unfinished cause = tt

-- what stood at the names in the folder was left-overs
pub cleared_spares : (asked : AskedOf) (dir : List (List ℕ)) (names : List (List ℕ)) (old new : DiskState) → dir ≡ asked.folder → names ≡ left_names asked → Spares (is_below_any dir names) old new → Spares (is_left_at asked) old new
cleared_spares asked dir names old new dir_is names_are spares =
    subst (λ n. Spares (is_below_any asked.folder n) old new) names_are (subst (λ d. Spares (is_below_any d names) old new) dir_is spares)

removes_left : {T : Type 0} (r : Result T CleanErr) (asked : AskedOf) (dir : List (List ℕ)) (names : List (List ℕ)) (old new : DiskState) → dir ≡ asked.folder → names ≡ left_names asked
    → BothTold (Removes most_left_overs (is_below_any dir names) r) old.told new.told → BothTold (Removes most_left_overs (is_left_at asked) r) old.told new.told
removes_left r asked dir names old new dir_is names_are removes =
    subst (λ n. BothTold (Removes most_left_overs (is_below_any asked.folder n) r) old.told new.told) names_are
    (subst (λ d. BothTold (Removes most_left_overs (is_below_any d names) r) old.told new.told) dir_is removes)

pub cleared_told : {T U : Type 0} (r : Result T CleanErr) (t : T) (u : U) (asked : AskedOf) (dir : List (List ℕ)) (names : List (List ℕ)) (old new : DiskState) → r ≡ Ok t → dir ≡ asked.folder → names ≡ left_names asked
    → BothTold (Removes most_left_overs (is_below_any dir names) r) old.told new.told → BothTold (λ d e. EndsClear {T = U} (Ok u) asked d.places e.places) old.told new.told
cleared_told {T} r t u asked dir names old new is dir_is names_are removes =
    told_map (Removes most_left_overs (is_left_at asked) {T = T} (Ok t)) (λ d e. EndsClear (Ok u) asked d.places e.places) (λ d e ends. (ends.0, ends.2)) old.told new.told
    (subst (λ x. BothTold (Removes most_left_overs (is_left_at asked) x) old.told new.told) is (removes_left r asked dir names old new dir_is names_are removes))

pub uncleared_told : {T : Type 0} (U : Type 0) (r : Result T CleanErr) (uncleaned : CleanErr) (stop : Stop) (asked : AskedOf) (dir : List (List ℕ)) (names : List (List ℕ)) (old new : DiskState) → r ≡ Err uncleaned → stop ≡ stop_of_clean uncleaned → dir ≡ asked.folder
    → names ≡ left_names asked → BothTold (Removes most_left_overs (is_below_any dir names) r) old.told new.told → BothTold (λ d e. EndsClear {T = U} (Err stop) asked d.places e.places) old.told new.told
uncleared_told {T} U r uncleaned stop asked dir names old new is stop_is dir_is names_are removes =
    subst (λ (s : Stop). BothTold (λ d e. EndsClear {T = U} (Err s) asked d.places e.places) old.told new.told) (sym stop_is)
    (told_map (Removes most_left_overs (is_left_at asked) {T = T} (Err uncleaned)) (λ d e. EndsClear {T = U} (Err (stop_of_clean uncleaned)) asked d.places e.places) (λ d e ends. ends_unclear T U asked uncleaned d e ends) old.told new.told
    (subst (λ x. BothTold (Removes most_left_overs (is_left_at asked) x) old.told new.told) is (removes_left r asked dir names old new dir_is names_are removes)))

-- how each stage ends that stopped
clear_ends : (T U : Type 0) (stop : Stop) (old new : DiskState) (asked : AskedOf) (payload : Payload) (bytes_of : HeldFile → List ℕ) (d e : Told) → LeftOverCause old new stop → IsPublishable asked (now d.places) payload
    → EndsClear {T = T} (Err stop) asked d.places e.places → EndsCarrying {T = U} (Err stop) asked payload bytes_of d e
clear_ends T U stops.OutOfMemory old new asked payload bytes_of d e cause may ends = tt
clear_ends T U (stops.Refused refusal) old new asked payload bytes_of d e cause may ends = absurd cause
clear_ends T U stops.DiskFault old new asked payload bytes_of d e cause may ends = absurd cause
clear_ends T U stops.OutFault old new asked payload bytes_of d e cause may ends = tt
clear_ends T U (stops.BadStore why) old new asked payload bytes_of d e cause may ends = absurd cause
clear_ends T U stops.Unfinished old new asked payload bytes_of d e cause may ends = (may, ends)

out_ends : (U : Type 0) (stop : Stop) (old new : DiskState) (asked : AskedOf) (payload : Payload) (bytes_of : HeldFile → List ℕ) (d e : Told) → OutCause old new stop → EndsCarrying {T = U} (Err stop) asked payload bytes_of d e
out_ends U stops.OutOfMemory old new asked payload bytes_of d e cause = tt
out_ends U (stops.Refused refusal) old new asked payload bytes_of d e cause = absurd cause
out_ends U stops.DiskFault old new asked payload bytes_of d e cause = absurd cause
out_ends U stops.OutFault old new asked payload bytes_of d e cause = tt
out_ends U (stops.BadStore why) old new asked payload bytes_of d e cause = absurd cause
out_ends U stops.Unfinished old new asked payload bytes_of d e cause = absurd cause

-- what the store tells is not found to be another file
found_as_told : (listed : Stamp) (bytes : List ℕ) (found : Option Stamp) → IsStampOf bytes listed → IsFound listed (stored bytes) found → ⊥
found_as_told listed bytes None stamped other = other (sym stamped.size)
found_as_told listed bytes (Some found) stamped other = other.1 (one_stamp bytes found listed other.2 stamped)

fill_ends : (U : Type 0) (stop : Stop) (store after old new : DiskState) (asked : AskedOf) (payload : Payload) (bytes_of : HeldFile → List ℕ) (d e : Told) → Tells store payload bytes_of → FilesCause payload store after old new stop
    → EndsCarrying {T = U} (Err stop) asked payload bytes_of d e
fill_ends U stops.OutOfMemory store after old new asked payload bytes_of d e tells cause = tt
fill_ends U (stops.Refused refusal) store after old new asked payload bytes_of d e tells cause = absurd cause
fill_ends U stops.DiskFault store after old new asked payload bytes_of d e tells cause = tt
fill_ends U stops.OutFault store after old new asked payload bytes_of d e tells cause = tt
fill_ends U (stops.BadStore (bad_stores.Broken line)) store after old new asked payload bytes_of d e tells cause = absurd cause
fill_ends U (stops.BadStore (bad_stores.Damaged damage)) store after old new asked payload bytes_of d e tells cause =
    let stamped : IsStampOf (bytes_of cause.0) damage.listed = subst (IsStampOf (bytes_of cause.0)) cause.2.stamp (tells.stamped cause.0 cause.1) in
    absurd (found_as_told damage.listed (bytes_of cause.0) damage.found stamped (subst (λ t. IsFound damage.listed t damage.found) (tells.tells cause.0 cause.1) cause.3))
fill_ends U stops.Unfinished store after old new asked payload bytes_of d e tells cause = absurd cause

abbrev Unchanged : (List (List ℕ) → Bool) → Told → Told → Type 0
Unchanged reach d e = (p : List (List ℕ)) → reach p ≡ false → IsUnchangedAt d e p

-- left-overs were not all removed
pub carries_unclear : (T U : Type 0) (stop : Stop) (store old new : DiskState) (asked : AskedOf) (payload : Payload) → IsPublishAsk asked → IfSome old.told IsDisk → MayPublish old asked payload → Spares (is_left_at asked) old new
    → BothTold (λ d e. EndsClear {T = T} (Err stop) asked d.places e.places) old.told new.told → LeftOverCause old new stop → BothTold (Carries {T = U} (Err stop) store asked payload) old.told new.told
carries_unclear T U stop store old new asked payload ask disk may spares ends cause = at old.told new.told disk (may_be old asked payload may) spares.told ends
  where
    at : (x y : Option Told) → IfSome x IsDisk → IfSome x (λ d. IsPublishable asked (now d.places) payload) → BothTold (Unchanged (is_left_at asked)) x y → BothTold (λ d e. EndsClear {T = T} (Err stop) asked d.places e.places) x y
        → BothTold (Carries {T = U} (Err stop) store asked payload) x y
    at None None disk may out ends = tt
    at None (Some e) disk may out ends = absurd out
    at (Some d) None disk may out ends = absurd out
    at (Some d) (Some e) disk may out ends =
        carries_old (Err stop) store asked payload d e ask disk (λ p left missing. out p left) (λ bytes_of tells. clear_ends T U stop old new asked payload bytes_of d e cause may ends)

-- and all that was to go is gone
pub record AreCleared (asked : AskedOf) (old new : DiskState) : Type 0 where
  pub spares : Spares (is_left_at asked) old new
  pub ends : BothTold (λ d e. EndsClear {T = Unit {0}} (Ok (tt {0})) asked d.places e.places) old.told new.told

-- folders may be made
pub may_go_down : (asked : AskedOf) (payload : Payload) (base names : List (List ℕ)) (old mid : DiskState) → base ≡ [] → names ≡ asked.folder → IsPublishAsk asked → IfSome mid.told IsDisk → MayPublish old asked payload → AreCleared asked old mid → MayMakeDown base names mid
may_go_down asked payload base names old mid base_is names_is ask disk may cleared =
    subst (λ b. MayMakeDown b names mid) (sym base_is) (subst (λ n. MayMakeDown [] n mid) (sym names_is) (at old.told mid.told disk (may_be old asked payload may) cleared.spares.told cleared.spares.follows.told cleared.ends))
  where
    at : (x y : Option Told) → IfSome y IsDisk → IfSome x (λ d. IsPublishable asked (now d.places) payload) → BothTold (Unchanged (is_left_at asked)) x y → BothTold IsLater x y
        → BothTold (λ d e. EndsClear {T = Unit {0}} (Ok (tt {0})) asked d.places e.places) x y → IfSome y (λ e. ((e.places []).node ≡ Some folder) × (first_file (now e.places) [] asked.folder ≡ None))
    at None None disk may out later ends = tt
    at None (Some e) disk may out later ends = absurd out
    at (Some d) None disk may out later ends = absurd out
    at (Some d) (Some e) disk may out later ends = (
      ap (λ (x : Rattle.ext_disk.specs.Disk.Place). x.node) disk.tree.root,
      same_file (tt {0}) asked ask d e e out later (later_itself e) ends ∙ (right_kinds (now d.places) asked may.kinds).0,
    )

-- the folders were not all made
pub carries_unmade : (T U : Type 0) (stop : Stop) (store old mid new : DiskState) (asked : AskedOf) (payload : Payload) (base names : List (List ℕ)) → base ≡ [] → names ≡ asked.folder → IsPublishAsk asked → IfSome old.told IsDisk → AreCleared asked old mid
    → MakesDown {T = T} base names (Err stop) mid new → OutCause mid new stop → BothTold (Carries {T = U} (Err stop) store asked payload) old.told new.told
carries_unmade T U stop store old mid new asked payload base names base_is names_is ask disk cleared makes cause =
    at old.told mid.told new.told disk cleared.spares.told cleared.spares.follows.told cleared.ends makes.follows.told
    (subst (λ b. BothTold (MakesDownTold {T = T} b asked.folder (Err stop)) mid.told new.told) base_is (subst (λ n. BothTold (MakesDownTold {T = T} base n (Err stop)) mid.told new.told) names_is makes.told))
  where
    at : (x y z : Option Told) → IfSome x IsDisk → BothTold (Unchanged (is_left_at asked)) x y → BothTold IsLater x y → BothTold (λ d e. EndsClear {T = Unit {0}} (Ok (tt {0})) asked d.places e.places) x y → BothTold IsLater y z
        → BothTold (MakesDownTold {T = T} [] asked.folder (Err stop)) y z → BothTold (Carries {T = U} (Err stop) store asked payload) x z
    at None None None disk out later ends after makes = tt
    at None None (Some e) disk out later ends after makes = absurd after
    at None (Some c) z disk out later ends after makes = absurd out
    at (Some d) None z disk out later ends after makes = absurd out
    at (Some d) (Some c) None disk out later ends after makes = absurd after
    at (Some d) (Some c) (Some e) disk out later ends after makes =
        carries_old (Err stop) store asked payload d e ask disk (made_out (tt {0}) asked ask d c e out later after ends (Err stop) makes) (λ bytes_of tells. out_ends U stop mid new asked payload bytes_of d e cause)

-- they were made
pub record AreOpened (asked : AskedOf) (old new : DiskState) : Type 0 where
  pub follows : Follows old new
  pub told : BothTold (λ d e. IsCleared asked d e × IsOpenFor asked e.places) old.told new.told

pub opens_down : (T : Type 0) (x : T) (asked : AskedOf) (base names : List (List ℕ)) (old mid new : DiskState) → base ≡ [] → names ≡ asked.folder → IsPublishAsk asked → AreCleared asked old mid → MakesDown {T = T} base names (Ok x) mid new → AreOpened asked old new
opens_down T x asked base names old mid new base_is names_is ask cleared makes = record {
  follows = Rattle.ext_disk.proofs.ForCallers.follows_then old mid new cleared.spares.follows makes.follows;
  told = at old.told mid.told new.told cleared.spares.told cleared.spares.follows.told cleared.ends makes.follows.told
      (subst (λ b. BothTold (MakesDownTold {T = T} b asked.folder (Ok x)) mid.told new.told) base_is (subst (λ n. BothTold (MakesDownTold {T = T} base n (Ok x)) mid.told new.told) names_is makes.told));
}
  where
    at : (a b c : Option Told) → BothTold (Unchanged (is_left_at asked)) a b → BothTold IsLater a b → BothTold (λ d e. EndsClear {T = Unit {0}} (Ok (tt {0})) asked d.places e.places) a b → BothTold IsLater b c
        → BothTold (MakesDownTold {T = T} [] asked.folder (Ok x)) b c → BothTold (λ d e. IsCleared asked d e × IsOpenFor asked e.places) a c
    at None None None out later ends after makes = tt
    at None None (Some e) out later ends after makes = absurd after
    at None (Some c) z out later ends after makes = absurd out
    at (Some d) None z out later ends after makes = absurd out
    at (Some d) (Some c) None out later ends after makes = absurd after
    at (Some d) (Some c) (Some e) out later ends after makes =
        (made_cleared (tt {0}) asked ask d c e out later after ends x makes, made_open (tt {0}) asked ask d c e out later after ends x makes)

pub opened_for : (asked : AskedOf) (old new : DiskState) → AreOpened asked old new → IfSome new.told (λ d. IsOpenFor asked d.places)
opened_for asked old new opened = at old.told new.told opened.told
  where
    at : (x y : Option Told) → BothTold (λ d e. IsCleared asked d e × IsOpenFor asked e.places) x y → IfSome y (λ d. IsOpenFor asked d.places)
    at x None both = tt
    at None (Some e) both = absurd both
    at (Some d) (Some e) both = both.1

-- the resource was not written
pub carries_unwritten : (U : Type 0) (stop : Stop) (store after old mid new : DiskState) (asked : AskedOf) (payload : Payload) → IsPublishAsk asked → IfSome old.told IsDisk → AreOpened asked old mid → Spares (is_filled_at asked) mid new
    → FilesCause payload store after mid new stop → BothTold (Carries {T = U} (Err stop) store asked payload) old.told new.told
carries_unwritten U stop store after old mid new asked payload ask disk opened spares cause = at old.told mid.told new.told disk opened.told spares.told
  where
    at : (x y z : Option Told) → IfSome x IsDisk → BothTold (λ d e. IsCleared asked d e × IsOpenFor asked e.places) x y → BothTold (Unchanged (is_filled_at asked)) y z → BothTold (Carries {T = U} (Err stop) store asked payload) x z
    at None None None disk opened out = tt
    at None None (Some e) disk opened out = absurd out
    at None (Some c) z disk opened out = absurd opened
    at (Some d) None z disk opened out = absurd opened
    at (Some d) (Some c) None disk opened out = absurd out
    at (Some d) (Some c) (Some e) disk opened out =
        carries_old (Err stop) store asked payload d e ask disk
        (λ p left missing. unchanged_then d c e p opened.0.later (opened.0.out p left missing) (out p (filled_is_left asked p left)))
        (λ bytes_of tells. fill_ends U stop store after mid new asked payload bytes_of d e tells cause)

-- it was
pub record AreWritten (store : DiskState) (asked : AskedOf) (payload : Payload) (old new : DiskState) : Type 0 where
  pub follows : Follows old new
  pub told : BothTold (IsWrittenOut store asked payload) old.told new.told

pub writes_out : {T : Type 0} (x : T) (store : DiskState) (asked : AskedOf) (payload : Payload) (old mid new : DiskState) → IsPublishAsk asked → AreOpened asked old mid → Spares (is_filled_at asked) mid new → EndsWritten {T = T} (Ok x) store asked payload new
    → AreWritten store asked payload old new
writes_out {T} x store asked payload old mid new ask opened spares written = record {
  follows = Rattle.ext_disk.proofs.ForCallers.follows_then old mid new opened.follows spares.follows;
  told = at old.told mid.told new.told opened.told spares.told spares.follows.told written;
}
  where
    at : (a b c : Option Told) → BothTold (λ d e. IsCleared asked d e × IsOpenFor asked e.places) a b → BothTold (Unchanged (is_filled_at asked)) b c → BothTold IsLater b c → IfSome c (λ e. IsResourceWritten store asked payload e.places)
        → BothTold (IsWrittenOut store asked payload) a c
    at None None None opened out later written = tt
    at None None (Some e) opened out later written = absurd out
    at None (Some c) z opened out later written = absurd opened
    at (Some d) None z opened out later written = absurd opened
    at (Some d) (Some c) None opened out later written = absurd out
    at (Some d) (Some c) (Some e) opened out later written = written_out store asked payload d c e ask later out opened.0 opened.1 written

-- what is written stays so where nothing changes what stands, and what is synced stays synced
filled_with_stays : (store : DiskState) (held : HeldFile) (path : List (List ℕ)) (d e : Places) → Stays d e path → IsFilledWith store held path d → IsFilledWith store held path e
filled_with_stays store held path d e stays filled = (filled.0, filled.1, filled.2, record { node = stays.node ∙ filled.3.node; hard = stays.hard filled.3.hard })

filled_stays : (store : DiskState) (asked : AskedOf) (payload : Payload) (d e : Places) → ((p : List (List ℕ)) → Stays d e p) → IsResourceFilled store asked payload d → IsResourceFilled store asked payload e
filled_stays store asked (Directory tree) d e stays filled =
    let resource = published_resource_path asked in
    let old = filled.1 in (
      record { node = (stays (tree_text_path asked)).node ∙ filled.0.node; hard = (stays (tree_text_path asked)).hard filled.0.hard },
      record {
        base = (stays asked.folder).node ∙ old.base;
        files = λ path held has. filled_with_stays store held (resource ++ path) d e (stays (resource ++ path)) (old.files path held has);
        only = λ path is. old.only path (ap is_file (sym (stays (resource ++ path)).node) ∙ is);
        folders = λ path is. old.folders path (sym (stays (resource ++ path)).node ∙ is);
        calm = λ path is. let was = old.calm path (sym (stays (resource ++ path)).node ∙ is) in record { synced = (stays (resource ++ path)).synced was.synced; hard = (stays (resource ++ path)).hard was.hard };
      },
      λ path held has. (stays (resource ++ path)).synced (filled.2 path held has),
    )
filled_stays store asked (File held) d e stays filled = filled_with_stays store held (published_resource_path asked) d e (stays (published_resource_path asked)) filled

-- written, and the folder synced
pub filled_synced : {T : Type 0} (result : Result T Stop) (store : DiskState) (asked : AskedOf) (payload : Payload) (dir : List (List ℕ)) (mid new : DiskState) → dir ≡ asked.folder → IfSome mid.told (λ d. IsResourceFilled store asked payload d.places)
    → Does (sync_dir dir) mid new (is_ok result) → EndsWritten result store asked payload new
filled_synced (Err stop) store asked payload dir mid new dir_is filled does = tt
filled_synced (Ok x) store asked payload dir mid new dir_is filled does =
    let here : Does (sync_dir asked.folder) mid new true = subst (λ q. Does (sync_dir q) mid new true) dir_is does in
    at mid.told new.told filled (sync_spares nowhere asked.folder true mid new here).told (folder_synced asked.folder mid.told new.told here.told)
  where
    at : (a b : Option Told) → IfSome a (λ d. IsResourceFilled store asked payload d.places) → BothTold (Unchanged nowhere) a b → BothTold (SyncsIn asked.folder) a b → IfSome b (λ e. IsResourceWritten store asked payload e.places)
    at None None filled out syncs = tt
    at None (Some e) filled out syncs = absurd out
    at (Some d) None filled out syncs = absurd out
    at (Some d) (Some e) filled out syncs = record {
      filled = filled_stays store asked payload d.places e.places (λ p. (out p refl).stays) filled;
      text = syncs.names (tree_text_name asked.name);
      resource = syncs.names asked.name;
    }

pub may_be_switched : (store : DiskState) (asked : AskedOf) (payload : Payload) (old new : DiskState) → MayPublish old asked payload → AreWritten store asked payload old new → IfSome new.told (λ d. IsSwitchable asked d.places)
may_be_switched store asked payload old new may written = at old.told new.told (may_be old asked payload may) written.told
  where
    at : (x y : Option Told) → IfSome x (λ d. IsPublishable asked (now d.places) payload) → BothTold (IsWrittenOut store asked payload) x y → IfSome y (λ d. IsSwitchable asked d.places)
    at x None may written = tt
    at None (Some e) may written = absurd written
    at (Some d) (Some e) may written = may_switch store asked payload d e may.kinds written

pub carries_through : (result : Result (Unit {0}) Stop) (store : DiskState) (asked : AskedOf) (payload : Payload) (text : List ℕ) (old mid new : DiskState) → IsPublishAsk asked → IfSome old.told IsDisk → IfSome mid.told IsDisk → MayPublish old asked payload
    → HoldsNow old (λ t. text ≡ with_listing (manifest_bytes t asked) (look_digest payload) (listing_name payload asked.name)) → AreWritten store asked payload old mid → Follows mid new → BothTold (SparedBySwitch asked) mid.told new.told
    → BothTold (Switches result asked text) mid.told new.told → IfErr result (λ stop. stop ≡ stops.OutFault) → BothTold (Carries result store asked payload) old.told new.told
carries_through result store asked payload text old mid new ask disk disk_mid may text_is written follows spared switches cause =
    at old.told mid.told new.told disk disk_mid (may_be old asked payload may) text_is written.told follows.told spared switches
  where
    at : (x y z : Option Told) → IfSome x IsDisk → IfSome y IsDisk → IfSome x (λ d. IsPublishable asked (now d.places) payload)
        → IfSome x (λ d. text ≡ with_listing (manifest_bytes (now d.places) asked) (look_digest payload) (listing_name payload asked.name)) → BothTold (IsWrittenOut store asked payload) x y → BothTold IsLater y z
        → BothTold (SparedBySwitch asked) y z → BothTold (Switches result asked text) y z → BothTold (Carries result store asked payload) x z
    at None None None disk disk_mid may text_is written later spared switches = tt
    at None None (Some e) disk disk_mid may text_is written later spared switches = absurd later
    at None (Some c) z disk disk_mid may text_is written later spared switches = absurd written
    at (Some d) None z disk disk_mid may text_is written later spared switches = absurd written
    at (Some d) (Some c) None disk disk_mid may text_is written later spared switches = absurd later
    at (Some d) (Some c) (Some e) disk disk_mid may text_is written later spared switches =
        carries_switched result store asked payload text d c e ask disk disk_mid later may text_is written spared switches cause

-- causes since an earlier time
pub carry_clear : (payload : Payload) (store old new : DiskState) (stop : Stop) → LeftOverCause old new stop → CarryCause payload store store old new stop
carry_clear payload store old new stops.OutOfMemory cause = tt
carry_clear payload store old new (stops.Refused refusal) cause = tt
carry_clear payload store old new stops.DiskFault cause = absurd cause
carry_clear payload store old new stops.OutFault cause = cause
carry_clear payload store old new (stops.BadStore why) cause = absurd cause
carry_clear payload store old new stops.Unfinished cause = tt

pub carry_out_cause : (payload : Payload) (store old mid new : DiskState) (stop : Stop) → old.faults ≤ mid.faults → OutCause mid new stop → CarryCause payload store store old new stop
carry_out_cause payload store old mid new stops.OutOfMemory count cause = tt
carry_out_cause payload store old mid new (stops.Refused refusal) count cause = tt
carry_out_cause payload store old mid new stops.DiskFault count cause = absurd cause
carry_out_cause payload store old mid new stops.OutFault count cause = rose_since old.faults mid.faults new.faults count cause
carry_out_cause payload store old mid new (stops.BadStore why) count cause = absurd cause
carry_out_cause payload store old mid new stops.Unfinished count cause = tt

pub carry_fill : (payload : Payload) (store after old mid new : DiskState) (stop : Stop) → old.faults ≤ mid.faults → FilesCause payload store after mid new stop → CarryCause payload store after old new stop
carry_fill payload store after old mid new stops.OutOfMemory count cause = tt
carry_fill payload store after old mid new (stops.Refused refusal) count cause = tt
carry_fill payload store after old mid new stops.DiskFault count cause = cause
carry_fill payload store after old mid new stops.OutFault count cause = rose_since old.faults mid.faults new.faults count cause
carry_fill payload store after old mid new (stops.BadStore (bad_stores.Broken line)) count cause = cause
carry_fill payload store after old mid new (stops.BadStore (bad_stores.Damaged damage)) count cause = cause
carry_fill payload store after old mid new stops.Unfinished count cause = tt

pub carry_switch : (payload : Payload) (store after old mid new : DiskState) (stop : Stop) → old.faults ≤ mid.faults → (stop ≡ stops.OutFault) × Rose mid.faults new.faults → CarryCause payload store after old new stop
carry_switch payload store after old mid new stop count cause = subst (CarryCause payload store after old new) (sym cause.0) (rose_since old.faults mid.faults new.faults count cause.1)

-- it may not be published
look_ends : (U : Type 0) (asked : AskedOf) (payload : Payload) (refused : LookErr) (stop : Stop) (old new : DiskState) (bytes_of : HeldFile → List ℕ) (d : Told) → old.told ≡ Some d → LookStops asked refused stop → LookCause old new asked payload refused
    → EndsCarrying {T = U} (Err stop) asked payload bytes_of d d
look_ends U asked payload look_errors.OutOfMemory stop old new bytes_of d told is cause = subst (λ s. EndsCarrying {T = U} (Err s) asked payload bytes_of d d) (sym is) tt
look_ends U asked payload look_errors.OutFault stop old new bytes_of d told is cause = subst (λ s. EndsCarrying {T = U} (Err s) asked payload bytes_of d d) (sym is) tt
look_ends U asked payload look_errors.LimitPath stop old new bytes_of d told is cause = subst (λ s. EndsCarrying {T = U} (Err s) asked payload bytes_of d d) (sym is) (cause, refl)
look_ends U asked payload (look_errors.OutKind path) stop old new bytes_of d told is cause =
    subst (λ s. EndsCarrying {T = U} (Err s) asked payload bytes_of d d) (sym is) ((cause.0, subst (λ x. IfSome x (λ e. wrong_kind (now e.places) asked ≡ Some path)) told cause.1), refl)
look_ends U asked payload look_errors.LimitText stop old new bytes_of d told is cause =
    let here = subst (λ x. IfSome x (λ e. (wrong_kind (now e.places) asked ≡ None) × ¬ Rattle.ext_publish.specs.Refusing.HasShortTexts asked payload (now e.places))) told cause.1 in
    subst (λ s. EndsCarrying {T = U} (Err s) asked payload bytes_of d d) (sym is) ((cause.0, here.0, here.1), refl)
look_ends U asked payload (look_errors.OutManifest line) stop old new bytes_of d told is cause =
    let here = subst (λ x. IfSome x (λ e. (wrong_kind (now e.places) asked ≡ None) × Rattle.ext_publish.specs.Refusing.HasShortTexts asked payload (now e.places)
    × Rattle.ext_sums.specs.Manifest.IsFirstFault (manifest_bytes (now e.places) asked) line)) told cause.1 in
    subst (λ s. EndsCarrying {T = U} (Err s) asked payload bytes_of d d) (sym is) ((cause.0, here.0, here.1, here.2), refl)
look_ends U asked payload look_errors.Listed stop old new bytes_of d told (inl is) cause = subst (λ s. EndsCarrying {T = U} (Err s) asked payload bytes_of d d) (sym is) tt
look_ends U asked payload look_errors.Listed stop old new bytes_of d told (inr is) cause =
    let here = subst (λ x. IfSome x (λ e. (wrong_kind (now e.places) asked ≡ None) × Rattle.ext_publish.specs.Refusing.HasShortTexts asked payload (now e.places)
    × Rattle.ext_published.specs.Manifest.ListsOne (manifest_bytes (now e.places) asked) asked.name)) told cause.1 in
    subst (λ s. EndsCarrying {T = U} (Err s) asked payload bytes_of d d) (sym is) ((refl, cause.0, here.0, here.1, here.2), refl)

pub carries_refused : (U : Type 0) (asked : AskedOf) (payload : Payload) (refused : LookErr) (stop : Stop) (store old new : DiskState) → IsPublishAsk asked → IfSome old.told IsDisk → Rests old new → LookStops asked refused stop → LookCause old new asked payload refused
    → BothTold (Carries {T = U} (Err stop) store asked payload) old.told new.told
carries_refused U asked payload refused stop store old new ask disk rests is cause = subst (BothTold (Carries {T = U} (Err stop) store asked payload) old.told) (sym rests.told) (at old.told refl disk)
  where
    at : (x : Option Told) → old.told ≡ x → IfSome x IsDisk → BothTold (Carries {T = U} (Err stop) store asked payload) x x
    at None told disk = tt
    at (Some d) told disk = carries_old (Err stop) store asked payload d d ask disk (λ p left missing. unchanged_itself d p) (λ bytes_of tells. look_ends U asked payload refused stop old new bytes_of d told is cause)

pub look_cause : (asked : AskedOf) (payload : Payload) (refused : LookErr) (stop : Stop) (store old new : DiskState) → LookStops asked refused stop → LookCause old new asked payload refused → CarryCause payload store store old new stop
look_cause asked payload look_errors.OutOfMemory stop store old new is cause = subst (CarryCause payload store store old new) (sym is) tt
look_cause asked payload look_errors.OutFault stop store old new is cause = subst (CarryCause payload store store old new) (sym is) cause
look_cause asked payload look_errors.LimitPath stop store old new is cause = subst (CarryCause payload store store old new) (sym is) tt
look_cause asked payload (look_errors.OutKind path) stop store old new is cause = subst (CarryCause payload store store old new) (sym is) tt
look_cause asked payload look_errors.LimitText stop store old new is cause = subst (CarryCause payload store store old new) (sym is) tt
look_cause asked payload (look_errors.OutManifest line) stop store old new is cause = subst (CarryCause payload store store old new) (sym is) tt
look_cause asked payload look_errors.Listed stop store old new (inl is) cause = subst (CarryCause payload store store old new) (sym is) tt
look_cause asked payload look_errors.Listed stop store old new (inr is) cause = subst (CarryCause payload store store old new) (sym is) tt

pub cause_rests : (payload : Payload) (store after old mid new : DiskState) (stop : Stop) → Rests old mid → CarryCause payload store after mid new stop → CarryCause payload store after old new stop
cause_rests payload store after old mid new stops.OutOfMemory rests cause = tt
cause_rests payload store after old mid new (stops.Refused refusal) rests cause = tt
cause_rests payload store after old mid new stops.DiskFault rests cause = cause
cause_rests payload store after old mid new stops.OutFault rests cause = rose_since old.faults mid.faults new.faults rests.count cause
cause_rests payload store after old mid new (stops.BadStore (bad_stores.Broken line)) rests cause = cause
cause_rests payload store after old mid new (stops.BadStore (bad_stores.Damaged damage)) rests cause = cause
cause_rests payload store after old mid new stops.Unfinished rests cause = tt

-- why the switch failed
pub only_faults : {T : Type 0} (old new : ℕ) (result : Result T Stop) → IfErr result (λ e. (e ≡ stops.OutFault) × Rose old new) → IfErr result (λ e. e ≡ stops.OutFault)
only_faults old new (Ok x) cause = tt
only_faults old new (Err e) cause = cause.0

-- the text that is written is the new manifest
pub text_moved : (out : DiskState) (manifest text : List ℕ) (asked : AskedOf) (payload : Payload) → text ≡ manifest → HoldsNow out (λ t. manifest ≡ with_listing (manifest_bytes t asked) (look_digest payload) (listing_name payload asked.name))
    → HoldsNow out (λ t. text ≡ with_listing (manifest_bytes t asked) (look_digest payload) (listing_name payload asked.name))
text_moved out manifest text asked payload same holds = subst (λ (m : List ℕ). HoldsNow out (λ t. m ≡ with_listing (manifest_bytes t asked) (look_digest payload) (listing_name payload asked.name))) (sym same) holds
