-- The switch: what a rename of `next` to `current` leaves of a store that was ready.
use Rattle.std.proofs.Common.{◌≡◌, ◌⊎◌, ℕ, Bool, true, false, cond, ◌&&◌, List, [], Option, Some, None, IfSome, Result, Ok, Err, refl, sym, ap, ◌∙◌, subst, inl, inr, arith}
use Rattle.std.proofs.lemmas.Bool.{false≢true, and_from, cond-false, or_parts}
use Rattle.std.specs.Option.{is_some}
use Rattle.std.specs.Result.{is_ok}
use Rattle.std.specs.Ordering.{eq_by_cmp}
use Rattle.ext_text.specs.Path.{path_cmp}
use Rattle.ext_io.specs.declared.failed.Failed.{Failed}
use Rattle.ext_disk.specs.Disk.{Node, Place, Places, Told, DiskState, BothTold, Swing, IsDisk, is_file, is_durable, now, root_place}
use Rattle.ext_disk.specs.Calls.{Allows, IsWithin, MayCall, Does, DoesTold, reached_place, rename, renamed, synced_in, sync_dir}
use Rattle.ext_store_files.specs.Names.{current_name, current_path, index_path, next_name, next_path}
use Rattle.ext_store_files.specs.Writing.{is_at}
use Rattle.ext_store_files.proofs.ForCallers.{told_map, told_then, within_same, within_then}
use Rattle.ext_gen.specs.Opened.{Generation}
use Rattle.ext_gen.specs.Store.{State, Points, Stands}
use Rattle.ext_gen.specs.Sound.{IsGenerationPath, base_folder, base_index, base_home, IsBaseDurable, MayHold, as_now, as_before, as_after, with_current, IsEither, IsDurably, IsReady, StandsSince}
use Rattle.ext_gen.specs.Committing.{HasPaths, IsOneOf, IsPrepared, MayCommit, PointsAfter, SwitchesNow, is_switched, CommitsTold}
use Rattle.ext_gen.proofs.StatesLemmas.{either_left, durably_is_either, durably_marks, stands_same, stands_with, stands_without, with_apart}
use Rattle.ext_gen.proofs.DurableLemmas.{stands_since_then}
use Rattle.ext_gen.proofs.SyncingLemmas.{durable_synced, durably_synced, now_synced, sync_works, within_since}

-- what a state rests on lies apart from `next`, too
next_apart : (s : State) (p : List (List ℕ)) → IsGenerationPath s p → eq_by_cmp path_cmp next_path p ≡ false
next_apart s p (base_folder g contents) = refl
next_apart s p (base_index g contents) = refl
next_apart s p (base_home g contents held kept is) = refl

-- a path on which a state rests is as before, and as durable
base_switched : (moved : Bool) (d : Places) (s : State) (p : List (List ℕ)) → IsGenerationPath s p → renamed next_path current_path moved d p ≡ d p
base_switched moved d s p (base_folder g contents) = refl
base_switched moved d s p (base_index g contents) = refl
base_switched moved d s p (base_home g contents held kept is) = refl

durable_switched : (moved : Bool) (d : Places) (s : State) (p : List (List ℕ)) → IsGenerationPath s p → is_durable (renamed next_path current_path moved d) p ≡ is_durable d p
durable_switched moved d s p (base_folder g contents) = refl
durable_switched moved d s p (base_index g contents) = refl
durable_switched moved d s p (base_home g contents held kept is) = refl

base_durable_switched : (moved : Bool) (d : Places) (s : State) → IsBaseDurable d s → IsBaseDurable (renamed next_path current_path moved d) s
base_durable_switched moved d s durable = λ p base. durable_switched moved d s p base ∙ durable p base

current_switched : (moved : Bool) (d : Places) → is_durable d next_path ≡ true → is_durable d current_path ≡ true
    → renamed next_path current_path moved d current_path ≡ reached_place moved true (d next_path) (d current_path)
current_switched moved d next current = ap (λ b. reached_place moved b (d next_path) (d current_path)) (and_from _ _ next current)

pub swing_before : (to from : Option Node) (o : Option Swing) (w : Swing) → o ≡ Some (record { before = to; after = from }) → o ≡ Some w → w.before ≡ to
swing_before to from o w is some = ap (λ (x : Option Swing). elim x [ None ↦ to | Some v ↦ v.before ]) (sym some ∙ is)

pub swing_after : (to from : Option Node) (o : Option Swing) (w : Swing) → o ≡ Some (record { before = to; after = from }) → o ≡ Some w → w.after ≡ from
swing_after to from o w is some = ap (λ (x : Option Swing). elim x [ None ↦ from | Some v ↦ v.after ]) (sym some ∙ is)

reached_node : (moved : Bool) (from to : Place) → ((reached_place moved true from to).node ≡ to.node) ⊎ ((reached_place moved true from to).node ≡ from.node)
reached_node true from to = inr refl
reached_node false from to = inl refl

-- what it had, or what `next` had
held_switched : (moved : Bool) (d : Places) → is_durable d next_path ≡ true → is_durable d current_path ≡ true → (content : Option Node)
    → MayHold (renamed next_path current_path moved d) content → (content ≡ (d current_path).node) ⊎ (content ≡ (d next_path).node)
held_switched moved d next current content as_now =
    subst (λ (x : Place). (x.node ≡ (d current_path).node) ⊎ (x.node ≡ (d next_path).node)) (sym (current_switched moved d next current))
    (reached_node moved (d next_path) (d current_path))
held_switched moved d next current content (as_before w is) =
    inl (swing_before (d current_path).node (d next_path).node (renamed next_path current_path moved d current_path).unsynced_rename w
    (ap (λ (x : Place). x.unsynced_rename) (current_switched moved d next current)) is)
held_switched moved d next current content (as_after w is) =
    inr (swing_after (d current_path).node (d next_path).node (renamed next_path current_path moved d current_path).unsynced_rename w
    (ap (λ (x : Place). x.unsynced_rename) (current_switched moved d next current)) is)

-- with something else at `current`, what stands at each path on which a state rests is the same
stands_switched : (moved : Bool) (d : Places) (s : State) (content : Option Node)
    → Stands (with_current content (now d)) s → Stands (with_current content (now (renamed next_path current_path moved d))) s
stands_switched moved d s content stands =
    stands_same (with_current content (now d)) (with_current content (now (renamed next_path current_path moved d))) s refl
    (λ p base. with_apart content (now (renamed next_path current_path moved d)) s p base
    ∙ ap (λ (x : Place). x.node) (base_switched moved d s p base) ∙ sym (with_apart content (now d) s p base))
    stands

either_of : (s u : State) (d : Places) (moved : Bool) → IsReady s u d → (content : Option Node) → (content ≡ (d current_path).node) ⊎ (content ≡ (d next_path).node)
    → (Stands (with_current content (now (renamed next_path current_path moved d))) s × IsBaseDurable (renamed next_path current_path moved d) s)
    ⊎ (Stands (with_current content (now (renamed next_path current_path moved d))) u × IsBaseDurable (renamed next_path current_path moved d) u)
either_of s u d moved ready content (inl before) =
    inl (
      stands_switched moved d s content (subst (λ x. Stands (with_current x (now d)) s) (sym before) (stands_with (now d) s ready.durably.stands)),
      base_durable_switched moved d s ready.durably.base,
    )
either_of s u d moved ready content (inr after) =
    inr (
      stands_switched moved d u content (subst (λ x. Stands (with_current x (now d)) u) (sym after) ready.coming),
      base_durable_switched moved d u ready.base,
    )

-- a rename of `next`, done or failed, leaves one of both states
pub ready_switched : (s u : State) (d : Places) (moved : Bool) → IsReady s u d → IsEither s u (renamed next_path current_path moved d)
ready_switched s u d moved ready =
    let marks = durably_marks s d ready.durably in
    let is = current_switched moved d ready.next ready.durably.current in
    record {
      synced = ap (λ (x : Place). x.unsynced_name) is ∙ marks.0;
      hard = ap (λ (x : Place). x.unsynced_bytes) is ∙ marks.1;
      each = λ content may. either_of s u d moved ready content (held_switched moved d ready.next ready.durably.current content may);
    }

either_renaming : (s u : State) (d x : Places) → IsReady s u d → (x ≡ d) ⊎ IsWithin (rename next_path current_path) d x → IsEither s u x
either_renaming s u d x ready (inl same) = subst (IsEither s u) (sym same) (durably_is_either s u d ready.durably)
either_renaming s u d x ready (inr (inl is)) = subst (IsEither s u) (sym is) (ready_switched s u d true ready)
either_renaming s u d x ready (inr (inr (inl same))) = subst (IsEither s u) (sym same) (durably_is_either s u d ready.durably)
either_renaming s u d x ready (inr (inr (inr half))) = subst (IsEither s u) (sym half.1) (ready_switched s u d half.0 ready)

root_renaming : (d x : Places) → (x ≡ d) ⊎ IsWithin (rename next_path current_path) d x → x [] ≡ d []
root_renaming d x (inl same) = ap (λ (f : Places). f []) same
root_renaming d x (inr (inl is)) = ap (λ (f : Places). f []) is
root_renaming d x (inr (inr (inl same))) = ap (λ (f : Places). f []) same
root_renaming d x (inr (inr (inr half))) = ap (λ (f : Places). f []) half.1

renaming_since : (s u : State) (done : Bool) (d e : Told) → IsDisk d → IsReady s u d.places → DoesTold (rename next_path current_path) done d e → StandsSince (IsOneOf s u) e d.clock
renaming_since s u done d e disk ready does =
    within_since (IsOneOf s u) (rename next_path current_path) done d e disk does
    (λ x t is left. either_left s u x t (root_renaming d.places x is ∙ disk.tree.root) (either_renaming s u d.places x ready is) left)

none_unsynced_rename : (o : Option Swing) (w : Swing) → o ≡ None → o ≡ Some w → ⊥
none_unsynced_rename o w still some = false≢true (ap is_some (sym still) ∙ ap is_some some)

held_synced : (d : Places) (content : Option Node) → MayHold (synced_in [] d) content → content ≡ (d current_path).node
held_synced d content as_now = refl
held_synced d content (as_before w is) = absurd (none_unsynced_rename _ w refl is)
held_synced d content (as_after w is) = absurd (none_unsynced_rename _ w refl is)

stands_synced : (d : Places) (s : State) (content : Option Node) → content ≡ (d current_path).node → Stands (with_current (d current_path).node (now d)) s → Stands (with_current content (now (synced_in [] d))) s
stands_synced d s content is stands =
    stands_same (with_current (d current_path).node (now d)) (with_current content (now (synced_in [] d))) s is
    (λ p base. with_apart content (now (synced_in [] d)) s p base ∙ now_synced [] d p ∙ sym (with_apart (d current_path).node (now d) s p base))
    stands

synced_side : (s u : State) (d : Places) (content : Option Node) → content ≡ (d current_path).node
    → (Stands (with_current (d current_path).node (now d)) s × IsBaseDurable d s) ⊎ (Stands (with_current (d current_path).node (now d)) u × IsBaseDurable d u)
    → (Stands (with_current content (now (synced_in [] d))) s × IsBaseDurable (synced_in [] d) s) ⊎ (Stands (with_current content (now (synced_in [] d))) u × IsBaseDurable (synced_in [] d) u)
synced_side s u d content is (inl one) = inl (stands_synced d s content is one.0, λ p base. durable_synced [] d p (one.1 p base))
synced_side s u d content is (inr other) = inr (stands_synced d u content is other.0, λ p base. durable_synced [] d p (other.1 p base))

either_synced : (s u : State) (d : Places) → IsEither s u d → IsEither s u (synced_in [] d)
either_synced s u d either = record {
  synced = refl;
  hard = either.hard;
  each = λ content may. synced_side s u d content (held_synced d content may) (either.each _ as_now);
}

either_syncing : (s u : State) (d x : Places) → IsEither s u d → (x ≡ d) ⊎ IsWithin (sync_dir []) d x → IsEither s u x
either_syncing s u d x either (inl same) = subst (IsEither s u) (sym same) either
either_syncing s u d x either (inr (inl is)) = subst (IsEither s u) (sym is) (either_synced s u d either)
either_syncing s u d x either (inr (inr (inl same))) = subst (IsEither s u) (sym same) either
either_syncing s u d x either (inr (inr (inr half))) = absurd half

root_syncing : (d x : Places) → (x ≡ d) ⊎ IsWithin (sync_dir []) d x → x [] ≡ d []
root_syncing d x (inl same) = ap (λ (f : Places). f []) same
root_syncing d x (inr (inl is)) = ap (λ (f : Places). f []) is
root_syncing d x (inr (inr (inl same))) = ap (λ (f : Places). f []) same
root_syncing d x (inr (inr (inr half))) = absurd half

syncing_since : (s u : State) (done : Bool) (d e : Told) → IsDisk d → IsEither s u d.places → DoesTold (sync_dir []) done d e → StandsSince (IsOneOf s u) e d.clock
syncing_since s u done d e disk either does =
    within_since (IsOneOf s u) (sync_dir []) done d e disk does
    (λ x t is left. either_left s u x t (root_syncing d.places x is ∙ disk.tree.root) (either_syncing s u d.places x either is) left)

renamed_is : (d e : Told) → DoesTold (rename next_path current_path) true d e → e.places ≡ renamed next_path current_path true d.places
renamed_is d e does = does.ends.0

failed_either : (s u : State) (d e : Told) → IsReady s u d.places → DoesTold (rename next_path current_path) false d e → IsEither s u e.places
failed_either s u d e ready does = either_renaming s u d.places e.places ready (inr (inr does.ends.0))

abbrev ok_of : (E : Type 0) {T : Type 0} → T → Result T E
ok_of E x = Ok x

abbrev err_of : (T : Type 0) {E : Type 0} → E → Result T E
err_of T e = Err e

-- the rename failed
pub rename_failed : (T : Type 0) (f : Failed) (d e : Told) → IsDisk d → DoesTold (rename next_path current_path) false d e → CommitsTold (err_of T f) d e
rename_failed T f d e disk does = λ s u ready. (failed_either s u d e ready does, renaming_since s u false d e disk ready does)

-- it was done, and syncing the store folder failed
pub syncing_failed : (T : Type 0) (f : Failed) (c d e : Told) → IsDisk c → IsDisk d → DoesTold (rename next_path current_path) true c d → DoesTold (sync_dir []) false d e → CommitsTold (err_of T f) c e
syncing_failed T f c d e before after renames syncs = λ s u ready.
    let either = either_renaming s u c.places d.places ready (inr (inl (renamed_is c d renames))) in (
      subst (λ (x : Told). IsEither s u x.places) (sym syncs.ends) either,
      stands_since_then (IsOneOf s u) d e c.clock syncs.later (renaming_since s u true c d before ready renames) (syncing_since s u false d e after either syncs),
    )

renamed_durably : (s u : State) (d : Places) → d [] ≡ root_place → IsReady s u d → IsDurably u (synced_in [] (renamed next_path current_path true d))
renamed_durably s u d root ready =
    let is = current_switched true d ready.next ready.durably.current in
    durably_synced u (renamed next_path current_path true d) root (ap (λ (x : Place). x.unsynced_bytes) is ∙ (durably_marks s d ready.durably).1)
    (stands_without (now (renamed next_path current_path true d)) u
    (subst (λ (x : Place). Stands (with_current x.node (now (renamed next_path current_path true d))) u) (sym is) (stands_switched true d u (d next_path).node ready.coming)))
    (base_durable_switched true d u ready.base)

-- both were done
pub switch_done : {T : Type 0} (x : T) (c d e : Told) → IsDisk c → IsDisk d → DoesTold (rename next_path current_path) true c d → DoesTold (sync_dir []) true d e → CommitsTold (ok_of Failed x) c e
switch_done x c d e before after renames syncs = λ s u ready.
    let either = either_renaming s u c.places d.places ready (inr (inl (renamed_is c d renames))) in (
      subst (IsDurably u) (sym (syncs.ends.0 ∙ ap (synced_in []) (renamed_is c d renames))) (renamed_durably s u c.places before.tree.root ready),
      stands_since_then (IsOneOf s u) d e c.clock syncs.later (renaming_since s u true c d before ready renames) (syncing_since s u true d e after either syncs),
    )

reached_moved : (b : Bool) (from to : Place) → (reached_place true b from to).node ≡ from.node
reached_moved true from to = refl
reached_moved false from to = refl

points_switched : (g : Generation) (d : Places) → IsPrepared g d → Points (now (synced_in [] (renamed next_path current_path true d))) (Some g)
points_switched g d prepared =
    let coming = prepared.coming in
    let there = now_synced [] (renamed next_path current_path true d) in
    record {
      number = coming.number;
      current = there current_path ∙ reached_moved (is_durable d next_path && is_durable d current_path) (d next_path) (d current_path) ∙ coming.current;
      bytes = coming.bytes;
      index = there (index_path g.number) ∙ coming.index;
      reads = coming.reads;
    }

put_apart : (b : Bool) (x y : Place) → b ≡ false → (cond b x y).node ≡ y.node
put_apart b x y out = ap (λ (z : Place). z.node) (cond-false b x y out)

node_switched : (moved : Bool) (d : Places) (p : List (List ℕ)) → is_switched p ≡ false → (renamed next_path current_path moved d p).node ≡ (d p).node
node_switched moved d p out =
    let both = or_parts (is_at next_path p) (is_at current_path p) out in
    put_apart (is_at next_path p) _ _ both.0 ∙ put_apart (is_at current_path p) _ (d p) both.1

node_renaming : (d x : Places) (p : List (List ℕ)) → is_switched p ≡ false → IsWithin (rename next_path current_path) d x → (x p).node ≡ (d p).node
node_renaming d x p out (inl is) = ap (λ (f : Places). (f p).node) is ∙ node_switched true d p out
node_renaming d x p out (inr (inl same)) = ap (λ (f : Places). (f p).node) same
node_renaming d x p out (inr (inr half)) = ap (λ (f : Places). (f p).node) half.1 ∙ node_switched half.0 d p out

rename_now : (done : Bool) (d e : Told) → DoesTold (rename next_path current_path) done d e → SwitchesNow d e
rename_now true d e does = record { now = λ p out. node_renaming d.places e.places p out (inl does.ends.0); appended = within_same 0 d.appended e.appended does.ends.1 }
rename_now false d e does = record { now = λ p out. node_renaming d.places e.places p out (inr does.ends.0); appended = within_same 0 d.appended e.appended does.ends.1 }

switches_then : (c d e : Told) → SwitchesNow c d → SwitchesNow d e → SwitchesNow c e
switches_then c d e one two =
    record { now = λ p out. two.now p out ∙ one.now p out; appended = within_then 0 0 0 c.appended d.appended e.appended (omega arith) one.appended two.appended }

two_names : next_path ≡ current_path → ⊥
two_names same = false≢true (ap (λ (p : List (List ℕ)). eq_by_cmp path_cmp next_path p) (sym same) ∙ refl)

may_rename_at : (g : Generation) (x : Option Told) → IfSome x (λ d. IsPrepared g d.places) → IfSome x (λ d. Allows (rename next_path current_path) d.places)
may_rename_at g None may = tt
may_rename_at g (Some d) may = record {
  dir = [];
  old_name = next_name;
  new_name = current_name;
  from_is = refl;
  to_is = refl;
  two = λ same. two_names same;
  from_file = ap is_file may.coming.current;
  to_free = may.free;
}

-- its condition
pub may_rename : (folder next current : List (List ℕ)) (old : DiskState) → HasPaths folder next current → (g : Generation) × MayCommit g old → MayCall (rename next current) old
may_rename folder next current old paths may =
    subst (λ (p : List (List ℕ)). MayCall (rename p current) old) (sym paths.next_is)
    (subst (λ (p : List (List ℕ)). MayCall (rename next_path p) old) (sym paths.current_is) (may_rename_at may.0 old.told may.1))

points_at : (g : Generation) (x y z : Option Told) → IfSome x (λ d. IsPrepared g d.places) → BothTold (DoesTold (rename next_path current_path) true) x y → BothTold (DoesTold (sync_dir []) true) y z
    → IfSome z (λ e. Points (now e.places) (Some g))
points_at g None None None may one two = tt
points_at g None None (Some e) may one two = absurd two
points_at g None (Some d) z may one two = absurd one
points_at g (Some c) None z may one two = absurd one
points_at g (Some c) (Some d) None may one two = tt
points_at g (Some c) (Some d) (Some e) may one two =
    subst (λ (x : Places). Points (now x) (Some g)) (sym (two.ends.0 ∙ ap (synced_in []) one.ends.0)) (points_switched g c.places may)

stops_of_two : {T : Type 0} (result : Result T Failed) (done : Bool) (x y z : Option Told) → IfSome x IsDisk → IfSome y IsDisk
    → ((c d e : Told) → IsDisk c → IsDisk d → DoesTold (rename next_path current_path) true c d → DoesTold (sync_dir []) done d e → CommitsTold result c e)
    → BothTold (DoesTold (rename next_path current_path) true) x y → BothTold (DoesTold (sync_dir []) done) y z → BothTold (CommitsTold result) x z
stops_of_two result done None None None before after gives one two = tt
stops_of_two result done None None (Some e) before after gives one two = absurd two
stops_of_two result done None (Some d) z before after gives one two = absurd one
stops_of_two result done (Some c) None z before after gives one two = absurd one
stops_of_two result done (Some c) (Some d) None before after gives one two = absurd two
stops_of_two result done (Some c) (Some d) (Some e) before after gives one two = gives c d e before after one two

stops_of_one : {T : Type 0} (result : Result T Failed) (x y : Option Told) → IfSome x IsDisk
    → ((c d : Told) → IsDisk c → DoesTold (rename next_path current_path) false c d → CommitsTold result c d)
    → BothTold (DoesTold (rename next_path current_path) false) x y → BothTold (CommitsTold result) x y
stops_of_one result None None before gives one = tt
stops_of_one result None (Some d) before gives one = absurd one
stops_of_one result (Some c) None before gives one = absurd one
stops_of_one result (Some c) (Some d) before gives one = gives c d before one

-- the calls at the paths of a switch
pub renames : (next current : List (List ℕ)) (old new : DiskState) (done : Bool) → next ≡ next_path → current ≡ current_path
    → Does (rename next current) old new done → Does (rename next_path current_path) old new done
renames next current old new done next_is current_is does =
    subst (λ (p : List (List ℕ)). Does (rename next_path p) old new done) current_is (subst (λ (p : List (List ℕ)). Does (rename p current) old new done) next_is does)

pub stops_after_rename : (f : Failed) (old mid : DiskState) → IfSome old.told IsDisk → Does (rename next_path current_path) old mid false → BothTold (CommitsTold (err_of (Unit {0}) f)) old.told mid.told
stops_after_rename f old mid before renames = stops_of_one (err_of (Unit {0}) f) old.told mid.told before (rename_failed (Unit {0}) f) renames.told

pub stops_after_both : (result : Result (Unit {0}) Failed) (old mid new : DiskState) → IfSome old.told IsDisk → IfSome mid.told IsDisk → Does (rename next_path current_path) old mid true
    → Does (sync_dir []) mid new (is_ok result) → BothTold (CommitsTold result) old.told new.told
stops_after_both (Ok x) old mid new before after renames syncs = stops_of_two (ok_of Failed x) true old.told mid.told new.told before after (switch_done x) renames.told syncs.told
stops_after_both (Err f) old mid new before after renames syncs =
    stops_of_two (err_of (Unit {0}) f) false old.told mid.told new.told before after (syncing_failed (Unit {0}) f) renames.told syncs.told

pub points_after_both : (result : Result (Unit {0}) Failed) (old mid new : DiskState) (g : Generation) → MayCommit g old → Does (rename next_path current_path) old mid true
    → Does (sync_dir []) mid new (is_ok result) → PointsAfter result g new
points_after_both (Ok x) old mid new g may renames syncs = points_at g old.told mid.told new.told may renames.told syncs.told
points_after_both (Err f) old mid new g may renames syncs = tt

pub now_after_rename : (done : Bool) (old mid : DiskState) → Does (rename next_path current_path) old mid done → BothTold SwitchesNow old.told mid.told
now_after_rename done old mid renames = told_map (DoesTold (rename next_path current_path) done) SwitchesNow (rename_now done) old.told mid.told renames.told

pub now_after_both : (done : Bool) (old mid new : DiskState) → Does (rename next_path current_path) old mid true → Does (sync_dir []) mid new done → BothTold SwitchesNow old.told new.told
now_after_both done old mid new renames syncs =
    told_then SwitchesNow SwitchesNow SwitchesNow switches_then old.told mid.told new.told
    (now_after_rename true old mid renames)
    (told_map (DoesTold (sync_dir []) done) SwitchesNow (sync_works is_switched done) mid.told new.told syncs.told)
