-- What holds over any disk, for the crates that call one: how calls compose, what they spare, and what a stop leaves.
use Rattle.std.proofs.Common.{◌≡◌, ◌⊎◌, ℕ, ◌<◌, ◌≤◌, Bool, true, false, List, Option, Some, None, IfSome, refl, sym, ap, ◌∙◌, subst, inl, inr, arith}
use Rattle.std.proofs.lemmas.Bool.{cases_lt}
use Rattle.ext_disk.specs.Disk.{Tree, Places, Told, DiskState, BothTold, MayLeave, IsTree, IsDisk, now, is_durable}
use Rattle.ext_disk.specs.Since.{Since, IsLater, Follows, Rests}
use Rattle.ext_disk.specs.Calls.{Call, look, sync_file, sync_dir, IsWithin, DoesTold, Does}
use Rattle.ext_disk.specs.Fixed.{IsFixed, IsUnchangedAt, Spares, touches}
use Rattle.ext_disk.specs.Through.{HoldsThrough, Through}
use Rattle.ext_disk.proofs.Both.{both_map, both_and, both_then, both_itself, both_same}
use Rattle.ext_disk.proofs.Outcomes.{ends_within}
use Rattle.ext_disk.proofs.Sparing.{since_later, since_earlier, call_spares}
-- what is told of a disk is later than itself, and than what is earlier than an earlier one
pub use Rattle.ext_disk.proofs.Sparing.{later_itself, later_then}
-- a path is unchanged where nothing is done, and through two stretches through each of which it is
pub use Rattle.ext_disk.proofs.Sparing.{unchanged_itself, unchanged_then}

-- a disk follows itself
pub follows_itself : (s : DiskState) → Follows s s
follows_itself s = record { told = both_itself IsLater later_itself s.told; count = omega arith }

-- what follows a disk that follows a first one follows the first one
pub follows_then : (r s t : DiskState) → Follows r s → Follows s t → Follows r t
follows_then r s t one two =
    let first = one.count in
    let second = two.count in
    record { told = both_then IsLater IsLater IsLater later_then r.told s.told t.told one.told two.told; count = omega arith }

-- each call follows, done or failed
pub call_follows : (call : Call) (old new : DiskState) (done : Bool) → Does call old new done → Follows old new
call_follows call old new done does = record {
  told = both_map (DoesTold call done) IsLater (λ d e told. told.later) old.told new.told does.told;
  count = does.count;
}

-- what rests follows
pub rests_follow : (old new : DiskState) → Rests old new → Follows old new
rests_follow old new rests = record { told = both_same IsLater later_itself old.told new.told rests.told; count = rests.count }

-- a disk rests where nothing is called
pub rests_itself : (s : DiskState) → Rests s s
rests_itself s = record { told = refl; count = omega arith }

-- it rests through two stretches where it rests through each
pub rests_then : (r s t : DiskState) → Rests r s → Rests s t → Rests r t
rests_then r s t one two =
    let first = one.count in
    let second = two.count in
    record { told = two.told ∙ one.told; count = omega arith }

same_told : (R : Told → Told → Type 0) → ((d e : Told) → R d e → e ≡ d) → (x y : Option Told) → BothTold R x y → y ≡ x
same_told R gives None None both = refl
same_told R gives None (Some e) both = absurd both
same_told R gives (Some d) None both = absurd both
same_told R gives (Some d) (Some e) both = ap Some (gives d e both)

looked : (done : Bool) (d e : Told) → DoesTold look done d e → e ≡ d
looked true d e does = does.ends
looked false d e does = does.ends

-- it rests through a call that reads
pub look_rests : (old new : DiskState) (done : Bool) → Does look old new done → Rests old new
look_rests old new done does = record { told = same_told (DoesTold look done) (looked done) old.told new.told does.told; count = does.count }

-- it rests through a sync of a file that failed
pub failed_sync_file_rests : (p : List (List ℕ)) (old new : DiskState) → Does (sync_file p) old new false → Rests old new
failed_sync_file_rests p old new does = record { told = same_told (DoesTold (sync_file p) false) (λ d e told. told.ends) old.told new.told does.told; count = does.count }

-- it rests through a sync of a folder that failed
pub failed_sync_dir_rests : (p : List (List ℕ)) (old new : DiskState) → Does (sync_dir p) old new false → Rests old new
failed_sync_dir_rests p old new does = record { told = same_told (DoesTold (sync_dir p) false) (λ d e told. told.ends) old.told new.told does.told; count = does.count }

-- each call spares what it does not touch, done or failed
pub call_spares_out_of_reach : (reach : List (List ℕ) → Bool) (call : Call) (old new : DiskState) (done : Bool)
    → ((p : List (List ℕ)) → reach p ≡ false → touches call p ≡ false) → Does call old new done → Spares reach old new
call_spares_out_of_reach reach call old new done untouched does = record {
  follows = call_follows call old new done does;
  told = both_map (DoesTold call done) (λ d e. (p : List (List ℕ)) → reach p ≡ false → IsUnchangedAt d e p)
      (λ d e told p out. call_spares call done d e told p (untouched p out)) old.told new.told does.told;
}

-- a call keeps a path fixed that it does not touch, done or failed
pub call_keeps_fixed : (call : Call) (done : Bool) (d e : Told) (m : ℕ) (p : List (List ℕ)) → DoesTold call done d e → touches call p ≡ false → m ≤ d.clock → IsFixed d m p
    → IsFixed e m p × ((e.places p).node ≡ (d.places p).node)
call_keeps_fixed call done d e m p does out early fixed =
    let unchanged = call_spares call done d e does p out in
    (unchanged.fixed m early fixed, unchanged.stays.node)

-- a disk on which nothing is called spares each path
pub spares_itself : (reach : List (List ℕ) → Bool) (s : DiskState) → Spares reach s s
spares_itself reach s = record {
  follows = follows_itself s;
  told = both_itself (λ d e. (p : List (List ℕ)) → reach p ≡ false → IsUnchangedAt d e p) (λ d p out. unchanged_itself d p) s.told;
}

-- so does one that rests
pub rests_spares : (reach : List (List ℕ) → Bool) (old new : DiskState) → Rests old new → Spares reach old new
rests_spares reach old new rests = record {
  follows = rests_follow old new rests;
  told = both_same (λ d e. (p : List (List ℕ)) → reach p ≡ false → IsUnchangedAt d e p) (λ d p out. unchanged_itself d p) old.told new.told rests.told;
}

-- what two stretches of calls spare, both of them spare
pub spares_then : (reach : List (List ℕ) → Bool) (r s t : DiskState) → Spares reach r s → Spares reach s t → Spares reach r t
spares_then reach r s t one two =
    let Unchanged : Told → Told → Type 0 = λ d e. (p : List (List ℕ)) → reach p ≡ false → IsUnchangedAt d e p in
    let Both : Told → Told → Type 0 = λ d e. IsLater d e × ((p : List (List ℕ)) → reach p ≡ false → IsUnchangedAt d e p) in
    let first : BothTold Both r.told s.told = both_and IsLater Unchanged Both (λ d e later unchanged. (later, unchanged)) r.told s.told one.follows.told one.told in
    record {
      follows = follows_then r s t one.follows two.follows;
      told = both_then Both Unchanged Unchanged (λ c d e x y p out. unchanged_then c d e p x.0 (x.1 p out) (y p out)) r.told s.told t.told first two.told;
    }

-- with a wider reach less stays as it was
pub spares_wider : (narrow wide : List (List ℕ) → Bool) (old new : DiskState) → ((p : List (List ℕ)) → wide p ≡ false → narrow p ≡ false) → Spares narrow old new → Spares wide old new
spares_wider narrow wide old new within spares = record {
  follows = spares.follows;
  told = both_map (λ d e. (p : List (List ℕ)) → narrow p ≡ false → IsUnchangedAt d e p) (λ d e. (p : List (List ℕ)) → wide p ≡ false → IsUnchangedAt d e p)
      (λ d e unchanged p out. unchanged p (within p out)) old.told new.told spares.told;
}

-- what a stop now may leave, it may leave of what stands now
pub since_now : (d : Told) (t : Tree) → IsDisk d → Since d d.clock t → MayLeave d.places t
since_now d t disk s =
    let from = s.from in
    let upto = s.upto in
    let same : s.moment ≡ d.clock = omega arith in
    subst (λ x. MayLeave x t) (ap d.past same ∙ disk.present) s.left

-- and the other way
pub left_now : (d : Told) (t : Tree) (m : ℕ) → IsDisk d → m ≤ d.clock → MayLeave d.places t → Since d m t
left_now d t m disk early left = record {
  moment = d.clock;
  from = early;
  upto = omega arith;
  left = subst (λ x. MayLeave x t) (sym disk.present) left;
}

-- a stop may leave the tree as it stands
pub now_may_be_left : (d : Places) → IsTree d → MayLeave d (now d)
now_may_be_left d tree = record {
  durable = λ p durable. refl;
  unsynced_rename = λ p w is above. (tree.swings p w is).stands;
}

-- a durable path is fixed since now
pub fixed_now : (d : Told) (p : List (List ℕ)) → IsDisk d → is_durable d.places p ≡ true → IsFixed d d.clock p
fixed_now d p disk durable = record { durable = durable; since = λ t s. (since_now d t disk s).durable p durable }

-- what is fixed since a moment is fixed since each later one
pub fixed_later : (d : Told) (m n : ℕ) (p : List (List ℕ)) → m ≤ n → IsFixed d m p → IsFixed d n p
fixed_later d m n p later fixed = record {
  durable = fixed.durable;
  since = λ t s. let from = s.from in fixed.since t (record { moment = s.moment; from = omega arith; upto = s.upto; left = s.left });
}

since_either : (d e : Told) (m : ℕ) (t : Tree) → IsLater d e → (s : Since e m t) → (d.clock < s.moment) ⊎ (s.moment ≤ d.clock) → Since d m t ⊎ Since e d.clock t
since_either d e m t later s (inl late) = inr (record { moment = s.moment; from = omega (arith, late); upto = s.upto; left = s.left })
since_either d e m t later s (inr early) = inl (since_earlier d e m t later s early)

-- what a later disk adds to what a stop may have left, it added since
pub since_past : (d e : Told) (m : ℕ) (t : Tree) → IsLater d e → (Since d m t → Since e m t) × (Since e m t → Since d m t ⊎ Since e d.clock t)
since_past d e m t later = (since_later d e m t later, λ s. since_either d e m t later s (cases_lt d.clock s.moment))

-- a later moment allows no more trees than an earlier one
pub since_wider : (d : Told) (m n : ℕ) (t : Tree) → m ≤ n → Since d n t → Since d m t
since_wider d m n t later s = let from = s.from in record { moment = s.moment; from = omega arith; upto = s.upto; left = s.left }

holds_through : (P : Places → Type 0) (call : Call) (done : Bool) (x y : Option Told)
    → IfSome x (λ d. (e : Places) → IsWithin call d.places e → P e) → BothTold (DoesTold call done) x y → BothTold (HoldsThrough P) x y
holds_through P call done None None keeps does = tt
holds_through P call done None (Some e) keeps does = absurd does
holds_through P call done (Some d) None keeps does = absurd does
holds_through P call done (Some d) (Some e) keeps does = record {
  now = keeps e.places (ends_within call done d e does.ends);
  moments = λ n late upto. keeps (e.past n) (does.within n late upto);
}

moment_then : (P : Places → Type 0) (c d e : Told) (n : ℕ) → HoldsThrough P c d → IsLater d e → HoldsThrough P d e → c.clock < n → n ≤ e.clock
    → (d.clock < n) ⊎ (n ≤ d.clock) → P (e.past n)
moment_then P c d e n one later two late upto (inl after) = two.moments n after upto
moment_then P c d e n one later two late upto (inr before) = subst P (sym (later.past n before)) (one.moments n late before)

moments_then : (P : Places → Type 0) (c d e : Told) → HoldsThrough P c d → IsLater d e → HoldsThrough P d e → HoldsThrough P c e
moments_then P c d e one later two = record {
  now = two.now;
  moments = λ n late upto. moment_then P c d e n one later two late upto (cases_lt d.clock n);
}

-- what each outcome of a call keeps holds through it
pub call_holds_through : (P : Places → Type 0) (call : Call) (old new : DiskState) (done : Bool)
    → IfSome old.told (λ d. (x : Places) → IsWithin call d.places x → P x) → Does call old new done → Through P old new
call_holds_through P call old new done keeps does = record {
  follows = call_follows call old new done does;
  told = holds_through P call done old.told new.told keeps does.told;
}

-- what holds through two stretches holds through both in turn
pub through_then : (P : Places → Type 0) (r s t : DiskState) → Through P r s → Through P s t → Through P r t
through_then P r s t one two =
    let Later : Told → Told → Type 0 = λ d e. IsLater d e × HoldsThrough P d e in
    let second : BothTold Later s.told t.told = both_and IsLater (HoldsThrough P) Later (λ d e later holds. (later, holds)) s.told t.told two.follows.told two.told in
    record {
      follows = follows_then r s t one.follows two.follows;
      told = both_then (HoldsThrough P) Later (HoldsThrough P) (λ c d e x y. moments_then P c d e x y.0 y.1) r.told s.told t.told one.told second;
    }
