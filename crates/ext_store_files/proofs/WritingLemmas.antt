-- What calls that make, write and sync leave, and how they compose.
use Rattle.std.proofs.Common.{◌≡◌, ℕ, ◌+◌, ◌-◌, ◌<◌, ◌≤◌, Bool, true, false, cond, not, List, [], ◌∷◌, ◌++◌, length, take, drop, Option, Some, None, IfSome, Result, Ok, Err, refl, sym, ap, ◌∙◌, subst, inl, inr, arith, length-append, length-take}
use Rattle.std.specs.Prelude.{OnOk}
use Rattle.std.specs.Option.{is_some}
use Rattle.std.specs.List.{between}
use Rattle.std.proofs.lemmas.List.{take-append-drop, take-take}
use Rattle.std.proofs.lemmas.List.Edits.{length-between}
use Rattle.std.proofs.lemmas.Slice.{between_is}
use Rattle.std.specs.Result.{is_ok}
use Rattle.std.specs.Ordering.{eq_by_cmp}
use Rattle.std.proofs.lemmas.Bool.{false≢true, and_parts, and_from, cond-false, cond-true, not_from_false, not-true}
use Rattle.ext_text.specs.Path.{path_cmp, is_prefix}
use Rattle.ext_text.proofs.ForCallers.{same_path, tied_path, prefix_self}
use Rattle.ext_disk.specs.Disk.{Node, folder, file, Place, Places, Told, DiskState, BothTold, IsTree, IsDisk, is_file, is_no_folder, is_synced, at_prefixes}
use Rattle.ext_disk.specs.Since.{Rests}
use Rattle.ext_disk.specs.Calls.{Call, make_dir, make_file, append, sync_file, sync_dir, IsFree, Does, DoesTold, EndsTold, IsWithin, Fails, put, with_unsynced_name, written, bytes_of, synced, is_child, child_name}
use Rattle.ext_disk.specs.Fixed.{touches}
use Rattle.ext_disk.proofs.ForCallers.{spares_then, spares_wider, spares_itself, rests_spares, call_spares_out_of_reach}
use Rattle.ext_store_files.specs.Appended.{RaisesTold, Raises}
use Rattle.ext_store_files.specs.Writing.{is_at, nowhere, WorksTold, Works, IsMade, IsWritten, IsFileWith, Holds, is_synced_to, SyncsIn, Appends}
use Rattle.ext_store_files.proofs.ToldLemmas.{told_map, told_then, told_same, told_itself}
use Rattle.ext_store_files.proofs.AppendedLemmas.{raised_some, raises_itself, raises_same, raises_then, within_none, within_same, within_then, within_wider}
use Rattle.ext_store_files.proofs.RemovalLemmas.{contrapose, none_or_some}
use Rattle.ext_store_files.proofs.ClearingLemmas.{stands_above, rest_of}

put_node : (b : Bool) (x y : Place) → b ≡ false → (cond b x y).node ≡ y.node
put_node b x y out = ap (λ (z : Place). z.node) (cond-false b x y out)

put_apart : (p : List (List ℕ)) (place : Place) (d e : Places) (q : List (List ℕ)) → e ≡ put p place d → eq_by_cmp path_cmp p q ≡ false → (e q).node ≡ (d q).node
put_apart p place d e q is out = ap (λ (x : Places). (x q).node) is ∙ put_node (eq_by_cmp path_cmp p q) place (d q) out

same_node : (d e : Places) (q : List (List ℕ)) → e ≡ d → (e q).node ≡ (d q).node
same_node d e q is = ap (λ (x : Places). (x q).node) is

made_dir_node : (p : List (List ℕ)) (d e : Places) → IsWithin (make_dir p) d e → (q : List (List ℕ)) → is_at p q ≡ false → (e q).node ≡ (d q).node
made_dir_node p d e (inl is) q out = put_apart p _ d e q is out
made_dir_node p d e (inr (inl is)) q out = same_node d e q is
made_dir_node p d e (inr (inr half)) q out = put_apart p _ d e q half.2 out

made_file_node : (p : List (List ℕ)) (d e : Places) → IsWithin (make_file p) d e → (q : List (List ℕ)) → is_at p q ≡ false → (e q).node ≡ (d q).node
made_file_node p d e (inl is) q out = put_apart p _ d e q is out
made_file_node p d e (inr (inl is)) q out = same_node d e q is
made_file_node p d e (inr (inr half)) q out = put_apart p _ d e q half.2 out

appended_node : (p : List (List ℕ)) (b : List ℕ) (d e : Places) → IsWithin (append p b) d e → (q : List (List ℕ)) → is_at p q ≡ false → (e q).node ≡ (d q).node
appended_node p b d e (inl is) q out = put_apart p _ d e q is out
appended_node p b d e (inr (inl is)) q out = same_node d e q is
appended_node p b d e (inr (inr half)) q out = put_apart p _ d e q half.1 out

hard_node : (b : Bool) (x y : Place) → (b ≡ true → y ≡ x) → (cond b (record x { unsynced_bytes = false }) y).node ≡ y.node
hard_node true x y same = ap (λ (z : Place). z.node) (sym (same refl))
hard_node false x y same = refl

synced_file_node : (p : List (List ℕ)) (d e : Places) → e ≡ put p (record (d p) { unsynced_bytes = false }) d → (q : List (List ℕ)) → (e q).node ≡ (d q).node
synced_file_node p d e is q =
    ap (λ (x : Places). (x q).node) is
    ∙ hard_node (eq_by_cmp path_cmp p q) (d p) (d q) (λ tied. ap d (sym (same_path p q tied)))

synced_node : (b : Bool) (x : Place) → (cond b (synced x) x).node ≡ x.node
synced_node true x = refl
synced_node false x = refl

dir_works : (p : List (List ℕ)) (done : Bool) (d e : Told) → EndsTold (make_dir p) done d e → WorksTold (is_at p) 0 d e
dir_works p true d e ends = record { now = made_dir_node p d.places e.places (inl ends.0); appended = within_same 0 d.appended e.appended ends.1 }
dir_works p false d e ends = record { now = made_dir_node p d.places e.places (inr ends.0); appended = within_same 0 d.appended e.appended ends.1 }

file_works : (p : List (List ℕ)) (done : Bool) (d e : Told) → EndsTold (make_file p) done d e → WorksTold (is_at p) 0 d e
file_works p true d e ends = record { now = made_file_node p d.places e.places (inl ends.0); appended = within_same 0 d.appended e.appended ends.1 }
file_works p false d e ends = record { now = made_file_node p d.places e.places (inr ends.0); appended = within_same 0 d.appended e.appended ends.1 }

append_works : (p : List (List ℕ)) (b : List ℕ) (done : Bool) → 0 < length b → (d e : Told) → EndsTold (append p b) done d e → WorksTold (is_at p) (length b) d e
append_works p b true some d e ends = record { now = appended_node p b d.places e.places (inl ends.0); appended = (length b, omega arith, ends.1 ∙ raised_some d.appended (length b) some) }
append_works p b false some d e ends = record { now = appended_node p b d.places e.places (inr ends.0); appended = within_same (length b) d.appended e.appended ends.1 }

same_works : (d e : Told) → e ≡ d → WorksTold nowhere 0 d e
same_works d e same = record { now = λ q out. ap (λ (t : Told). (t.places q).node) same; appended = within_same 0 d.appended e.appended (ap (λ (t : Told). t.appended) same) }

sync_file_works : (p : List (List ℕ)) (done : Bool) (d e : Told) → EndsTold (sync_file p) done d e → WorksTold nowhere 0 d e
sync_file_works p true d e ends = record { now = λ q out. synced_file_node p d.places e.places ends.0 q; appended = within_same 0 d.appended e.appended ends.1 }
sync_file_works p false d e ends = same_works d e ends

sync_dir_works : (p : List (List ℕ)) (done : Bool) (d e : Told) → EndsTold (sync_dir p) done d e → WorksTold nowhere 0 d e
sync_dir_works p true d e ends = record {
  now = λ q out. ap (λ (x : Places). (x q).node) ends.0 ∙ synced_node (is_child p q) (d.places q);
  appended = within_same 0 d.appended e.appended ends.1;
}
sync_dir_works p false d e ends = same_works d e ends

-- a call works as its end does
call_works : (reach at : List (List ℕ) → Bool) (most : ℕ) (call : Call) (done : Bool) (old new : DiskState)
    → ((p : List (List ℕ)) → reach p ≡ false → touches call p ≡ false) → ((d e : Told) → EndsTold call done d e → WorksTold at most d e)
    → Does call old new done → Works reach at most old new
call_works reach at most call done old new out gives does = record {
  spares = call_spares_out_of_reach reach call old new done out does;
  told = told_map (DoesTold call done) (WorksTold at most) (λ d e told. gives d e told.ends) old.told new.told does.told;
}

pub make_dir_works : (p : List (List ℕ)) (done : Bool) (old new : DiskState) → Does (make_dir p) old new done → Works (is_prefix p) (is_at p) 0 old new
make_dir_works p done old new does = call_works (is_prefix p) (is_at p) 0 (make_dir p) done old new (λ q out. out) (dir_works p done) does

pub make_file_works : (p : List (List ℕ)) (done : Bool) (old new : DiskState) → Does (make_file p) old new done → Works (is_prefix p) (is_at p) 0 old new
make_file_works p done old new does = call_works (is_prefix p) (is_at p) 0 (make_file p) done old new (λ q out. out) (file_works p done) does

pub append_call_works : (p : List (List ℕ)) (b : List ℕ) (done : Bool) (old new : DiskState) → 0 < length b → Does (append p b) old new done → Works (is_prefix p) (is_at p) (length b) old new
append_call_works p b done old new some does = call_works (is_prefix p) (is_at p) (length b) (append p b) done old new (λ q out. out) (append_works p b done some) does

pub sync_file_call_works : (p : List (List ℕ)) (done : Bool) (old new : DiskState) → Does (sync_file p) old new done → Works nowhere nowhere 0 old new
sync_file_call_works p done old new does = call_works nowhere nowhere 0 (sync_file p) done old new (λ q out. refl) (sync_file_works p done) does

pub sync_dir_call_works : (p : List (List ℕ)) (done : Bool) (old new : DiskState) → Does (sync_dir p) old new done → Works nowhere nowhere 0 old new
sync_dir_call_works p done old new does = call_works nowhere nowhere 0 (sync_dir p) done old new (λ q out. refl) (sync_dir_works p done) does

-- nothing is done where nothing is called
pub works_itself : (reach at : List (List ℕ) → Bool) (s : DiskState) → Works reach at 0 s s
works_itself reach at s = record {
  spares = spares_itself reach s;
  told = told_itself (WorksTold at 0) (λ d. record { now = λ q out. refl; appended = within_same 0 d.appended d.appended refl }) s.told;
}

-- one stretch of work after another
pub works_then : (reach at : List (List ℕ) → Bool) (n m most : ℕ) (r s t : DiskState) → n + m ≤ most → Works reach at n r s → Works reach at m s t → Works reach at most r t
works_then reach at n m most r s t fits one two = record {
  spares = spares_then reach r s t one.spares two.spares;
  told = told_then (WorksTold at n) (WorksTold at m) (WorksTold at most)
      (λ c d e x y. record {
        now = λ q out. y.now q out ∙ x.now q out;
        appended = within_then n m most c.appended d.appended e.appended fits x.appended y.appended;
      }) r.told s.told t.told one.told two.told;
}

-- work within a wider reach
pub works_wider : (near far at to : List (List ℕ) → Bool) (n most : ℕ) (old new : DiskState) → n ≤ most
    → ((p : List (List ℕ)) → far p ≡ false → near p ≡ false) → ((p : List (List ℕ)) → to p ≡ false → at p ≡ false) → Works near at n old new → Works far to most old new
works_wider near far at to n most old new fits reach within works = record {
  spares = spares_wider near far old new reach works.spares;
  told = told_map (WorksTold at n) (WorksTold to most)
      (λ d e x. record { now = λ q out. x.now q (within q out); appended = within_wider n most d.appended e.appended fits x.appended }) old.told new.told works.told;
}

-- what rests works nowhere
pub rests_works : (reach at : List (List ℕ) → Bool) (old new : DiskState) → Rests old new → Works reach at 0 old new
rests_works reach at old new rests = record {
  spares = rests_spares reach old new rests;
  told = told_same (WorksTold at 0) (λ d. record { now = λ q out. refl; appended = within_same 0 d.appended d.appended refl }) old.told new.told rests.told;
}

from_told : (P : Places → Type 0) (R : Told → Told → Type 0) → ((d e : Told) → R d e → P e.places) → (x y : Option Told) → BothTold R x y → IfSome y (λ e. P e.places)
from_told P R gives None None both = tt
from_told P R gives None (Some e) both = absurd both
from_told P R gives (Some d) None both = absurd both
from_told P R gives (Some d) (Some e) both = gives d e both

-- of a state of which something is known, and one that follows it
pub holds_then : (P Q : Places → Type 0) (R : Told → Told → Type 0) → ((d e : Told) → P d.places → R d e → Q e.places) → (x y : Option Told)
    → IfSome x (λ d. P d.places) → BothTold R x y → IfSome y (λ e. Q e.places)
holds_then P Q R gives None None is both = tt
holds_then P Q R gives None (Some e) is both = absurd both
holds_then P Q R gives (Some d) None is both = absurd both
holds_then P Q R gives (Some d) (Some e) is both = gives d e is both

-- a weaker fact of what a disk tells
pub holds_map : (P Q : Places → Type 0) → ((d : Places) → P d → Q d) → (x : Option Told) → IfSome x (λ d. P d.places) → IfSome x (λ d. Q d.places)
holds_map P Q gives None is = tt
holds_map P Q gives (Some d) is = gives d.places is

-- two facts of it
pub holds_both : (P Q S : Places → Type 0) → ((d : Places) → P d → Q d → S d) → (x : Option Told) → IfSome x (λ d. P d.places) → IfSome x (λ d. Q d.places) → IfSome x (λ d. S d.places)
holds_both P Q S gives None one two = tt
holds_both P Q S gives (Some d) one two = gives d.places one two

put_place : (p : List (List ℕ)) (place : Place) (d e : Places) → e ≡ put p place d → e p ≡ place
put_place p place d e is = ap (λ (x : Places). x p) is ∙ cond-true (eq_by_cmp path_cmp p p) place (d p) (tied_path p p refl)

-- nothing stood below a path at which nothing stood, and nothing does after a folder was made there
made_empty : (p : List (List ℕ)) (d e : Places) → IsTree d → (d p).node ≡ None → e ≡ put p (with_unsynced_name (Some folder) false) d → IsMade p e
made_empty p d e tree none is = record {
  node = ap (λ (x : Place). x.node) (put_place p (with_unsynced_name (Some folder) false) d e is);
  hard = ap (λ (x : Place). x.unsynced_bytes) (put_place p (with_unsynced_name (Some folder) false) d e is);
  empty = λ q proper.
      let below = rest_of p q (and_parts (is_prefix p q) (not (is_prefix q p)) proper).0 in
      let other : eq_by_cmp path_cmp p q ≡ false =
      contrapose (eq_by_cmp path_cmp p q) (is_prefix q p) (λ tied. subst (λ r. is_prefix r p ≡ true) (same_path p q tied) (prefix_self p))
      (not-true (is_prefix q p) (and_parts (is_prefix p q) (not (is_prefix q p)) proper).1) in
      put_apart p (with_unsynced_name (Some folder) false) d e q is other
      ∙ none_or_some _ (d q).node (λ some. false≢true (sym (ap is_some none) ∙ stands_above d tree p below.0 (ap (λ x. is_some (d x).node) (sym below.1) ∙ some)));
}

pub folder_made : (p : List (List ℕ)) (x y : Option Told) → IfSome x IsDisk → IfSome x (λ d. IsFree d.places p) → BothTold (DoesTold (make_dir p) true) x y → IfSome y (λ e. IsMade p e.places)
folder_made p None None disk free does = tt
folder_made p None (Some e) disk free does = absurd does
folder_made p (Some d) None disk free does = absurd does
folder_made p (Some d) (Some e) disk free does = made_empty p d.places e.places disk.tree free.path_absent does.ends.0

pub file_made : (p : List (List ℕ)) (x y : Option Told) → BothTold (DoesTold (make_file p) true) x y → IfSome y (λ e. IsFileWith p [] e.places)
file_made p x y does = from_told (IsFileWith p []) (DoesTold (make_file p) true)
    (λ d e told. ap (λ (x : Place). x.node) (put_place p (with_unsynced_name (Some (file [])) true) d.places e.places told.ends.0)) x y does

no_folder_made : (p : List (List ℕ)) (d e : Places) → (d p).node ≡ None → Fails (make_file p) d e → is_no_folder (e p).node ≡ true
no_folder_made p d e none (inl same) = ap (λ (x : Places). is_no_folder (x p).node) same ∙ ap is_no_folder none
no_folder_made p d e none (inr (true, unsynced_bytes, same)) = ap (λ (x : Place). is_no_folder x.node) (put_place p _ d e same)
no_folder_made p d e none (inr (false, unsynced_bytes, same)) = ap (λ (x : Place). is_no_folder x.node) (put_place p _ d e same) ∙ ap is_no_folder none

pub file_not_made : (p : List (List ℕ)) (x y : Option Told) → IfSome x (λ d. IsFree d.places p) → BothTold (DoesTold (make_file p) false) x y → IfSome y (λ e. is_no_folder (e.places p).node ≡ true)
file_not_made p x y free does = holds_then (λ d. IsFree d p) (λ e. is_no_folder (e p).node ≡ true) (DoesTold (make_file p) false)
    (λ d e is told. no_folder_made p d.places e.places is.path_absent told.ends.0) x y free does

file_no_folder : (o : Option Node) → is_file o ≡ true → is_no_folder o ≡ true
file_no_folder None is = refl
file_no_folder (Some folder) is = is
file_no_folder (Some (file b)) is = refl

half_appended : (p : List (List ℕ)) (b : List ℕ) (d e : Places) → is_file (d p).node ≡ true → Fails (append p b) d e → is_no_folder (e p).node ≡ true
half_appended p b d e is (inl same) = ap (λ (x : Places). is_no_folder (x p).node) same ∙ file_no_folder (d p).node is
half_appended p b d e is (inr half) = ap (λ (x : Place). is_no_folder x.node) (put_place p _ d e half.1)

appended_ends : (p : List (List ℕ)) (b : List ℕ) (done : Bool) (d e : Told) → is_file (d.places p).node ≡ true → EndsTold (append p b) done d e → is_no_folder (e.places p).node ≡ true
appended_ends p b true d e is ends = ap (λ (x : Place). is_no_folder x.node) (put_place p _ d.places e.places ends.0)
appended_ends p b false d e is ends = half_appended p b d.places e.places is ends.0

pub append_leaves_file : (p : List (List ℕ)) (b : List ℕ) (done : Bool) (x y : Option Told) → IfSome x (λ d. is_file (d.places p).node ≡ true) → BothTold (DoesTold (append p b) done) x y
    → IfSome y (λ e. is_no_folder (e.places p).node ≡ true)
append_leaves_file p b done x y is does = holds_then (λ d. is_file (d p).node ≡ true) (λ e. is_no_folder (e p).node ≡ true) (DoesTold (append p b) done)
    (λ d e there told. appended_ends p b done d e there told.ends) x y is does

appended_more : (p : List (List ℕ)) (b : List ℕ) (d e : Told) → DoesTold (append p b) true d e → Appends p b d e
appended_more p b d e told = λ bytes is.
    ap (λ (x : Place). x.node) (put_place p (written (bytes_of (d.places p).node ++ b) (d.places p)) d.places e.places told.ends.0)
    ∙ ap (λ o. Some (file (bytes_of o ++ b))) is

pub append_more : (p : List (List ℕ)) (b : List ℕ) (x y : Option Told) → BothTold (DoesTold (append p b) true) x y → BothTold (Appends p b) x y
append_more p b x y does = told_map (DoesTold (append p b) true) (Appends p b) (appended_more p b) x y does

-- exactly as many bytes as the piece has
pub append_raises : (p : List (List ℕ)) (b : List ℕ) (x y : Option Told) → 0 < length b → BothTold (DoesTold (append p b) true) x y → BothTold (RaisesTold (length b)) x y
append_raises p b x y some does = told_map (DoesTold (append p b) true) (RaisesTold (length b)) (λ d e told. told.ends.1 ∙ raised_some d.appended (length b) some) x y does

pub file_synced : (p : List (List ℕ)) (x y : Option Told) → BothTold (DoesTold (sync_file p) true) x y → IfSome y (λ e. (e.places p).unsynced_bytes ≡ false)
file_synced p x y does = from_told (λ e. (e p).unsynced_bytes ≡ false) (DoesTold (sync_file p) true)
    (λ d e told. ap (λ (x : Place). x.unsynced_bytes) (put_place p (record (d.places p) { unsynced_bytes = false }) d.places e.places told.ends.0)) x y does

synced_weaker : (f g : List (List ℕ) → Bool) (p : List (List ℕ)) → ((q : List (List ℕ)) → f q ≡ true → g q ≡ true) → at_prefixes f p ≡ true → at_prefixes g p ≡ true
synced_weaker f g [] gives all = gives [] all
synced_weaker f g (n ∷ p) gives all =
    let parts = and_parts (f []) (at_prefixes (λ q. f (n ∷ q)) p) all in
    and_from _ _ (gives [] parts.0) (synced_weaker (λ q. f (n ∷ q)) (λ q. g (n ∷ q)) p (λ q. gives (n ∷ q)) parts.1)

at_child : (f : List (List ℕ) → Bool) (p : List (List ℕ)) (n : List ℕ) → at_prefixes f p ≡ true → f (p ++ n ∷ []) ≡ true → at_prefixes f (p ++ n ∷ []) ≡ true
at_child f [] n all here = and_from _ _ all here
at_child f (m ∷ p) n all here =
    let parts = and_parts (f []) (at_prefixes (λ q. f (m ∷ q)) p) all in
    and_from _ _ parts.0 (at_child (λ q. f (m ∷ q)) p n parts.1 here)

child_is : (p : List (List ℕ)) (n : List ℕ) → child_name p (p ++ n ∷ []) ≡ Some n
child_is [] n = refl
child_is (m ∷ p) n = cond-true (eq_by_cmp Rattle.ext_text.specs.Name.bytes_cmp m m) (child_name p (p ++ n ∷ [])) None (Rattle.ext_text.proofs.ForCallers.tied_name m m refl) ∙ child_is p n

pub still_synced : (b : Bool) (x : Place) → is_synced x ≡ true → is_synced (cond b (synced x) x) ≡ true
still_synced true x is = refl
still_synced false x is = is

same_unsynced_bytes : (b : Bool) (x : Place) → (cond b (synced x) x).unsynced_bytes ≡ x.unsynced_bytes
same_unsynced_bytes true x = refl
same_unsynced_bytes false x = refl

synced_name : (dir : List (List ℕ)) (d e : Told) → DoesTold (sync_dir dir) true d e → (n : List ℕ) → is_synced (e.places (dir ++ n ∷ [])) ≡ true
synced_name dir d e told n =
    ap (λ (x : Places). is_synced (x (dir ++ n ∷ []))) told.ends.0
    ∙ ap (λ b. is_synced (cond b (synced (d.places (dir ++ n ∷ []))) (d.places (dir ++ n ∷ [])))) (ap is_some (child_is dir n))

synced_up_to : (dir : List (List ℕ)) (d e : Told) → DoesTold (sync_dir dir) true d e → is_synced_to d.places dir ≡ true → (n : List ℕ) → is_synced_to e.places (dir ++ n ∷ []) ≡ true
synced_up_to dir d e told above n =
    at_child (λ q. is_synced (e.places q)) dir n
    (synced_weaker (λ q. is_synced (d.places q)) (λ q. is_synced (e.places q)) dir
    (λ q was. ap (λ (x : Places). is_synced (x q)) told.ends.0 ∙ still_synced (is_child dir q) (d.places q) was) above)
    (synced_name dir d e told n)

syncs : (dir : List (List ℕ)) (d e : Told) → DoesTold (sync_dir dir) true d e → SyncsIn dir d e
syncs dir d e told = record {
  names = synced_name dir d e told;
  durable = λ above n.
      let to = synced_up_to dir d e told above n in (
        to,
        λ hard. and_from _ _ to
            (not_from_false _ (ap (λ (x : Places). (x (dir ++ n ∷ [])).unsynced_bytes) told.ends.0 ∙ same_unsynced_bytes (is_child dir (dir ++ n ∷ [])) (d.places (dir ++ n ∷ [])) ∙ hard)),
      );
}

pub folder_synced : (dir : List (List ℕ)) (x y : Option Told) → BothTold (DoesTold (sync_dir dir) true) x y → BothTold (SyncsIn dir) x y
folder_synced dir x y does = told_map (DoesTold (sync_dir dir) true) (SyncsIn dir) (syncs dir) x y does

-- these bytes of a file were written, the first of others
pub record HasAppended (path : List (List ℕ)) (old new : DiskState) (bytes : List ℕ) : Type 0 where
  pub works : Works (is_prefix path) (is_at path) (length bytes) old new
  pub file : Holds (IsFileWith path bytes) new
  pub raises : Raises (length bytes) old new

pub on_done : {T E : Type 0} (call : Call) (old new : DiskState) (P : Type 0) (r : Result T E) → (Does call old new true → P) → Does call old new (is_ok r) → OnOk r P
on_done call old new P (Ok t) gives does = gives does
on_done call old new P (Err e) gives does = tt

file_has : (p : List (List ℕ)) (bytes : List ℕ) (d : Places) → IsFileWith p bytes d → is_file (d p).node ≡ true
file_has p bytes d is = ap is_file is

pub appended_is_file : (p : List (List ℕ)) (bytes : List ℕ) (x : Option Told) → IfSome x (λ d. IsFileWith p bytes d.places) → IfSome x (λ d. is_file (d.places p).node ≡ true)
appended_is_file p bytes x is = holds_map (IsFileWith p bytes) (λ d. is_file (d p).node ≡ true) (file_has p bytes) x is

pub appended_no_folder : (p : List (List ℕ)) (bytes : List ℕ) (x : Option Told) → IfSome x (λ d. IsFileWith p bytes d.places) → IfSome x (λ d. is_no_folder (d.places p).node ≡ true)
appended_no_folder p bytes x is = holds_map (IsFileWith p bytes) (λ d. is_no_folder (d p).node ≡ true) (λ d is. ap is_no_folder is) x is

pub appended_nothing : (p : List (List ℕ)) (s : DiskState) → Holds (IsFileWith p []) s → HasAppended p s s []
appended_nothing p s is = record { works = works_itself (is_prefix p) (is_at p) s; file = is; raises = raises_itself s }

pub appended_then : (p : List (List ℕ)) (r s t : DiskState) (bytes piece now : List ℕ) → now ≡ bytes ++ piece → HasAppended p r s bytes → Works (is_prefix p) (is_at p) (length piece) s t
    → BothTold (Appends p piece) s.told t.told → Raises (length piece) s t → HasAppended p r t now
appended_then p r s t bytes piece now is has works more raises = subst (HasAppended p r t) (sym is) (record {
  works = works_then (is_prefix p) (is_at p) (length bytes) (length piece) (length (bytes ++ piece)) r s t (omega (arith, length-append bytes piece)) has.works works;
  file = holds_then (IsFileWith p bytes) (IsFileWith p (bytes ++ piece)) (Appends p piece) (λ d e there gives. gives bytes there) s.told t.told has.file more;
  raises = raises_same (length bytes + length piece) (length (bytes ++ piece)) r t (sym (length-append bytes piece)) (raises_then (length bytes) (length piece) r s t has.raises raises);
})

-- no more was appended than there is to append
pub appended_within : (p : List (List ℕ)) (r s t : DiskState) (bytes piece : List ℕ) (most : ℕ) → length bytes + length piece ≤ most → HasAppended p r s bytes
    → Works (is_prefix p) (is_at p) (length piece) s t → Works (is_prefix p) (is_at p) most r t
appended_within p r s t bytes piece most fits has works = works_then (is_prefix p) (is_at p) (length bytes) (length piece) most r s t fits has.works works

-- a prefix and the piece after it
pub longer_prefix : (bytes : List ℕ) (at n : ℕ) → take (at + n) bytes ≡ take at bytes ++ between at (at + n) bytes
longer_prefix bytes at n =
    sym (take-append-drop at (take (at + n) bytes))
    ∙ ap (λ l. l ++ drop at (take (at + n) bytes)) (take-take at (at + n) bytes (omega arith))
    ∙ ap (λ l. take at bytes ++ l) (sym (between_is bytes at (at + n)))

pub prefix_and_piece : (bytes : List ℕ) (at n : ℕ) → at + n ≤ length bytes → length (take at bytes) + length (between at (at + n) bytes) ≤ length bytes
prefix_and_piece bytes at n fits =
    let first : length (take at bytes) ≤ at = omega (arith, length-take at bytes) in
    let piece : length (between at (at + n) bytes) ≡ (at + n) - at = length-between bytes at (at + n) fits in
    omega arith

-- syncing the file leaves what stands there
pub synced_written : (p : List (List ℕ)) (bytes : List ℕ) (s t : DiskState) → Holds (IsFileWith p bytes) s → Works nowhere nowhere 0 s t → Holds (λ e. (e p).unsynced_bytes ≡ false) t → Holds (IsWritten p bytes) t
synced_written p bytes s t stands works hard =
    holds_both (IsFileWith p bytes) (λ e. (e p).unsynced_bytes ≡ false) (IsWritten p bytes) (λ d is unsynced_bytes. record { node = is; hard = unsynced_bytes }) t.told
    (holds_then (IsFileWith p bytes) (IsFileWith p bytes) (WorksTold nowhere 0) (λ d e is told. told.now p refl ∙ is) s.told t.told stands works.told)
    hard

pub still_no_folder : (p : List (List ℕ)) (s t : DiskState) → Holds (λ e. is_no_folder (e p).node ≡ true) s → Works nowhere nowhere 0 s t → Holds (λ e. is_no_folder (e p).node ≡ true) t
still_no_folder p s t is works =
    holds_then (λ e. is_no_folder (e p).node ≡ true) (λ e. is_no_folder (e p).node ≡ true) (WorksTold nowhere 0)
    (λ d e was told. ap is_no_folder (told.now p refl) ∙ was) s.told t.told is works.told

-- a call that makes the file, then appending
pub made_and_appended : (p : List (List ℕ)) (most : ℕ) (r s t : DiskState) → Works (is_prefix p) (is_at p) 0 r s → Works (is_prefix p) (is_at p) most s t → Works (is_prefix p) (is_at p) most r t
made_and_appended p most r s t one two = works_then (is_prefix p) (is_at p) 0 most most r s t (omega arith) one two

pub and_synced : (p : List (List ℕ)) (most : ℕ) (r s t : DiskState) → Works (is_prefix p) (is_at p) most r s → Works nowhere nowhere 0 s t → Works (is_prefix p) (is_at p) most r t
and_synced p most r s t one two =
    works_then (is_prefix p) (is_at p) most 0 most r s t (omega arith) one
    (works_wider nowhere (is_prefix p) nowhere (is_at p) 0 0 s t (omega arith) (λ q out. refl) (λ q out. refl) two)

pub only_made : (p : List (List ℕ)) (most : ℕ) (r s : DiskState) → Works (is_prefix p) (is_at p) 0 r s → Works (is_prefix p) (is_at p) most r s
only_made p most r s works = works_wider (is_prefix p) (is_prefix p) (is_at p) (is_at p) 0 most r s (omega arith) (λ q out. out) (λ q out. out) works

-- nothing was appended where nothing might be
pub works_raise : (reach at : List (List ℕ) → Bool) (old new : DiskState) → Works reach at 0 old new → Raises 0 old new
works_raise reach at old new works = told_map (WorksTold at 0) (RaisesTold 0) (λ d e told. within_none d.appended e.appended told.appended) old.told new.told works.told

-- a call before that appends nothing
pub raises_after : (reach at : List (List ℕ) → Bool) (n : ℕ) (r s t : DiskState) → Works reach at 0 r s → Raises n s t → Raises n r t
raises_after reach at n r s t works raises = raises_same (0 + n) n r t (omega arith) (raises_then 0 n r s t (works_raise reach at r s works) raises)

-- a call afterwards that appends nothing
pub raises_before : (reach at : List (List ℕ) → Bool) (n : ℕ) (r s t : DiskState) → Raises n r s → Works reach at 0 s t → Raises n r t
raises_before reach at n r s t raises works = raises_same (n + 0) n r t (omega arith) (raises_then n 0 r s t raises (works_raise reach at s t works))

-- however the making of a file ends, no folder stands there
file_ends : (p : List (List ℕ)) (done : Bool) (d e : Told) → IsFree d.places p → EndsTold (make_file p) done d e → is_no_folder (e.places p).node ≡ true
file_ends p true d e free ends = ap (λ (x : Place). is_no_folder x.node) (put_place p (with_unsynced_name (Some (file [])) true) d.places e.places ends.0)
file_ends p false d e free ends = no_folder_made p d.places e.places free.path_absent ends.0

pub file_left : (p : List (List ℕ)) (done : Bool) (x y : Option Told) → IfSome x (λ d. IsFree d.places p) → BothTold (DoesTold (make_file p) done) x y → IfSome y (λ e. is_no_folder (e.places p).node ≡ true)
file_left p done x y free does = holds_then (λ d. IsFree d p) (λ e. is_no_folder (e p).node ≡ true) (DoesTold (make_file p) done)
    (λ d e is told. file_ends p done d e is told.ends) x y free does
