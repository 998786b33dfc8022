-- What each function of a removal does to the disk: one path, what lies below a folder, some names of a folder.
use Rattle.std.proofs.Common.{suc, get_or, drop, ◌≡◌, ◌≢◌, ◌⊎◌, ℕ, ◌+◌, ◌<◌, Bool, true, false, cond, not, ◌&&◌, ◌||◌, List, [], ◌∷◌, ◌++◌, length, take, Option, Some, None, IfSome, Result, Ok, Err, refl, sym, ap, ◌∙◌, subst, inl, inr, arith, append_assoc, add-one}
use Rattle.std.specs.List.{list_any}
use Rattle.std.specs.Option.{is_some}
use Rattle.std.specs.Result.{is_ok}
use Rattle.std.specs.Ordering.{eq_by_cmp}
use Rattle.std.proofs.lemmas.Bool.{false≢true, and_parts, and_from, or_left, or_right, or_cases, cond-false, not_from_false}
use Rattle.std.proofs.lemmas.List.{append-nil, take-append-drop}
use Rattle.std.proofs.Math.Seq.{take-suc, drop-cons}
use Rattle.ext_text.specs.Name.{bytes_cmp}
use Rattle.ext_text.specs.Path.{path_cmp, is_prefix, is_proper_prefix}
use Rattle.ext_text.proofs.ForCallers.{same_path, tied_path, same_name, tied_name, prefix_self}
use Rattle.ext_disk.specs.Disk.{Node, folder, file, Place, Places, Told, DiskState, BothTold, IsTree, IsDisk, is_file}
use Rattle.ext_disk.specs.Since.{Rests}
use Rattle.ext_disk.specs.Calls.{remove, Allows, IsEmptyFolder, MayCall, Does, DoesTold, Fails, with_unsynced_name, removed, put, is_child}
use Rattle.ext_disk.specs.Fixed.{Spares}
use Rattle.ext_disk.specs.Lookups.{IsListing, kind_of}
use Rattle.ext_disk.specs.declared.kind.Kind.{Kind}
use Rattle.ext_disk.specs.declared.kind.Kind.TheVariants.{Dir}
use Rattle.ext_disk.proofs.ForCallers.{spares_then, spares_wider, spares_itself, rests_spares, call_spares_out_of_reach}
use Rattle.ext_store_files.specs.declared.errors.CleanErr.{CleanErr}
use Rattle.ext_store_files.specs.declared.errors.CleanErr.TheVariants.{DiskFault, OutOfMemory, Unfinished}
use Rattle.ext_store_files.specs.Removal.{is_one_of, AreGone, IsClear, CountsGone, EndsRemoval, ClearsTold, Clears, is_below_any}
use Rattle.ext_store_files.proofs.ToldLemmas.{told_map}
use Rattle.ext_store_files.proofs.RemovalLemmas.{contrapose, none_or_some, in_stand, still_stood, gone_none, gone_nothing, stand_map, done, failed, clears_then}

same_test : (a b : Bool) → (a ≡ true → b ≡ true) → (b ≡ true → a ≡ true) → a ≡ b
same_test true b there back = sym (there refl)
same_test false true there back = back refl
same_test false false there back = refl

tied_both : (p q : List (List ℕ)) → eq_by_cmp path_cmp p q ≡ eq_by_cmp path_cmp q p
tied_both p q = same_test _ _ (λ is. tied_path q p (sym (same_path p q is))) (λ is. tied_path p q (sym (same_path q p is)))

or_none : (b : Bool) → (b || false) ≡ b
or_none true = refl
or_none false = refl

consed : (n m : List ℕ) (q r : List (List ℕ)) → n ≡ m → q ≡ r → m ∷ q ≡ n ∷ r
consed n m q r name rest = λ i. sym name i ∷ rest i

-- a path below another, as the other and the rest
pub rest_of : (p q : List (List ℕ)) → is_prefix p q ≡ true → (r : List (List ℕ)) × (q ≡ p ++ r)
rest_of [] q prefix = (q, refl)
rest_of (n ∷ p) [] prefix = absurd (false≢true prefix)
rest_of (n ∷ p) (m ∷ q) prefix =
    let parts = and_parts (eq_by_cmp bytes_cmp n m) (is_prefix p q) prefix in
    let below = rest_of p q parts.1 in
    (below.0, consed n m q (p ++ below.0) (same_name n m parts.0) below.1)

-- a path is a prefix of what goes on from it
pub prefix_append : (p r : List (List ℕ)) → is_prefix p (p ++ r) ≡ true
prefix_append [] r = refl
prefix_append (n ∷ p) r = and_from _ _ (tied_name n n refl) (prefix_append p r)

no_prefix_longer : (p : List (List ℕ)) (n : List ℕ) (r : List (List ℕ)) → is_prefix (p ++ n ∷ r) p ≡ false
no_prefix_longer [] n r = refl
no_prefix_longer (m ∷ p) n r = and_false _ _ (no_prefix_longer p n r)
  where
    and_false : (a b : Bool) → b ≡ false → (a && b) ≡ false
    and_false true b is = is
    and_false false b is = refl

-- and a proper one where a name follows
pub proper_append : (p : List (List ℕ)) (n : List ℕ) (r : List (List ℕ)) → is_proper_prefix p (p ++ n ∷ r) ≡ true
proper_append p n r = and_from _ _ (prefix_append p (n ∷ r)) (not_from_false _ (no_prefix_longer p n r))

not_itself : (p : List (List ℕ)) → is_proper_prefix p p ≡ false
not_itself p = ap (λ b. b && not b) (prefix_self p)

-- what lies properly below a path lies below one of the names directly in it
pub proper_rest : (p q : List (List ℕ)) → is_proper_prefix p q ≡ true → (n : List ℕ) × (r : List (List ℕ)) × (q ≡ p ++ n ∷ r)
proper_rest p q proper =
    let parts = and_parts (is_prefix p q) (not (is_prefix q p)) proper in
    let below = rest_of p q parts.0 in
    named p q below.0 below.1 parts.1
  where
    named : (p q r : List (List ℕ)) → q ≡ p ++ r → not (is_prefix q p) ≡ true → (n : List ℕ) × (r : List (List ℕ)) × (q ≡ p ++ n ∷ r)
    named p q [] same out = absurd (false≢true (sym (ap (λ x. not (is_prefix x p)) (same ∙ append-nil p) ∙ ap not (prefix_self p)) ∙ out))
    named p q (n ∷ r) same out = (n, r, same)

some_folder : (there : Option Node) → there ≡ Some folder → is_some there ≡ true
some_folder there is = ap is_some is

pub some_taken : (place : Place) → is_some place.node ≡ true → (is_some place.node || is_some place.unsynced_rename) ≡ true
some_taken place some = or_left _ _ some

-- where something stands, something stands at each prefix
pub stands_above : (d : Places) → IsTree d → (p r : List (List ℕ)) → is_some (d (p ++ r)).node ≡ true → is_some (d p).node ≡ true
stands_above d tree p [] some = ap (λ x. is_some (d x).node) (sym (append-nil p)) ∙ some
stands_above d tree p (n ∷ r) some =
    let longer : is_some (d (p ++ n ∷ [])).node ≡ true =
    stands_above d tree (p ++ n ∷ []) r (ap (λ x. is_some (d x).node) (append_assoc p (n ∷ []) r) ∙ some) in
    some_folder (d p).node (tree.parents p n (some_taken (d (p ++ n ∷ [])) longer))

-- nothing stands below a path at which nothing stands
none_below : (d : Places) → IsTree d → (p q : List (List ℕ)) → (d p).node ≡ None → is_prefix p q ≡ true → (d q).node ≡ None
none_below d tree p q none prefix =
    let below = rest_of p q prefix in
    none_or_some _ (d q).node (λ some. false≢true (sym (ap is_some none) ∙ stands_above d tree p below.0 (ap (λ x. is_some (d x).node) (sym below.1) ∙ some)))

stands_file : (node : Option Node) → is_file node ≡ true → is_some node ≡ true
stands_file None is = absurd (false≢true is)
stands_file (Some n) is = refl

stands_there : (p : List (List ℕ)) (d : Places) → Allows (remove p) d → is_some (d p).node ≡ true
stands_there p d (inl is) = stands_file (d p).node is
stands_there p d (inr empty) = some_folder (d p).node empty.is

-- no more may be removed
told_unfinished : (T : Type 0) (p : List (List ℕ)) (o : Option Told) (b : ℕ) → IfSome o (λ d. Allows (remove p) d.places) → b ≡ 0
    → BothTold (ClearsTold (is_prefix p) (failed T Unfinished) b b) o o
told_unfinished T p None b may none = tt
told_unfinished T p (Some d) b may none = record {
  gone = [];
  are = gone_nothing (is_prefix p) d.places d.places refl;
  counts = (omega arith, none);
  ends = (p, prefix_self p, stands_there p d.places may);
  appended = refl;
}

pub clears_unfinished : (T : Type 0) (p : List (List ℕ)) (s : DiskState) (b : ℕ) → MayCall (remove p) s → b ≡ 0 → Clears (is_prefix p) (failed T Unfinished) b b s s
clears_unfinished T p s b may none = record { spares = spares_itself (is_prefix p) s; told = told_unfinished T p s.told b may none }

removed_at : (a b : Bool) (unsynced_bytes : Bool) (x : Place) → (cond a (with_unsynced_name None unsynced_bytes) (cond b (record x { unsynced_rename = None }) x)).node ≡ cond a None x.node
removed_at true b unsynced_bytes x = refl
removed_at false true unsynced_bytes x = refl
removed_at false false unsynced_bytes x = refl

removed_node : (p : List (List ℕ)) (unsynced_bytes : Bool) (d : Places) (q : List (List ℕ)) → (removed p unsynced_bytes d q).node ≡ cond (is_one_of q (p ∷ [])) None (d q).node
removed_node p unsynced_bytes d q =
    removed_at (eq_by_cmp path_cmp p q) (is_child p q) unsynced_bytes (d q)
    ∙ ap (λ b. cond b None (d q).node) (tied_both p q ∙ sym (or_none (eq_by_cmp path_cmp q p)))

gone_one : (p : List (List ℕ)) (unsynced_bytes : Bool) (d e : Places) → Allows (remove p) d → e ≡ removed p unsynced_bytes d → AreGone (is_prefix p) d e (p ∷ [])
gone_one p unsynced_bytes d e may same = record {
  stood = record { distinct = (refl, tt); all = (prefix_self p, stands_there p d may, tt) };
  now = λ q. ap (λ x. (x q).node) same ∙ removed_node p unsynced_bytes d q;
}

put_same : (b : Bool) (x y : Place) → (b ≡ true → x.node ≡ y.node) → (cond b x y).node ≡ y.node
put_same true x y gives = gives refl
put_same false x y gives = refl

kept_one : (p : List (List ℕ)) (unsynced_bytes : Bool) (d e : Places) → e ≡ put p (with_unsynced_name (d p).node unsynced_bytes) d → AreGone (is_prefix p) d e []
kept_one p unsynced_bytes d e same = record {
  stood = record { distinct = tt; all = tt };
  now = λ q. ap (λ x. (x q).node) same
      ∙ put_same (eq_by_cmp path_cmp p q) (with_unsynced_name (d p).node unsynced_bytes) (d q) (λ is. ap (λ x. (d x).node) (same_path p q is));
}

told_removed : (T : Type 0) (t : T) (p : List (List ℕ)) (x y : Option Told) (b m : ℕ) → IfSome x (λ d. Allows (remove p) d.places) → (d : (d : Told) → x ≡ Some d → IsTree d.places)
    → ((d : Told) → y ≡ Some d → IsTree d.places) → 1 + m ≡ b → BothTold (DoesTold (remove p) true) x y → BothTold (ClearsTold (is_prefix p) (done T t) b m) x y
told_removed T t p None None b m may tree tree' count does = tt
told_removed T t p None (Some e) b m may tree tree' count does = absurd does
told_removed T t p (Some d) None b m may tree tree' count does = absurd does
told_removed T t p (Some d) (Some e) b m may tree tree' count does =
    let gone = gone_one p false d.places e.places may does.ends.0 in
    record {
      gone = p ∷ [];
      are = gone;
      counts = count;
      ends = λ q prefix. none_below e.places (tree' e refl) p q (gone_none (is_prefix p) d.places e.places (p ∷ []) gone p (or_left _ _ (tied_path p p refl))) prefix;
      appended = does.ends.1;
    }

spares_removal : (p : List (List ℕ)) (old new : DiskState) (b : Bool) → Does (remove p) old new b → Spares (is_prefix p) old new
spares_removal p old new b does = call_spares_out_of_reach (is_prefix p) (remove p) old new b (λ q out. out) does

trees : (o : Option Told) → IfSome o IsDisk → (d : Told) → o ≡ Some d → IsTree d.places
trees o is d same = let there : IsDisk d = subst (λ x. IfSome x IsDisk) same is in there.tree

pub clears_removed : (T : Type 0) (t : T) (p : List (List ℕ)) (old new : DiskState) (b m : ℕ) → IfSome old.told IsDisk → IfSome new.told IsDisk → MayCall (remove p) old → 1 + m ≡ b
    → Does (remove p) old new true → Clears (is_prefix p) (done T t) b m old new
clears_removed T t p old new b m tree tree' may count does = record {
  spares = spares_removal p old new true does;
  told = told_removed T t p old.told new.told b m may (trees old.told tree) (trees new.told tree') count does.told;
}

half_gone : (T : Type 0) (p : List (List ℕ)) (d e : Told) (b m : ℕ) → Allows (remove p) d.places → 1 + m ≡ b → e.appended ≡ d.appended → Fails (remove p) d.places e.places
    → ClearsTold (is_prefix p) (failed T DiskFault) b m d e
half_gone T p d e b m may count sum (inl same) = record { gone = []; are = gone_nothing (is_prefix p) d.places e.places same; counts = omega arith; ends = tt; appended = sum }
half_gone T p d e b m may count sum (inr (true, unsynced_bytes, same)) = record { gone = p ∷ []; are = gone_one p unsynced_bytes d.places e.places may same; counts = omega arith; ends = tt; appended = sum }
half_gone T p d e b m may count sum (inr (false, unsynced_bytes, same)) = record { gone = []; are = kept_one p unsynced_bytes d.places e.places same; counts = omega arith; ends = tt; appended = sum }

told_failed : (T : Type 0) (p : List (List ℕ)) (x y : Option Told) (b m : ℕ) → IfSome x (λ d. Allows (remove p) d.places) → 1 + m ≡ b
    → BothTold (DoesTold (remove p) false) x y → BothTold (ClearsTold (is_prefix p) (failed T DiskFault) b m) x y
told_failed T p None None b m may count does = tt
told_failed T p None (Some e) b m may count does = absurd does
told_failed T p (Some d) None b m may count does = absurd does
told_failed T p (Some d) (Some e) b m may count does = half_gone T p d e b m may count does.ends.1 does.ends.0

pub clears_failed : (T : Type 0) (p : List (List ℕ)) (old new : DiskState) (b m : ℕ) → MayCall (remove p) old → 1 + m ≡ b
    → Does (remove p) old new false → Clears (is_prefix p) (failed T DiskFault) b m old new
clears_failed T p old new b m may count does = record {
  spares = spares_removal p old new false does;
  told = told_failed T p old.told new.told b m may count does.told;
}

told_rests : {T : Type 0} (reach : List (List ℕ) → Bool) (r : Result T CleanErr) (b : ℕ) (x y : Option Told) → y ≡ x → CountsGone r 0 b b
    → IfSome x (λ d. EndsRemoval reach r d.places) → BothTold (ClearsTold reach r b b) x y
told_rests reach r b None None same counts ends = tt
told_rests reach r b None (Some e) same counts ends = cc
told_rests reach r b (Some d) None same counts ends = cc
told_rests reach r b (Some d) (Some e) same counts ends =
    let one : e ≡ d = cc in
    record {
      gone = [];
      are = gone_nothing reach d.places e.places (ap (λ t. t.places) one);
      counts = counts;
      ends = subst (λ t. EndsRemoval reach r t.places) (sym one) ends;
      appended = ap (λ t. t.appended) one;
    }

pub clears_rests : {T : Type 0} (reach : List (List ℕ) → Bool) (r : Result T CleanErr) (b : ℕ) (old new : DiskState) → Rests old new → CountsGone r 0 b b
    → IfSome old.told (λ d. EndsRemoval reach r d.places) → Clears reach r b b old new
clears_rests reach r b old new rests counts ends = record { spares = rests_spares reach old new rests; told = told_rests reach r b old.told new.told rests.told counts ends }

always : {A : Type 0} (o : Option A) (P : A → Type 0) → ((a : A) → P a) → IfSome o P
always None P gives = tt
always (Some a) P gives = gives a

-- a fault, or a failed allocation, before anything was removed
pub clears_fault : (T : Type 0) (reach : List (List ℕ) → Bool) (b : ℕ) (old new : DiskState) → Rests old new → Clears reach (failed T DiskFault) b b old new
clears_fault T reach b old new rests = clears_rests reach (failed T DiskFault) b old new rests (omega arith) (always old.told (λ d. Unit {0}) (λ d. tt))

pub clears_starved : (T : Type 0) (reach : List (List ℕ) → Bool) (b : ℕ) (old new : DiskState) → Rests old new → Clears reach (failed T OutOfMemory) b b old new
clears_starved T reach b old new rests = clears_rests reach (failed T OutOfMemory) b old new rests (omega arith) (always old.told (λ d. Unit {0}) (λ d. tt))

none_of_kind : (node : Option Node) → None ≡ kind_of node → node ≡ None
none_of_kind None is = refl
none_of_kind (Some folder) is = cc
none_of_kind (Some (file bytes)) is = cc

pub folder_of_kind : (node : Option Node) → Some Dir ≡ kind_of node → node ≡ Some folder
folder_of_kind None is = cc
folder_of_kind (Some folder) is = refl
folder_of_kind (Some (file bytes)) is = cc

clear_by_kind : (p : List (List ℕ)) (o : Option Told) → IfSome o IsDisk → IfSome o (λ d. None ≡ kind_of (d.places p).node) → IfSome o (λ d. IsClear (is_prefix p) d.places)
clear_by_kind p None disk is = tt
clear_by_kind p (Some d) disk is = λ q prefix. none_below d.places disk.tree p q (none_of_kind (d.places p).node is) prefix

-- nothing stands there
pub clears_absent : (T : Type 0) (t : T) (p : List (List ℕ)) (b : ℕ) (old new : DiskState) → IfSome old.told IsDisk → Rests old new
    → IfSome old.told (λ d. None ≡ kind_of (d.places p).node) → Clears (is_prefix p) (done T t) b b old new
clears_absent T t p b old new disk rests is = clears_rests (is_prefix p) (done T t) b old new rests (omega arith) (clear_by_kind p old.told disk is)

-- after calls that only read
pub rests_clears : {T : Type 0} (reach : List (List ℕ) → Bool) (r : Result T CleanErr) (before after : ℕ) (a b c : DiskState) → Rests a b → Clears reach r before after b c → Clears reach r before after a c
rests_clears reach r before after a b c rests clears = record {
  spares = spares_then reach a b c (rests_spares reach a b rests) clears.spares;
  told = subst (λ x. BothTold (ClearsTold reach r before after) x c.told) rests.told clears.told;
}

ends_wider : {T : Type 0} (near whole : List (List ℕ) → Bool) (r : Result T CleanErr) (d e : Places) (gone : List (List (List ℕ)))
    → ((p : List (List ℕ)) → near p ≡ true → whole p ≡ true)
    → (is_ok r ≡ true → (q : List (List ℕ)) → whole q ≡ true → is_some (d q).node ≡ true → near q ≡ true) → AreGone near d e gone → EndsRemoval near r e → EndsRemoval whole r e
ends_wider near whole (Ok t) d e gone within covers are ends =
    λ q is. none_or_some _ (e q).node (λ some. false≢true (sym (ap is_some (ends q (covers refl q is (still_stood near d e gone are q some)))) ∙ some))
ends_wider near whole (Err DiskFault) d e gone within covers are ends = tt
ends_wider near whole (Err OutOfMemory) d e gone within covers are ends = tt
ends_wider near whole (Err Unfinished) d e gone within covers are ends = (ends.0, within ends.0 ends.1, ends.2)

told_wider : {T : Type 0} (near whole : List (List ℕ) → Bool) (r : Result T CleanErr) (before after : ℕ) (x y : Option Told)
    → ((p : List (List ℕ)) → near p ≡ true → whole p ≡ true)
    → IfSome x (λ d. is_ok r ≡ true → (q : List (List ℕ)) → whole q ≡ true → is_some (d.places q).node ≡ true → near q ≡ true)
    → BothTold (ClearsTold near r before after) x y → BothTold (ClearsTold whole r before after) x y
told_wider near whole r before after None None within covers both = tt
told_wider near whole r before after None (Some e) within covers both = absurd both
told_wider near whole r before after (Some d) None within covers both = absurd both
told_wider near whole r before after (Some d) (Some e) within covers both = record {
  gone = both.gone;
  are = record {
    stood = record { distinct = both.are.stood.distinct; all = stand_map near whole d.places d.places both.gone (λ p is some. (within p is, some)) both.are.stood.all };
    now = both.are.now;
  };
  counts = both.counts;
  ends = ends_wider near whole r d.places e.places both.gone within covers both.are both.ends;
  appended = both.appended;
}

-- with a wider reach, in which nothing more stood
pub clears_wider : {T : Type 0} (near whole : List (List ℕ) → Bool) (r : Result T CleanErr) (before after : ℕ) (old new : DiskState)
    → ((p : List (List ℕ)) → near p ≡ true → whole p ≡ true)
    → IfSome old.told (λ d. is_ok r ≡ true → (q : List (List ℕ)) → whole q ≡ true → is_some (d.places q).node ≡ true → near q ≡ true)
    → Clears near r before after old new → Clears whole r before after old new
clears_wider near whole r before after old new within covers clears = record {
  spares = spares_wider near whole old new (λ p out. contrapose (near p) (whole p) (within p) out) clears.spares;
  told = told_wider near whole r before after old.told new.told within covers clears.told;
}

-- a part that failed, of a whole
pub clears_part : (T : Type 0) (near whole : List (List ℕ) → Bool) (e : CleanErr) (before after : ℕ) (old new : DiskState)
    → ((p : List (List ℕ)) → near p ≡ true → whole p ≡ true) → Clears near (failed T e) before after old new → Clears whole (failed T e) before after old new
clears_part T near whole e before after old new within clears =
    clears_wider near whole (failed T e) before after old new within (always old.told _ (λ d ok. absurd (false≢true ok))) clears

-- a folder is empty where all below it was removed
folder_left : (p : List (List ℕ)) (d e : Places) (gone : List (List (List ℕ))) → p ≢ [] → (d p).node ≡ Some folder → AreGone (is_proper_prefix p) d e gone → IsClear (is_proper_prefix p) e
    → IsEmptyFolder e p
folder_left p d e gone no_root is are clear = record {
  no_root = no_root;
  is = are.now p ∙ cond-false _ None (d p).node (out (λ among. (in_stand (is_proper_prefix p) d p gone are.stood.all among).0)) ∙ is;
  empty = λ n. clear (p ++ n ∷ []) (proper_append p n []);
}
  where
    out : (is_one_of p gone ≡ true → is_proper_prefix p p ≡ true) → is_one_of p gone ≡ false
    out gives = contrapose (is_one_of p gone) (is_proper_prefix p p) gives (not_itself p)

told_empty : (T : Type 0) (t : T) (p : List (List ℕ)) (before after : ℕ) (x y : Option Told) → p ≢ [] → IfSome x (λ d. (d.places p).node ≡ Some folder)
    → BothTold (ClearsTold (is_proper_prefix p) (done T t) before after) x y → IfSome y (λ e. Allows (remove p) e.places)
told_empty T t p before after None None no_root is both = tt
told_empty T t p before after None (Some e) no_root is both = absurd both
told_empty T t p before after (Some d) None no_root is both = absurd both
told_empty T t p before after (Some d) (Some e) no_root is both = inr (folder_left p d.places e.places both.gone no_root is both.are both.ends)

-- so it may be removed
pub may_remove : (T : Type 0) (t : T) (p : List (List ℕ)) (before after : ℕ) (old new : DiskState) → p ≢ [] → IfSome old.told (λ d. (d.places p).node ≡ Some folder)
    → Clears (is_proper_prefix p) (done T t) before after old new → MayCall (remove p) new
may_remove T t p before after old new no_root is clears = told_empty T t p before after old.told new.told no_root is clears.told

-- all below it, and then the folder
pub clears_folder : {U : Type 0} (T : Type 0) (t : T) (p : List (List ℕ)) (r : Result U CleanErr) (before mid after : ℕ) (a b c : DiskState)
    → Clears (is_proper_prefix p) (done T t) before mid a b → Clears (is_prefix p) r mid after b c → Clears (is_prefix p) r before after a c
clears_folder T t p r before mid after a b c one two =
    clears_then T (is_proper_prefix p) (is_prefix p) (is_prefix p) t r before mid after a b c
    (λ q is. (and_parts (is_prefix p q) (not (is_prefix q p)) is).0) (λ q is. is) (λ ok q is. inr is) one two

any_weaker : (f g : List ℕ → Bool) (names : List (List ℕ)) → ((n : List ℕ) → f n ≡ true → g n ≡ true) → list_any f names ≡ true → list_any g names ≡ true
any_weaker f g [] gives hit = hit
any_weaker f g (n ∷ names) gives hit = either (f n) (list_any f names) (g n) (list_any g names) (gives n) (any_weaker f g names gives) hit
  where
    either : (a b c d : Bool) → (a ≡ true → c ≡ true) → (b ≡ true → d ≡ true) → (a || b) ≡ true → (c || d) ≡ true
    either true b c d left right hit = or_left c d (left refl)
    either false b c d left right hit = or_right c d (right hit)

any_gives : (P : Type 0) (f : List ℕ → Bool) (names : List (List ℕ)) → ((n : List ℕ) → f n ≡ true → P) → list_any f names ≡ true → P
any_gives P f [] gives hit = absurd (false≢true hit)
any_gives P f (n ∷ names) gives hit = first P (f n) (list_any f names) (gives n) (any_gives P f names gives) hit
  where
    first : (P : Type 0) (a b : Bool) → (a ≡ true → P) → (b ≡ true → P) → (a || b) ≡ true → P
    first P true b left right hit = left refl
    first P false b left right hit = right hit

pub below_names : (dir : List (List ℕ)) (names : List (List ℕ)) (q : List (List ℕ)) → is_below_any dir names q ≡ true → is_proper_prefix dir q ≡ true
below_names dir names q hit = any_gives (is_proper_prefix dir q ≡ true) (λ n. is_prefix (dir ++ n ∷ []) q) names
    (λ n prefix.
    let below = rest_of (dir ++ n ∷ []) q prefix in
    ap (is_proper_prefix dir) (below.1 ∙ append_assoc dir (n ∷ []) below.0) ∙ proper_append dir n below.0) hit

-- what stands below a folder stands below a name that it lists
pub listed_below : (d : Places) (dir : List (List ℕ)) (names : List (List ℕ)) → IsTree d → IsListing d dir names
    → (q : List (List ℕ)) → is_proper_prefix dir q ≡ true → is_some (d q).node ≡ true → is_below_any dir names q ≡ true
listed_below d dir names tree lists q proper some =
    let below = proper_rest dir q proper in
    let apart : (dir ++ below.0 ∷ []) ++ below.1 ≡ q = append_assoc dir (below.0 ∷ []) below.1 ∙ sym below.2 in
    let there : is_some (d (dir ++ below.0 ∷ [])).node ≡ true =
    stands_above d tree (dir ++ below.0 ∷ []) below.1 (ap (λ x. is_some (d x).node) apart ∙ some) in
    any_weaker (eq_by_cmp bytes_cmp below.0) (λ n. is_prefix (dir ++ n ∷ []) q) names
    (λ n tied. ap (λ m. is_prefix (dir ++ m ∷ []) q) (sym (same_name below.0 n tied))
    ∙ (ap (is_prefix (dir ++ below.0 ∷ [])) (sym apart) ∙ prefix_append (dir ++ below.0 ∷ []) below.1))
    (lists.has below.0 ∙ there)

told_listed : {T : Type 0} (r : Result T CleanErr) (dir : List (List ℕ)) (names : List (List ℕ)) (o : Option Told) → IfSome o IsDisk → IfSome o (λ d. IsListing d.places dir names)
    → IfSome o (λ d. is_ok r ≡ true → (q : List (List ℕ)) → is_proper_prefix dir q ≡ true → is_some (d.places q).node ≡ true → is_below_any dir names q ≡ true)
told_listed r dir names None disk lists = tt
told_listed r dir names (Some d) disk lists = λ ok. listed_below d.places dir names disk.tree lists

-- all names that a folder has
pub clears_below : {T : Type 0} (r : Result T CleanErr) (dir : List (List ℕ)) (names given : List (List ℕ)) (before after : ℕ) (old mid new : DiskState) → IfSome old.told IsDisk → Rests old mid
    → IfSome old.told (λ d. IsListing d.places dir names) → given ≡ names → Clears (is_below_any dir given) r before after mid new → Clears (is_proper_prefix dir) r before after old new
clears_below r dir names given before after old mid new disk rests lists same clears =
    clears_wider (is_below_any dir names) (is_proper_prefix dir) r before after old new (below_names dir names) (told_listed r dir names old.told disk lists)
    (rests_clears (is_below_any dir names) r before after old mid new rests (subst (λ l. Clears (is_below_any dir l) r before after mid new) same clears))

pub clears_no_names : (T : Type 0) (t : T) (dir : List (List ℕ)) (b : ℕ) (s : DiskState) → Rests s s → Clears (is_below_any dir []) (done T t) b b s s
clears_no_names T t dir b s rests =
    clears_rests (is_below_any dir []) (done T t) b s s rests (omega arith) (always s.told _ (λ d q is. absurd (false≢true is)))

pub any_append : {X : Type 0} (f : X → Bool) (xs ys : List X) → list_any f (xs ++ ys) ≡ (list_any f xs || list_any f ys)
any_append f [] ys = refl
any_append f (x ∷ xs) ys = ap (λ b. f x || b) (any_append f xs ys) ∙ sym (or_assoc (f x) (list_any f xs) (list_any f ys))
  where
    or_assoc : (a b c : Bool) → ((a || b) || c) ≡ (a || (b || c))
    or_assoc true b c = refl
    or_assoc false b c = refl

-- a name among others: what is below the ones before it, or at and below it, is below any of them
below_first : (dir : List (List ℕ)) (cleared back names : List (List ℕ)) (n : List ℕ) → names ≡ cleared ++ n ∷ back → (q : List (List ℕ)) → is_below_any dir cleared q ≡ true → is_below_any dir names q ≡ true
below_first dir cleared back names n is q hit =
    ap (λ l. is_below_any dir l q) is ∙ any_append (λ m. is_prefix (dir ++ m ∷ []) q) cleared (n ∷ back) ∙ or_left _ _ hit

below_next : (dir : List (List ℕ)) (cleared back names : List (List ℕ)) (n : List ℕ) → names ≡ cleared ++ n ∷ back → (q : List (List ℕ)) → is_prefix (dir ++ n ∷ []) q ≡ true → is_below_any dir names q ≡ true
below_next dir cleared back names n is q hit =
    ap (λ l. is_below_any dir l q) is ∙ any_append (λ m. is_prefix (dir ++ m ∷ []) q) cleared (n ∷ back)
    ∙ or_right (is_below_any dir cleared q) _ (or_left _ (is_below_any dir back q) hit)

below_either : (dir : List (List ℕ)) (cleared : List (List ℕ)) (n : List ℕ) (q : List (List ℕ)) → is_below_any dir (cleared ++ n ∷ []) q ≡ true
    → (is_below_any dir cleared q ≡ true) ⊎ (is_prefix (dir ++ n ∷ []) q ≡ true)
below_either dir cleared n q hit =
    or_cases (is_below_any dir cleared q) (is_prefix (dir ++ n ∷ []) q)
    (sym (any_append (λ m. is_prefix (dir ++ m ∷ []) q) cleared (n ∷ []) ∙ ap (λ b. is_below_any dir cleared q || b) (or_none (is_prefix (dir ++ n ∷ []) q))) ∙ hit)

-- one name more is done
pub clears_next : (T : Type 0) (t u : T) (dir p : List (List ℕ)) (cleared : List (List ℕ)) (n : List ℕ) (before mid after : ℕ) (a b c : DiskState) → p ≡ dir ++ n ∷ []
    → Clears (is_below_any dir cleared) (done T t) before mid a b → Clears (is_prefix p) (done T u) mid after b c → Clears (is_below_any dir (cleared ++ n ∷ [])) (done T t) before after a c
clears_next T t u dir p cleared n before mid after a b c is one two =
    let at_name : Clears (is_prefix (dir ++ n ∷ [])) (done T u) mid after b c = subst (λ x. Clears (is_prefix x) (done T u) mid after b c) is two in
    let both : Clears (is_below_any dir (cleared ++ n ∷ [])) (done T u) before after a c =
    clears_then T (is_below_any dir cleared) (is_prefix (dir ++ n ∷ [])) (is_below_any dir (cleared ++ n ∷ [])) t (done T u) before mid after a b c
    (below_first dir cleared [] (cleared ++ n ∷ []) n refl) (below_next dir cleared [] (cleared ++ n ∷ []) n refl) (λ ok q. below_either dir cleared n q) one at_name in
    record {
      spares = both.spares;
      told = told_map (ClearsTold (is_below_any dir (cleared ++ n ∷ [])) (done T u) before after) (ClearsTold (is_below_any dir (cleared ++ n ∷ [])) (done T t) before after)
          (λ d e x. record { gone = x.gone; are = x.are; counts = x.counts; ends = x.ends; appended = x.appended }) a.told c.told both.told;
    }

-- at a name it stops
pub clears_stops : (T U : Type 0) (t : T) (e : CleanErr) (dir p : List (List ℕ)) (cleared back names : List (List ℕ)) (n : List ℕ) (before mid after : ℕ) (a b c : DiskState)
    → p ≡ dir ++ n ∷ [] → names ≡ cleared ++ n ∷ back
    → Clears (is_below_any dir cleared) (done T t) before mid a b → Clears (is_prefix p) (failed U e) mid after b c → Clears (is_below_any dir names) (failed U e) before after a c
clears_stops T U t e dir p cleared back names n before mid after a b c is split one two =
    let at_name : Clears (is_prefix (dir ++ n ∷ [])) (failed U e) mid after b c = subst (λ x. Clears (is_prefix x) (failed U e) mid after b c) is two in
    clears_then T (is_below_any dir cleared) (is_prefix (dir ++ n ∷ [])) (is_below_any dir names) t (failed U e) before mid after a b c
    (below_first dir cleared back names n split) (below_next dir cleared back names n split) (λ ok. absurd (false≢true ok)) one at_name

-- before a name there was no memory for its path
pub clears_before : (T U : Type 0) (t : T) (dir : List (List ℕ)) (cleared back names : List (List ℕ)) (n : List ℕ) (before mid : ℕ) (a b : DiskState) → names ≡ cleared ++ n ∷ back → Rests b b
    → Clears (is_below_any dir cleared) (done T t) before mid a b → Clears (is_below_any dir names) (failed U OutOfMemory) before mid a b
clears_before T U t dir cleared back names n before mid a b split rests one =
    clears_stops T U t OutOfMemory dir (dir ++ n ∷ []) cleared back names n before mid mid a b b refl split one (clears_starved U (is_prefix (dir ++ n ∷ [])) mid b b rests)

pub folder_by_kind : (o : Option Told) (p : List (List ℕ)) (k : Option Kind) (kind : Kind) → k ≡ Some kind → kind ≡ Dir → IfSome o (λ d. k ≡ kind_of (d.places p).node)
    → IfSome o (λ d. (d.places p).node ≡ Some folder)
folder_by_kind None p k kind one two is = tt
folder_by_kind (Some d) p k kind one two is = folder_of_kind (d.places p).node (cc)

pub absent_by_kind : (o : Option Told) (p : List (List ℕ)) (k : Option Kind) → k ≡ None → IfSome o (λ d. k ≡ kind_of (d.places p).node) → IfSome o (λ d. None ≡ kind_of (d.places p).node)
absent_by_kind None p k one is = tt
absent_by_kind (Some d) p k one is = sym one ∙ is

pub told_moved : (P : Told → Type 0) (x y : Option Told) → y ≡ x → IfSome x P → IfSome y P
told_moved P x y same is = subst (λ o. IfSome o P) (sym same) is

pub proper_is : (p q : List (List ℕ)) → is_proper_prefix p q ≡ true → is_prefix p q ≡ true
proper_is p q proper = (and_parts (is_prefix p q) (not (is_prefix q p)) proper).0

pub split_at_index : (xs : List (List ℕ)) (i : ℕ) (x : List ℕ) → i < length xs → x ≡ get_or xs i x → xs ≡ take i xs ++ x ∷ drop (suc i) xs
split_at_index xs i x inside is =
    sym (take-append-drop i xs) ∙ ap (λ l. take i xs ++ l) (drop-cons xs i x inside ∙ ap (λ y. y ∷ drop (suc i) xs) (sym is))

pub one_more : (xs : List (List ℕ)) (i : ℕ) (x : List ℕ) → i < length xs → x ≡ get_or xs i x → take (i + 1) xs ≡ take i xs ++ x ∷ []
one_more xs i x inside is = ap (λ n. take n xs) (add-one i) ∙ take-suc xs i x inside ∙ ap (λ y. take i xs ++ y ∷ []) (sym is)
