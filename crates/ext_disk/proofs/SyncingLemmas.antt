-- The names that are synced in a folder of a disk in memory: those that are not synced, found among the entries from the
-- folder on, up to the first one that is not below it.
use Rattle.std.proofs.Common.{◌≡◌, ℕ, Bool, true, false, not, cond, ◌&&◌, ◌||◌, List, [], ◌∷◌, ◌++◌, Option, Some, None, refl, sym, ap, ◌∙◌, subst, inl, inr, IsSome, ◌≢◌, append-nil, append_assoc}
use Rattle.std.proofs.lemmas.Bool.{false≢true, true≢false, and_parts}
use Rattle.std.proofs.lemmas.Map.Keys.{sorted_head, sorted_tail}
use Rattle.std.specs.BTreeMap.{is_at, get, WritesThrough}
use Rattle.std.specs.BTreeMap.Range.{range_contains, entries_between}
use Rattle.std.specs.Map.{lookup, keys_of}
use Rattle.std.specs.List.{AllByRecursion, list_any}
use Rattle.std.specs.List.Sorted.{IsStrictlySortedBy}
use Rattle.std.specs.Option.{is_some}
use Rattle.std.specs.declared.cmp.Ordering.{Ordering}
use Rattle.std.specs.declared.cmp.Ordering.TheVariants.{Less, Equal, Greater}
use Rattle.std.specs.declared.ops.Bound.TheVariants.{Included, Unbounded}
use Rattle.std.specs.Ordering.{is_gt, is_le, eq_by_cmp, ordering_then}
use Rattle.ext_text.specs.Name.{bytes_cmp}
use Rattle.ext_text.specs.Path.{path_cmp, is_prefix}
use Rattle.ext_text.proofs.ForCallers.{is_equal, same_path, tied_path, convex}
use Rattle.ext_disk.specs.Disk.{Place, Places, Swing, root_place, is_synced}
use Rattle.ext_disk.specs.Calls.{put, is_child, synced, synced_in}
use Rattle.ext_disk.specs.DiskEntries.{DiskEntries, place_of, place_at, found_place, is_unsynced_in, is_unsynced}
use Rattle.ext_disk.specs.declared.disk_entry.DiskEntry.{DiskEntry}
use Rattle.ext_disk.proofs.Paths.{contrapose, child_prefix}
use Rattle.ext_disk.proofs.Growth.{tied_or}
use Rattle.ext_disk.proofs.ListingLemmas.{Entries, none_later}
use Rattle.ext_disk.proofs.DiskEntriesLemmas.{put_at, found_at, put_back, no_child_root}

-- the paths directly in the folder whose names are not synced, in the order of the entries
abbrev pub unsynced_of : List (List ℕ) → Entries → List (List (List ℕ))
unsynced_of dir [] = []
unsynced_of dir (e ∷ es) = cond (is_unsynced dir e.0 e.1) (e.0 ∷ unsynced_of dir es) (unsynced_of dir es)

and_false : (a : Bool) → (a && false) ≡ false
and_false true = refl
and_false false = refl

and_first : (a b : Bool) → a ≡ false → (a && b) ≡ false
and_first a b is = ap (λ x. x && b) is

-- one more entry, whose path is the one that is asked for or not, and which is one of them or not
any_turn : (q k : List (List ℕ)) (paths : List (List (List ℕ))) (tied unsynced rest : Bool) → eq_by_cmp path_cmp q k ≡ tied → list_any (eq_by_cmp path_cmp q) paths ≡ rest → (tied ≡ true → rest ≡ false)
    → list_any (eq_by_cmp path_cmp q) (cond unsynced (k ∷ paths) paths) ≡ cond tied unsynced rest
any_turn q k paths true true rest is more none = ap (λ b. b || list_any (eq_by_cmp path_cmp q) paths) is
any_turn q k paths true false rest is more none = more ∙ none refl
any_turn q k paths false true rest is more none = ap (λ b. b || list_any (eq_by_cmp path_cmp q) paths) is ∙ more
any_turn q k paths false false rest is more none = more

unsynced_turn : (dir q : List (List ℕ)) (e : List (List ℕ) × DiskEntry) (later : Option DiskEntry) (tied : Bool) → (tied ≡ true → q ≡ e.0)
    → cond tied (is_unsynced dir e.0 e.1) (is_child dir q && not (is_synced (found_place later))) ≡ (is_child dir q && not (is_synced (found_place (cond tied (Some e.1) later))))
unsynced_turn dir q e later true here = ap (λ k. is_child dir k && not (is_synced (place_of e.1))) (sym (here refl))
unsynced_turn dir q e later false here = refl

pub any_unsynced : (dir q : List (List ℕ)) (es : Entries) → IsStrictlySortedBy path_cmp (keys_of es)
    → list_any (eq_by_cmp path_cmp q) (unsynced_of dir es) ≡ (is_child dir q && not (is_synced (found_place (lookup (is_at (path_cmp q)) es))))
any_unsynced dir q [] sorted = sym (and_false (is_child dir q))
any_unsynced dir q (e ∷ es) sorted =
    let tied = eq_by_cmp path_cmp q e.0 in
    let later = lookup (is_at (path_cmp q)) es in
    any_turn q e.0 (unsynced_of dir es) tied (is_unsynced dir e.0 e.1) (is_child dir q && not (is_synced (found_place later))) refl (any_unsynced dir q es (sorted_tail path_cmp e.0 (keys_of es) sorted))
    (λ is.
    let none : later ≡ None = ap (λ k. lookup (is_at (path_cmp k)) es) (same_path q e.0 is) ∙ none_later e.0 es (sorted_head path_cmp e.0 (keys_of es) sorted) in
    ap (λ o. is_child dir q && not (is_synced (found_place o))) none ∙ and_false (is_child dir q))
    ∙ unsynced_turn dir q e later tied (λ is. same_path q e.0 is)

low_from_le : (r : Ordering) → is_le r ≡ true → is_gt r ≡ false
low_from_le Less is = refl
low_from_le Equal is = refl
low_from_le Greater is = absurd (false≢true is)

le_from_low : (r : Ordering) → is_gt r ≡ false → is_le r ≡ true
le_from_low Less is = refl
le_from_low Equal is = refl
le_from_low Greater is = absurd (true≢false is)

-- no path comes before its prefix
prefix_low : (p q : List (List ℕ)) → is_prefix p q ≡ true → is_gt (path_cmp p q) ≡ false
prefix_low [] [] prefix = refl
prefix_low [] (m ∷ q) prefix = refl
prefix_low (n ∷ p) [] prefix = absurd (false≢true prefix)
prefix_low (n ∷ p) (m ∷ q) prefix =
    let parts = and_parts (eq_by_cmp bytes_cmp n m) (is_prefix p q) prefix in
    ap (λ r. is_gt (ordering_then r (path_cmp p q))) (is_equal _ parts.0) ∙ prefix_low p q parts.1

-- the entries from the folder on
abbrev pub disk_entries_from : List (List ℕ) → Entries → Entries
disk_entries_from dir es = entries_between path_cmp (Included dir) Unbounded es

abbrev is_from : List (List ℕ) → List (List ℕ) → Bool
is_from dir q = range_contains path_cmp (Included dir) Unbounded q

from_low : (dir q : List (List ℕ)) → is_from dir q ≡ true → is_gt (path_cmp dir q) ≡ false
from_low dir q is = low_from_le (path_cmp dir q) (and_parts (is_le (path_cmp dir q)) true is).0

child_from : (dir q : List (List ℕ)) → is_child dir q ≡ true → is_from dir q ≡ true
child_from dir q child = ap (λ b. b && true) (le_from_low (path_cmp dir q) (prefix_low dir q (child_prefix dir q child)))

filtered_turn : (dir : List (List ℕ)) (e : List (List ℕ) × DiskEntry) (t : Bool) (rest es : Entries) → (is_unsynced dir e.0 e.1 ≡ true → t ≡ true) → unsynced_of dir rest ≡ unsynced_of dir es
    → unsynced_of dir (cond t (e ∷ rest) rest) ≡ unsynced_of dir (e ∷ es)
filtered_turn dir e true rest es kept more = ap (λ l. cond (is_unsynced dir e.0 e.1) (e.0 ∷ l) l) more
filtered_turn dir e false rest es kept more = more ∙ ap (λ o. cond o (e.0 ∷ unsynced_of dir es) (unsynced_of dir es)) (sym (contrapose _ _ kept refl))

pub unsynced_from : (dir : List (List ℕ)) (es : Entries) → unsynced_of dir (disk_entries_from dir es) ≡ unsynced_of dir es
unsynced_from dir [] = refl
unsynced_from dir (e ∷ es) =
    filtered_turn dir e (is_from dir e.0) (disk_entries_from dir es) es
    (λ unsynced. child_from dir e.0 (and_parts (is_child dir e.0) (not (is_synced (place_of e.1))) unsynced).0) (unsynced_from dir es)

all_turn : (P : List (List ℕ) → Type 0) (t : Bool) (e : List (List ℕ) × DiskEntry) (rest : Entries) → (t ≡ true → P e.0) → AllByRecursion P (keys_of rest) → AllByRecursion P (keys_of (cond t (e ∷ rest) rest))
all_turn P true e rest here more = (here refl, more)
all_turn P false e rest here more = more

pub all_low : (dir : List (List ℕ)) (es : Entries) → AllByRecursion (λ k. is_gt (path_cmp dir k) ≡ false) (keys_of (disk_entries_from dir es))
all_low dir [] = tt
all_low dir (e ∷ es) = all_turn (λ k. is_gt (path_cmp dir k) ≡ false) (is_from dir e.0) e (disk_entries_from dir es) (λ is. from_low dir e.0 is) (all_low dir es)

less_from : (dir k : List (List ℕ)) (es : Entries) → AllByRecursion (λ y. path_cmp k y ≡ Less) (keys_of es) → AllByRecursion (λ y. path_cmp k y ≡ Less) (keys_of (disk_entries_from dir es))
less_from dir k [] less = tt
less_from dir k (e ∷ es) less = all_turn (λ y. path_cmp k y ≡ Less) (is_from dir e.0) e (disk_entries_from dir es) (λ is. less.0) (less_from dir k es less.1)

sorted_turn : (t : Bool) (e : List (List ℕ) × DiskEntry) (rest : Entries) → AllByRecursion (λ y. path_cmp e.0 y ≡ Less) (keys_of rest) → IsStrictlySortedBy path_cmp (keys_of rest)
    → IsStrictlySortedBy path_cmp (keys_of (cond t (e ∷ rest) rest))
unfolding IsStrictlySortedBy
sorted_turn true e rest less sorted = (less, sorted)
sorted_turn false e rest less sorted = sorted

pub sorted_from : (dir : List (List ℕ)) (es : Entries) → IsStrictlySortedBy path_cmp (keys_of es) → IsStrictlySortedBy path_cmp (keys_of (disk_entries_from dir es))
unfolding IsStrictlySortedBy
sorted_from dir [] sorted = tt
sorted_from dir (e ∷ es) sorted = sorted_turn (is_from dir e.0) e (disk_entries_from dir es) (less_from dir e.0 es sorted.0) (sorted_from dir es sorted.1)

all_past : (dir p : List (List ℕ)) (ks : List (List (List ℕ))) → is_prefix dir p ≡ false → is_gt (path_cmp dir p) ≡ false → AllByRecursion (λ y. path_cmp p y ≡ Less) ks
    → AllByRecursion (λ k. is_child dir k ≡ false) ks
all_past dir p [] out low less = tt
all_past dir p (k ∷ ks) out low less =
    (contrapose _ _ (λ child. convex dir p k low (ap is_gt less.0) (child_prefix dir k child)) out, all_past dir p ks out low less.1)

none_unsynced : (dir : List (List ℕ)) (es : Entries) → AllByRecursion (λ k. is_child dir k ≡ false) (keys_of es) → unsynced_of dir es ≡ []
none_unsynced dir [] none = refl
none_unsynced dir (e ∷ es) none =
    ap (λ b. cond (b && not (is_synced (place_of e.1))) (e.0 ∷ unsynced_of dir es) (unsynced_of dir es)) none.0 ∙ none_unsynced dir es none.1

pub unsynced_past : (dir : List (List ℕ)) (left : Entries) (e : List (List ℕ) × DiskEntry) (es : Entries) → left ≡ e ∷ es → is_prefix dir e.0 ≡ false
    → AllByRecursion (λ k. is_gt (path_cmp dir k) ≡ false) (keys_of left) → IsStrictlySortedBy path_cmp (keys_of left) → unsynced_of dir left ≡ []
unsynced_past dir left e es is out low sorted =
    let low_here = (subst (λ l. AllByRecursion (λ k. is_gt (path_cmp dir k) ≡ false) (keys_of l)) is low).0 in
    let sorted_here = subst (λ l. IsStrictlySortedBy path_cmp (keys_of l)) is sorted in
    ap (unsynced_of dir) is
    ∙ none_unsynced dir (e ∷ es) (contrapose _ _ (child_prefix dir e.0) out, all_past dir e.0 (keys_of es) out low_here (sorted_head path_cmp e.0 (keys_of es) sorted_here))

-- what is left of the entries, and the paths so far
pub record IsUnsyncedSoFar (dir : List (List ℕ)) (disk_entries : DiskEntries) (unsynced : List (List (List ℕ))) (left : Entries) : Type 0 where
  pub so_far : unsynced ++ unsynced_of dir left ≡ unsynced_of dir disk_entries.entries
  pub sorted : IsStrictlySortedBy path_cmp (keys_of left)
  pub low : AllByRecursion (λ k. is_gt (path_cmp dir k) ≡ false) (keys_of left)

pub unsynced_first : (dir : List (List ℕ)) (disk_entries : DiskEntries) (unsynced : List (List (List ℕ))) (left : Entries) → unsynced ≡ [] → left ≡ disk_entries_from dir disk_entries.entries → IsStrictlySortedBy path_cmp (keys_of disk_entries.entries)
    → IsUnsyncedSoFar dir disk_entries unsynced left
unsynced_first dir disk_entries unsynced left none is sorted = subst (IsUnsyncedSoFar dir disk_entries unsynced) (sym is) (record {
  so_far = ap (λ l. l ++ unsynced_of dir (disk_entries_from dir disk_entries.entries)) none ∙ unsynced_from dir disk_entries.entries;
  sorted = sorted_from dir disk_entries.entries sorted;
  low = all_low dir disk_entries.entries;
})

gathered_turn : (unsynced : List (List (List ℕ))) (p : List (List ℕ)) (rest : List (List (List ℕ))) (b : Bool) → (unsynced ++ cond b (p ∷ []) []) ++ rest ≡ unsynced ++ cond b (p ∷ rest) rest
gathered_turn unsynced p rest true = append_assoc unsynced (p ∷ []) rest
gathered_turn unsynced p rest false = append_assoc unsynced [] rest

pub unsynced_next : (dir : List (List ℕ)) (disk_entries : DiskEntries) (unsynced more : List (List (List ℕ))) (left : Entries) (e : List (List ℕ) × DiskEntry) (es : Entries) → IsUnsyncedSoFar dir disk_entries unsynced left → left ≡ e ∷ es
    → more ≡ unsynced ++ cond (is_unsynced dir e.0 e.1) (e.0 ∷ []) [] → IsUnsyncedSoFar dir disk_entries more es
unsynced_next dir disk_entries unsynced more left e es so_far is more_is =
    let here = subst (IsUnsyncedSoFar dir disk_entries unsynced) is so_far in
    record {
      so_far = ap (λ l. l ++ unsynced_of dir es) more_is ∙ gathered_turn unsynced e.0 (unsynced_of dir es) (is_unsynced dir e.0 e.1) ∙ here.so_far;
      sorted = sorted_tail path_cmp e.0 (keys_of es) here.sorted;
      low = here.low.1;
    }

unsynced_at : (disk_entries : DiskEntries) (dir q : List (List ℕ)) → (is_child dir q && not (is_synced (found_place (lookup (is_at (path_cmp q)) disk_entries.entries)))) ≡ is_unsynced_in dir (place_at disk_entries) q
unsynced_at disk_entries dir [] =
    and_first (is_child dir []) _ (no_child_root dir) ∙ sym (and_first (is_child dir []) _ (no_child_root dir))
unsynced_at disk_entries dir (n ∷ q) = refl

-- where none is left that is to be synced, they are all of them
pub unsynced_all : (dir : List (List ℕ)) (disk_entries : DiskEntries) (unsynced : List (List (List ℕ))) (left : Entries) → IsUnsyncedSoFar dir disk_entries unsynced left → unsynced_of dir left ≡ [] → IsStrictlySortedBy path_cmp (keys_of disk_entries.entries)
    → (q : List (List ℕ)) → list_any (eq_by_cmp path_cmp q) unsynced ≡ is_unsynced_in dir (place_at disk_entries) q
unsynced_all dir disk_entries unsynced left so_far none sorted q =
    let whole : unsynced ≡ unsynced_of dir disk_entries.entries = sym (append-nil unsynced) ∙ ap (λ l. unsynced ++ l) (sym none) ∙ so_far.so_far in
    ap (list_any (eq_by_cmp path_cmp q)) whole ∙ any_unsynced dir q disk_entries.entries sorted ∙ unsynced_at disk_entries dir q

abbrev is_root : List (List ℕ) → Bool
is_root [] = true
is_root (k ∷ p) = false

no_root : (k : List ℕ) (p : List (List ℕ)) → k ∷ p ≢ []
no_root k p same = false≢true (ap is_root same)

-- the entry at a path was synced
pub sync_some : (m n : DiskEntries) (p : List (List ℕ)) (old new : DiskEntry) → Some old ≡ get path_cmp m p → WritesThrough path_cmp (path_cmp p) m new n → place_of new ≡ synced (place_of old)
    → (q : List (List ℕ)) → place_at n q ≡ put p (synced (place_at m p)) (place_at m) q
sync_some m n [] old new is writes syncs [] = refl
sync_some m n [] old new is writes syncs (l ∷ q) = ap found_place ((writes.3 (subst IsSome is refl)).0 (l ∷ q))
sync_some m n (k ∷ p) old new is writes syncs q =
    put_at m n (k ∷ p) new (no_root k p) (writes.3 (subst IsSome is refl)).0 q
    ∙ ap (λ x. put (k ∷ p) x (place_at m) q) (syncs ∙ ap synced (sym (found_at m (k ∷ p) old (no_root k p) (sym is))))

-- a path without a entry has nothing to sync
pub sync_none : (m : DiskEntries) (p : List (List ℕ)) → get path_cmp m p ≡ None → (q : List (List ℕ)) → place_at m q ≡ put p (synced (place_at m p)) (place_at m) q
sync_none m [] none q = sym (put_back [] (synced root_place) (place_at m) refl q)
sync_none m (k ∷ p) none q =
    sym (put_back (k ∷ p) (synced (place_at m (k ∷ p))) (place_at m) (subst (λ o. synced (found_place o) ≡ found_place o) (sym none) refl) q)

put_synced : (p q : List (List ℕ)) (e : Places) → put p (synced (e p)) e q ≡ cond (eq_by_cmp path_cmp q p) (synced (e q)) (e q)
put_synced p q e = elim (tied_or (eq_by_cmp path_cmp p q)) [
  | inl tied ↦
      let same = same_path p q tied in
      ap (λ b. cond b (synced (e p)) (e q)) tied ∙ ap (λ r. synced (e r)) same ∙ ap (λ b. cond b (synced (e q)) (e q)) (sym (tied_path q p (sym same)))
  | inr apart ↦
      let other = contrapose (eq_by_cmp path_cmp q p) (eq_by_cmp path_cmp p q) (λ tied. tied_path p q (sym (same_path q p tied))) apart in
      ap (λ b. cond b (synced (e p)) (e q)) apart ∙ ap (λ b. cond b (synced (e q)) (e q)) (sym other)
]

synced_of : (x : Place) (unsynced_name : Bool) (unsynced_rename : Option Swing) → x.unsynced_name ≡ unsynced_name → x.unsynced_rename ≡ unsynced_rename → (not unsynced_name && not (is_some unsynced_rename)) ≡ true → synced x ≡ x
synced_of x true unsynced_rename unsynced_name_is unsynced_rename_is is = absurd (false≢true is)
synced_of x false (Some w) unsynced_name_is unsynced_rename_is is = absurd (false≢true is)
synced_of x false None unsynced_name_is unsynced_rename_is is = λ i. record x { unsynced_name = sym unsynced_name_is i; unsynced_rename = sym unsynced_rename_is i }

-- a place that is synced stays as it is
synced_same : (x : Place) → is_synced x ≡ true → synced x ≡ x
synced_same x is = synced_of x x.unsynced_name x.unsynced_rename refl refl is

both_synced : (here before : Bool) (x : Place) → cond here (synced (cond before (synced x) x)) (cond before (synced x) x) ≡ cond (before || here) (synced x) x
both_synced true true x = refl
both_synced true false x = refl
both_synced false true x = refl
both_synced false false x = refl

or_false : (b : Bool) → (b || false) ≡ b
or_false true = refl
or_false false = refl

or_again : (a b c : Bool) → (a || (b || c)) ≡ ((a || b) || c)
or_again true b c = refl
or_again false b c = refl

any_push : (q : List (List ℕ)) (paths : List (List (List ℕ))) (p : List (List ℕ)) → list_any (eq_by_cmp path_cmp q) (paths ++ p ∷ []) ≡ (list_any (eq_by_cmp path_cmp q) paths || eq_by_cmp path_cmp q p)
any_push q [] p = or_false (eq_by_cmp path_cmp q p)
any_push q (x ∷ paths) p =
    ap (λ b. eq_by_cmp path_cmp q x || b) (any_push q paths p)
    ∙ or_again (eq_by_cmp path_cmp q x) (list_any (eq_by_cmp path_cmp q) paths) (eq_by_cmp path_cmp q p)

synced_where : (child : Bool) (x : Place) (is : Bool) → is_synced x ≡ is → cond (child && not (is_synced x)) (synced x) x ≡ cond child (synced x) x
synced_where true x true same = ap (λ b. cond (not b) (synced x) x) same ∙ sym (synced_same x same)
synced_where true x false same = ap (λ b. cond (not b) (synced x) x) same
synced_where false x is same = refl

-- one more path was synced
pub sync_next : (d e f : Places) (paths more : List (List (List ℕ))) (p : List (List ℕ)) → ((q : List (List ℕ)) → e q ≡ cond (list_any (eq_by_cmp path_cmp q) paths) (synced (d q)) (d q))
    → ((q : List (List ℕ)) → f q ≡ put p (synced (e p)) e q) → more ≡ paths ++ p ∷ []
    → (q : List (List ℕ)) → f q ≡ cond (list_any (eq_by_cmp path_cmp q) more) (synced (d q)) (d q)
sync_next d e f paths more p so_far here is q =
    here q ∙ put_synced p q e ∙ ap (λ x. cond (eq_by_cmp path_cmp q p) (synced x) x) (so_far q)
    ∙ both_synced (eq_by_cmp path_cmp q p) (list_any (eq_by_cmp path_cmp q) paths) (d q)
    ∙ ap (λ b. cond b (synced (d q)) (d q)) (sym (ap (list_any (eq_by_cmp path_cmp q)) is ∙ any_push q paths p))

-- those that were to be synced are synced, and so the folder is
pub synced_all : (d e : Places) (dir : List (List ℕ)) (paths : List (List (List ℕ))) → ((q : List (List ℕ)) → list_any (eq_by_cmp path_cmp q) paths ≡ is_unsynced_in dir d q)
    → ((q : List (List ℕ)) → e q ≡ cond (list_any (eq_by_cmp path_cmp q) paths) (synced (d q)) (d q)) → (q : List (List ℕ)) → e q ≡ synced_in dir d q
synced_all d e dir paths unsynced each q =
    each q ∙ ap (λ b. cond b (synced (d q)) (d q)) (unsynced q) ∙ synced_where (is_child dir q) (d q) (is_synced (d q)) refl
