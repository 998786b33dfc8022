-- The files that a host keeps: which they are, and how a search finds those of a stamp.
use Rattle.std.proofs.Common.{◌≡◌, ◌≢◌, ◌⊎◌, ℕ, zero, suc, ◌+◌, ◌<◌, ◌≤◌, Bool, true, false, cond, not, eqb, ◌&&◌, List, [], ◌∷◌, ◌++◌, length, take, drop, get_or, Some, if◌then◌else◌, refl, sym, ap, ◌∙◌, subst, inl, inr, arith, append_assoc}
use Rattle.std.specs.Cmp.{IsEquivalence, IsTotalOrder, tied_then, unsigned_ties}
use Rattle.std.specs.Cmp.Lexicographic.{pointwise, slice_cmp, texts_ties}
use Rattle.std.specs.List.{AllByRecursion, AllWithin, Contains, dedup, filter, flat_map}
use Rattle.std.specs.List.Sorted.{IsPartitionedBy, IsPartitionPoint, IsPermutation, IsSorted, IsStrictlySortedBy}
use Rattle.std.specs.Ordering.{nat_cmp, ordering_then, ordering_reverse, is_eq, is_lt, eq_by_cmp}
use Rattle.std.specs.declared.cmp.Ordering.{Ordering}
use Rattle.std.specs.declared.cmp.Ordering.TheVariants.{Less, Equal, Greater}
use Rattle.std.specs.Option.{is_some}
use Rattle.std.proofs.lemmas.Bool.{false≢true, and_parts, cond-false, eqb-true, not-true}
use Rattle.std.proofs.lemmas.Grind.{flat_map-append}
use Rattle.std.proofs.lemmas.List.{append-nil, take_more}
use Rattle.std.proofs.lemmas.Option.{slice_get_read}
use Rattle.std.proofs.lemmas.Cmp.{on_total, then_total, lists_total, nat_cmp_total, alike_right, eq_by_cmp_equiv, tied_back}
use Rattle.std.proofs.lemmas.List.Kept.{Contains-dedup, Contains-from_dedup, IsStrictlySortedBy-dedup}
use Rattle.std.proofs.lemmas.List.Elements.{Contains-append_cases, Contains-append_left, Contains-append_right, All-contains, All-from_recursion}
use Rattle.std.proofs.lemmas.List.Sorted.{Contains-permutation, IsPermutation-sym}
use Rattle.ext_attributes.specs.Attributes.{OfFile}
use Rattle.ext_text.specs.Order.{paths_total}
use Rattle.ext_text.specs.Path.{path_cmp}
use Rattle.ext_text.proofs.ForCallers.{is_equal, is_less}
use Rattle.ext_tree.specs.Tree.{Entries, IsTree, lookup}
use Rattle.ext_tree.specs.declared.entry.Entry.{Entry}
use Rattle.ext_tree.specs.declared.entry.Entry.TheVariants.{Dir, Opaque, File, Link, Hide}
use Rattle.ext_tree.specs.declared.stamp.Stamp.{Stamp}
use Rattle.ext_tree.proofs.ForCallers.{find_there}
use Rattle.ext_host.specs.Drawn.{HasFile}
use Rattle.ext_host.specs.Held.{HeldFile}
use Rattle.ext_host.specs.declared.body.Body.{Body}
use Rattle.ext_host.specs.declared.body.Body.TheVariants.{Here, Kept, Depot}
use Rattle.ext_host.specs.declared.home.Home.{Home}
use Rattle.ext_host.specs.declared.past.Past.{Past}
use Rattle.ext_homes.specs.Placed.{home_cmp}
use Rattle.ext_homes.specs.KeptFiles.{AreInOrder, AreKept, HaveSame, past_trees, body_kept, entry_kept, file_stamp, has_stamp, home_key_cmp, home_of, is_before, kept_cmp, kept_file, stamp_key_cmp, tree_kept, trees_kept}
use Rattle.ext_homes.specs.declared.kept_files.HomeKey.{HomeKey}
use Rattle.ext_homes.specs.declared.kept_files.KeptFile.{KeptFile}
use Rattle.ext_homes.specs.declared.kept_files.StampKey.{StampKey}

pub contains_here : {X : Type 0} (x : X) (xs : List X) → Contains (x ∷ xs) x
contains_here x xs = (zero, omega arith, refl)

pub contains_later : {X : Type 0} (x y : X) (xs : List X) → Contains xs y → Contains (x ∷ xs) y
contains_later x y xs (k, lt, is) = (suc k, omega arith, is)

-- what is in the joined lists is in one of them
in_flat : {X A : Type 0} (f : X → List A) (xs : List X) (a : A) → Contains (flat_map f xs) a → (x : X) × Contains xs x × Contains (f x) a
in_flat f [] a (k, lt, is) = absurd (omega arith)
in_flat f (x ∷ xs) a among = elim (Contains-append_cases (f x) (flat_map f xs) a among) [
  | inl here ↦ (x, contains_here x xs, here)
  | inr later ↦ let rest = in_flat f xs a later in (rest.0, contains_later x rest.0 xs rest.1, rest.2)
]

-- and what is in one of them is in the joined lists
flat_in : {X A : Type 0} (f : X → List A) (xs : List X) (x : X) (a : A) → Contains xs x → Contains (f x) a → Contains (flat_map f xs) a
flat_in f [] x a (k, lt, is) inside = absurd (omega arith)
flat_in f (y ∷ xs) x a (zero, lt, is) inside = Contains-append_left (f y) (flat_map f xs) a (subst (λ z. Contains (f z) a) (sym is) inside)
flat_in f (y ∷ xs) x a (suc k, lt, is) inside = Contains-append_right (f y) (flat_map f xs) a (flat_in f xs x a (k, omega arith, is) inside)

-- an entry is looked up by its path
looked_up : (es : Entries HeldFile) (e : List (List ℕ) × Entry HeldFile) → IsTree es → Contains es e → lookup es e.0 ≡ Some e.1
looked_up es e tree (k, lt, is) = find_there path_cmp paths_total es k e tree.sorted (slice_get_read es (length es) k e refl lt (sym is))

-- and what is looked up is an entry
some_entry : (es : Entries HeldFile) (p : List (List ℕ)) (e : Entry HeldFile) → lookup es p ≡ Some e → (q : List (List ℕ)) × Contains es (q, e)
some_entry [] p e found = absurd (false≢true (ap is_some found))
some_entry (x ∷ es) p e found =
    elim (eq_by_cmp path_cmp p x.0) as (λ b. cond b (Some x.1) (lookup es p) ≡ Some e → (q : List (List ℕ)) × Contains (x ∷ es) (q, e)) [
      | true ↦ λ here. let same : x.1 ≡ e = cc in (x.0, subst (λ y. Contains (x ∷ es) (x.0, y)) same (contains_here x es))
      | false ↦ λ later. let rest = some_entry es p e later in (rest.0, contains_later x (rest.0, e) es rest.1)
    ] found

abbrev as_held : Stamp → Body → HeldFile
as_held stamp body = record { stamp = stamp; body = body }

only_one : (f g : KeptFile) → Contains (g ∷ []) f → g ≡ f
only_one f g (zero, lt, is) = is
only_one f g (suc k, lt, is) = absurd (omega arith)

-- the file of a kept body that is listed
one_sought : (b : Bool) (f g : KeptFile) → Contains (if b then g ∷ [] else []) f → g ≡ f
one_sought true f g among = only_one f g among
one_sought false f g (k, lt, is) = absurd (omega arith)

body_is : (sought : Stamp → Bool) (stamp : Stamp) (body : Body) (f : KeptFile) → Contains (body_kept sought stamp body) f → as_held stamp body ≡ as_held (file_stamp f) (Kept (home_of f))
body_is sought stamp (Here bytes) f (k, lt, is) = absurd (omega arith)
body_is sought stamp (Kept home) f among = ap (λ (g : KeptFile). as_held (file_stamp g) (Kept (home_of g))) (one_sought (sought stamp) f (kept_file stamp home) among)
body_is sought stamp (Depot path) f (k, lt, is) = absurd (omega arith)

-- a file of the list is one of an entry
entry_is : (sought : Stamp → Bool) (e : Entry HeldFile) (f : KeptFile) → Contains (entry_kept sought e) f → (attributes : OfFile) × (e ≡ File attributes (as_held (file_stamp f) (Kept (home_of f))))
entry_is sought (Dir attributes) f (k, lt, is) = absurd (omega arith)
entry_is sought (Opaque attributes) f (k, lt, is) = absurd (omega arith)
entry_is sought (File attributes held) f among = (attributes, ap (λ (h : HeldFile). File attributes h) (body_is sought held.stamp held.body f among))
entry_is sought (Link owner target) f (k, lt, is) = absurd (omega arith)
entry_is sought Hide f (k, lt, is) = absurd (omega arith)

-- the files that a tree keeps
of_tree : (sought : Stamp → Bool) (es : Entries HeldFile) (f : KeptFile) → IsTree es → Contains (tree_kept sought es) f → HasFile es (as_held (file_stamp f) (Kept (home_of f)))
of_tree sought es f tree among =
    let at = in_flat (λ (e : List (List ℕ) × Entry HeldFile). entry_kept sought e.1) es f among in
    let is = entry_is sought at.0.1 f at.2 in
    record { path = at.0.0; attributes = is.0; stands = looked_up es at.0 tree at.1 ∙ ap Some is.1 }

in_tree : (sought : Stamp → Bool) (es : Entries HeldFile) (stamp : Stamp) (home : Home) → sought stamp ≡ true → HasFile es (as_held stamp (Kept home)) → Contains (tree_kept sought es) (kept_file stamp home)
in_tree sought es stamp home is file =
    let at = some_entry es file.path (File file.attributes (as_held stamp (Kept home))) file.stands in
    let here : Contains (body_kept sought stamp (Kept home)) (kept_file stamp home) = subst (λ b. Contains (if b then kept_file stamp home ∷ [] else []) (kept_file stamp home)) (sym is) (contains_here (kept_file stamp home) []) in
    flat_in (λ (e : List (List ℕ) × Entry HeldFile). entry_kept sought e.1) es (at.0, File file.attributes (as_held stamp (Kept home))) (kept_file stamp home) at.1 here

-- the files that trees keep, in any order
pub kept_by_trees : (sought : Stamp → Bool) (trees : List (Entries HeldFile)) (files : List KeptFile) → AllByRecursion (λ es. IsTree es) trees → HaveSame (trees_kept sought trees) files → AreKept trees sought files
kept_by_trees sought trees files are same = record {
  each = λ stamp home among.
      let at = in_flat (tree_kept sought) trees (kept_file stamp home) ((same (kept_file stamp home)).1 among) in
      record { tree = at.0; among = at.1; file = of_tree sought at.0 (kept_file stamp home) (All-contains (λ es. IsTree es) trees at.0 (All-from_recursion (λ es. IsTree es) trees are) at.1) at.2 };
  all = λ stamp home wanted file.
      (same (kept_file stamp home)).0 (flat_in (tree_kept sought) trees file.tree (kept_file stamp home) file.among (in_tree sought file.tree stamp home wanted file.file));
}

-- lists of the same files
pub have_itself : (xs : List KeptFile) → HaveSame xs xs
have_itself xs f = (λ among. among, λ among. among)

pub have_then : (xs ys zs : List KeptFile) → HaveSame xs ys → HaveSame ys zs → HaveSame xs zs
have_then xs ys zs one two f = (λ among. (two f).0 ((one f).0 among), λ among. (one f).1 ((two f).1 among))

pub have_more : (xs ys zs : List KeptFile) → HaveSame xs ys → HaveSame (xs ++ zs) (ys ++ zs)
have_more xs ys zs same f = (joined xs ys (λ among. (same f).0 among), joined ys xs (λ among. (same f).1 among))
  where
    joined : (us vs : List KeptFile) → (Contains us f → Contains vs f) → Contains (us ++ zs) f → Contains (vs ++ zs) f
    joined us vs moves among = elim (Contains-append_cases us zs f among) [
      | inl first ↦ Contains-append_left vs zs f (moves first)
      | inr second ↦ Contains-append_right vs zs f second
    ]

-- so they are where two lists are added one after another
pub have_two : (start xs rs ls one two three : List KeptFile) → HaveSame (start ++ xs) one → HaveSame (one ++ rs) two → HaveSame (two ++ ls) three → HaveSame (start ++ ((xs ++ rs) ++ ls)) three
have_two start xs rs ls one two three first second third =
    let joined : ((start ++ xs) ++ rs) ++ ls ≡ start ++ ((xs ++ rs) ++ ls) = ap (λ l. l ++ ls) (append_assoc start xs rs) ∙ append_assoc start (xs ++ rs) ls in
    subst (λ l. HaveSame l three) joined
    (have_then (((start ++ xs) ++ rs) ++ ls) (two ++ ls) three
    (have_more ((start ++ xs) ++ rs) two ls (have_then ((start ++ xs) ++ rs) (one ++ rs) two (have_more (start ++ xs) one rs first) second)) third)

-- those of one past tree more
pub past_more : (sought : Stamp → Bool) (past : List Past) (i : ℕ) (tree : Past) → i < length past → tree ≡ get_or past i tree
    → trees_kept sought (past_trees (take (i + 1) past)) ≡ (trees_kept sought (past_trees (take i past)) ++ tree_kept sought tree.root) ++ tree_kept sought tree.lower
past_more sought past i tree lt is =
    let p = get_or past i tree in
    let before = trees_kept sought (past_trees (take i past)) in
    ap (λ l. trees_kept sought (past_trees l)) (take_more past i tree lt)
    ∙ ap (trees_kept sought) (flat_map-append (λ (tree : Past). tree.root ∷ tree.lower ∷ []) (take i past) (p ∷ []))
    ∙ flat_map-append (tree_kept sought) (past_trees (take i past)) (past_trees (p ∷ []))
    ∙ ap (λ l. before ++ (tree_kept sought p.root ++ l)) (append-nil (tree_kept sought p.lower))
    ∙ sym (append_assoc before (tree_kept sought p.root) (tree_kept sought p.lower))
    ∙ ap (λ (q : Past). (before ++ tree_kept sought q.root) ++ tree_kept sought q.lower) (sym is)

all_joined : (xs ys : List (Entries HeldFile)) → AllByRecursion (λ es. IsTree es) xs → AllByRecursion (λ es. IsTree es) ys → AllByRecursion (λ es. IsTree es) (xs ++ ys)
all_joined [] ys first second = second
all_joined (x ∷ xs) ys first second = (first.0, all_joined xs ys first.1 second)

-- its trees are trees
pub past_are : (past : List Past) (i : ℕ) (tree : Past) → i < length past → tree ≡ get_or past i tree → AllByRecursion (λ es. IsTree es) (past_trees (take i past)) → IsTree tree.root → IsTree tree.lower
    → AllByRecursion (λ es. IsTree es) (past_trees (take (i + 1) past))
past_are past i tree lt is before root lower =
    let p = get_or past i tree in
    let trees : List (Entries HeldFile) → Type 0 = AllByRecursion (λ es. IsTree es) in
    let both : trees (p.root ∷ p.lower ∷ []) = subst (λ (q : Past). trees (q.root ∷ q.lower ∷ [])) is (root, (lower, tt)) in
    subst trees (sym (ap past_trees (take_more past i tree lt) ∙ flat_map-append (λ (q : Past). q.root ∷ q.lower ∷ []) (take i past) (p ∷ [])))
    (all_joined (past_trees (take i past)) (p.root ∷ p.lower ∷ []) before both)

-- those of all trees of a host
pub have_host : (start rs ls ps one two three : List KeptFile) → start ≡ [] → HaveSame (start ++ rs) one → HaveSame (one ++ ls) two → HaveSame (two ++ ps) three → HaveSame (rs ++ (ls ++ ps)) three
have_host start rs ls ps one two three none first second third =
    let begun : HaveSame rs one = subst (λ l. HaveSame (l ++ rs) one) none first in
    subst (λ l. HaveSame l three) (append_assoc rs ls ps)
    (have_then ((rs ++ ls) ++ ps) (two ++ ps) three (have_more (rs ++ ls) two ps (have_then (rs ++ ls) (one ++ ls) two (have_more rs one ls begun) second)) third)

pub stamps_total : IsTotalOrder stamp_key_cmp
stamps_total = then_total (on_total (λ (k : StampKey). k.size) nat_cmp_total) (on_total (λ (k : StampKey). k.digest) (lists_total nat_cmp_total))

homes_total : IsTotalOrder home_key_cmp
homes_total = then_total (on_total (λ (k : HomeKey). k.generation) nat_cmp_total) (on_total (λ (k : HomeKey). k.file) nat_cmp_total)

kept_total : IsTotalOrder kept_cmp
kept_total = then_total (on_total (λ (f : KeptFile). f.stamp) stamps_total) (on_total (λ (f : KeptFile). f.home) homes_total)

-- no file comes before one that stands before it
abbrev pub AreSorted : List KeptFile → Type 0
AreSorted [] = Unit {0}
AreSorted (f ∷ files) = AllByRecursion (λ g. is_lt (kept_cmp g f) ≡ false) files × AreSorted files

later_files : (f : KeptFile) (files : List KeptFile) → AllByRecursion (λ g. kept_cmp f g ≡ Less) files → AllByRecursion (λ g. is_lt (kept_cmp g f) ≡ false) files
later_files f [] all = tt
later_files f (g ∷ files) all = (ap is_lt (kept_total.antisymm g f ∙ ap ordering_reverse all.0), later_files f files all.1)

-- as a sort leaves them
pub sorted_files : (files : List KeptFile) → IsStrictlySortedBy kept_cmp files → AreSorted files
unfolding IsStrictlySortedBy
sorted_files [] order = tt
sorted_files (f ∷ files) order = (later_files f files order.0, sorted_files files order.1)

stamps_tied : (a b : StampKey) → (eqb a.size b.size && pointwise eqb a.digest b.digest) ≡ eq_by_cmp stamp_key_cmp a b
stamps_tied a b = (λ i. unsigned_ties a.size b.size i && texts_ties a.digest b.digest i) ∙ tied_then (nat_cmp a.size b.size) (slice_cmp nat_cmp a.digest b.digest)

homes_tied : (a b : HomeKey) → (eqb a.generation b.generation && eqb a.file b.file) ≡ eq_by_cmp home_key_cmp a b
homes_tied a b = (λ i. unsigned_ties a.generation b.generation i && unsigned_ties a.file b.file i) ∙ tied_then (nat_cmp a.generation b.generation) (nat_cmp a.file b.file)

-- whether two kept files are the same
abbrev same_file : KeptFile → KeptFile → Bool
same_file a b = (eqb a.stamp.size b.stamp.size && pointwise eqb a.stamp.digest b.stamp.digest) && (eqb a.home.generation b.home.generation && eqb a.home.file b.home.file)

files_tied : (a b : KeptFile) → same_file a b ≡ eq_by_cmp kept_cmp a b
files_tied a b = (λ i. stamps_tied a.stamp b.stamp i && homes_tied a.home b.home i) ∙ tied_then (stamp_key_cmp a.stamp b.stamp) (home_key_cmp a.home b.home)

equal_bytes : (xs ys : List ℕ) → pointwise eqb xs ys ≡ true → xs ≡ ys
equal_bytes [] [] same = refl
equal_bytes [] (y ∷ ys) same = absurd (false≢true same)
equal_bytes (x ∷ xs) [] same = absurd (false≢true same)
equal_bytes (x ∷ xs) (y ∷ ys) same =
    let parts = and_parts (eqb x y) (pointwise eqb xs ys) same in
    λ i. eqb-true x y parts.0 i ∷ equal_bytes xs ys parts.1 i

equal_files : (a b : KeptFile) → same_file a b ≡ true → a ≡ b
equal_files a b same =
    let both = and_parts (eqb a.stamp.size b.stamp.size && pointwise eqb a.stamp.digest b.stamp.digest) (eqb a.home.generation b.home.generation && eqb a.home.file b.home.file) same in
    let stamps = and_parts (eqb a.stamp.size b.stamp.size) (pointwise eqb a.stamp.digest b.stamp.digest) both.0 in
    let homes = and_parts (eqb a.home.generation b.home.generation) (eqb a.home.file b.home.file) both.1 in
    let digests = equal_bytes a.stamp.digest b.stamp.digest stamps.1 in
    λ i. record {
      stamp = record { size = eqb-true a.stamp.size b.stamp.size stamps.0 i; digest = digests i };
      home = record { generation = eqb-true a.home.generation b.home.generation homes.0 i; file = eqb-true a.home.file b.home.file homes.1 i };
    }

files_alike : IsEquivalence same_file
files_alike =
    let alike = eq_by_cmp_equiv kept_total in
    record {
      refl = λ a. files_tied a a ∙ alike.refl a;
      symm = λ a b. files_tied a b ∙ alike.symm a b ∙ sym (files_tied b a);
      congr = λ a b c same. files_tied a c ∙ alike.congr a b c (sym (files_tied a b) ∙ same) ∙ sym (files_tied b c);
    }

-- sorted, each file stands once
pub once_sorted : (files : List KeptFile) → IsSorted kept_cmp files → IsStrictlySortedBy kept_cmp (dedup same_file files)
once_sorted files order = IsStrictlySortedBy-dedup kept_total files_tied files order

pub once_same : (files sorted : List KeptFile) → IsPermutation files sorted → HaveSame files (dedup same_file sorted)
once_same files sorted moved f = (
  λ among. Contains-dedup files_alike equal_files sorted f (Contains-permutation files sorted f moved among),
  λ among. Contains-permutation sorted files f (IsPermutation-sym files sorted moved) (Contains-from_dedup same_file sorted f among),
)

-- of two files in their order, the stamp of the first is less or the same
not_after : (f g : KeptFile) → is_lt (kept_cmp g f) ≡ false → (stamp_key_cmp f.stamp g.stamp ≡ Less) ⊎ (stamp_key_cmp f.stamp g.stamp ≡ Equal)
not_after f g order = by_stamps (stamp_key_cmp g.stamp f.stamp) (stamps_total.antisymm f.stamp g.stamp) order
  where
    by_stamps : (o : Ordering) → stamp_key_cmp f.stamp g.stamp ≡ ordering_reverse o → is_lt (ordering_then o (home_key_cmp g.home f.home)) ≡ false → (stamp_key_cmp f.stamp g.stamp ≡ Less) ⊎ (stamp_key_cmp f.stamp g.stamp ≡ Equal)
    by_stamps Less is lt = absurd (false≢true (sym lt))
    by_stamps Equal is lt = inr is
    by_stamps Greater is lt = inl is

-- a test of stamps that the files before pass too, where those are of some kind
rising : (P : KeptFile → Bool) (Q : KeptFile → Type 0) → ((f g : KeptFile) → Q f → is_lt (kept_cmp g f) ≡ false → P g ≡ true → P f ≡ true)
    → (files : List KeptFile) → AllByRecursion Q files → AreSorted files → IsPartitionedBy P files
rising P Q down [] kind order i j d le lt pass = absurd (omega arith)
rising P Q down (f ∷ files) kind order zero zero d le lt pass = pass
rising P Q down (f ∷ files) kind order (suc i) zero d le lt pass = absurd (omega arith)
rising P Q down (f ∷ files) kind order zero (suc j) d le lt pass =
    down f (get_or files j d) kind.0 (All-from_recursion (λ g. is_lt (kept_cmp g f) ≡ false) files order.0 j d (omega arith)) pass
rising P Q down (f ∷ files) kind order (suc i) (suc j) d le lt pass = rising P Q down files kind.1 order.1 i j d (omega arith) (omega arith) pass

before_down : (key : StampKey) (f g : KeptFile) → Unit {0} → is_lt (kept_cmp g f) ≡ false → is_before key g ≡ true → is_before key f ≡ true
before_down key f g any order pass = elim (not_after f g order) [
  | inl less ↦ ap is_lt (stamps_total.trans f.stamp g.stamp key less (is_less (stamp_key_cmp g.stamp key) pass))
  | inr same ↦ ap is_lt (stamps_total.congr f.stamp g.stamp key same) ∙ pass
]

has_down : (key : StampKey) (f g : KeptFile) → is_before key f ≡ false → is_lt (kept_cmp g f) ≡ false → has_stamp key g ≡ true → has_stamp key f ≡ true
has_down key f g later order pass = elim (not_after f g order) [
  | inl less ↦ absurd (false≢true (sym later ∙ ap is_lt (sym (alike_right stamps_total g.stamp key f.stamp (is_equal (stamp_key_cmp g.stamp key) pass)) ∙ less)))
  | inr same ↦ ap is_eq (stamps_total.congr f.stamp g.stamp key same) ∙ pass
]

all_units : (files : List KeptFile) → AllByRecursion (λ f. Unit {0}) files
all_units [] = tt
all_units (f ∷ files) = (tt, all_units files)

pub before_partitions : (key : StampKey) (files : List KeptFile) → AreSorted files → IsPartitionedBy (is_before key) files
before_partitions key files order = rising (is_before key) (λ f. Unit {0}) (before_down key) files (all_units files) order

pub has_partitions : (key : StampKey) (files : List KeptFile) → AllByRecursion (λ f. is_before key f ≡ false) files → AreSorted files → IsPartitionedBy (has_stamp key) files
has_partitions key files later order = rising (has_stamp key) (λ f. is_before key f ≡ false) (has_down key) files later order

-- what holds of each holds of each that passes, and may use that it does
pub all_passing : (p : KeptFile → Bool) (P Q : KeptFile → Type 0) → ((f : KeptFile) → P f → p f ≡ true → Q f) → (files : List KeptFile) → AllByRecursion P files → AllByRecursion Q (filter p files)
all_passing p P Q gives [] all = tt
all_passing p P Q gives (f ∷ files) all =
    let rest = all_passing p P Q gives files all.1 in
    elim (p f) as (λ b. p f ≡ b → AllByRecursion Q (cond b (f ∷ filter p files) (filter p files))) [
      | true ↦ λ pass. (gives f all.0 pass, rest)
      | false ↦ λ fail. rest
    ] refl

pub sorted_passing : (p : KeptFile → Bool) (files : List KeptFile) → AreSorted files → AreSorted (filter p files)
sorted_passing p [] order = tt
sorted_passing p (f ∷ files) order =
    let rest = sorted_passing p files order.1 in
    elim (p f) as (λ b. AreSorted (cond b (f ∷ filter p files) (filter p files))) [
      | true ↦ (all_passing p (λ g. is_lt (kept_cmp g f) ≡ false) (λ g. is_lt (kept_cmp g f) ≡ false) (λ g is pass. is) files order.0, rest)
      | false ↦ rest
    ]

-- of one stamp the homes are in their order
same_stamp : (key : StampKey) (f g : KeptFile) → has_stamp key f ≡ true → has_stamp key g ≡ true → stamp_key_cmp g.stamp f.stamp ≡ Equal
same_stamp key f g one two =
    stamps_total.congr g.stamp key f.stamp (is_equal (stamp_key_cmp g.stamp key) two) ∙ tied_back stamps_total f.stamp key (is_equal (stamp_key_cmp f.stamp key) one)

by_homes : (key : StampKey) (f : KeptFile) → has_stamp key f ≡ true → (g : KeptFile) → is_lt (kept_cmp g f) ≡ false → has_stamp key g ≡ true → home_cmp (home_of g) (home_of f) ≢ Less
by_homes key f one g order two less =
    false≢true (sym order ∙ ap (λ o. is_lt (ordering_then o (home_key_cmp g.home f.home))) (same_stamp key f g one two) ∙ ap is_lt less)

pub homes_in_order : (key : StampKey) (files : List KeptFile) → AreSorted files → AreInOrder (filter (has_stamp key) files)
homes_in_order key [] order = tt
homes_in_order key (f ∷ files) order =
    let rest = homes_in_order key files order.1 in
    elim (has_stamp key f) as (λ b. has_stamp key f ≡ b → AreInOrder (cond b (f ∷ filter (has_stamp key) files) (filter (has_stamp key) files))) [
      | true ↦ λ pass. (all_passing (has_stamp key) (λ g. is_lt (kept_cmp g f) ≡ false) (λ g. home_cmp (home_of g) (home_of f) ≢ Less) (by_homes key f pass) files order.0, rest)
      | false ↦ λ fail. rest
    ] refl

filter_none : (p : KeptFile → Bool) (xs : List KeptFile) → AllWithin (λ x. p x ≡ false) xs 0 (length xs) → (filter p xs ≡ []) × (filter (λ x. not (p x)) xs ≡ xs)
filter_none p [] none = (refl, refl)
filter_none p (x ∷ xs) none =
    let here = none zero x (omega arith) (omega arith) in
    let rest = filter_none p xs (λ i d low high. none (suc i) d (omega arith) (omega arith)) in (
      (λ i. cond (here i) (x ∷ filter p xs) (filter p xs)) ∙ rest.0,
      (λ i. cond (not (here i)) (x ∷ filter (λ x. not (p x)) xs) (filter (λ x. not (p x)) xs)) ∙ ap (λ ys. x ∷ ys) rest.1,
    )

-- what passes stands before a partition point, what does not from it on
pub filter_point : (p : KeptFile → Bool) (xs : List KeptFile) (i : ℕ) → i ≤ length xs → IsPartitionPoint (λ x. p x ≡ true) (λ x. p x ≡ false) xs i → (take i xs ≡ filter p xs) × (drop i xs ≡ filter (λ x. not (p x)) xs)
filter_point p xs zero within at =
    let none = filter_none p xs at.1 in
    (sym none.0, sym none.1)
filter_point p [] (suc i) within at = absurd (omega arith)
filter_point p (x ∷ xs) (suc i) within at =
    let here = at.0 zero x (omega arith) (omega arith) in
    let rest = filter_point p xs i (omega arith) ((λ j d low high. at.0 (suc j) d (omega arith) (omega arith)), (λ j d low high. at.1 (suc j) d (omega arith) (omega arith))) in (
      ap (λ ys. x ∷ ys) rest.0 ∙ (λ i. cond (sym here i) (x ∷ filter p xs) (filter p xs)),
      rest.1 ∙ (λ i. cond (not (sym here i)) (x ∷ filter (λ x. not (p x)) xs) (filter (λ x. not (p x)) xs)),
    )

-- a filter after another that lets all pass which pass it
filter_after : (p q : KeptFile → Bool) → ((x : KeptFile) → q x ≡ false → p x ≡ false) → (xs : List KeptFile) → filter p (filter q xs) ≡ filter p xs
filter_after p q out [] = refl
filter_after p q out (x ∷ xs) =
    let rest = filter_after p q out xs in
    elim (q x) as (λ b. q x ≡ b → filter p (cond b (x ∷ filter q xs) (filter q xs)) ≡ cond (p x) (x ∷ filter p xs) (filter p xs)) [
      | true ↦ λ pass. λ i. cond (p x) (x ∷ rest i) (rest i)
      | false ↦ λ fail. rest ∙ sym (cond-false (p x) (x ∷ filter p xs) (filter p xs) (out x fail))
    ] refl

-- a file whose stamp comes before another has another stamp
not_before_has : (key : StampKey) (f : KeptFile) → not (is_before key f) ≡ false → has_stamp key f ≡ false
not_before_has key f out = by_order (stamp_key_cmp f.stamp key) out
  where
    by_order : (o : Ordering) → not (is_lt o) ≡ false → is_eq o ≡ false
    by_order Less out = refl
    by_order Equal out = absurd (false≢true (sym out))
    by_order Greater out = refl

-- the files of a stamp: the first ones of those that do not come before it
pub found_files : (key : StampKey) (files rest found : List KeptFile) (passed count : ℕ) → passed ≤ length files → count ≤ length rest
    → rest ≡ drop passed files → found ≡ take count rest
    → IsPartitionPoint (λ f. is_before key f ≡ true) (λ f. is_before key f ≡ false) files passed
    → IsPartitionPoint (λ f. has_stamp key f ≡ true) (λ f. has_stamp key f ≡ false) rest count
    → found ≡ filter (has_stamp key) files
found_files key files rest found passed count within few is first point last =
    first ∙ (filter_point (has_stamp key) rest count few last).0
    ∙ ap (filter (has_stamp key)) (is ∙ (filter_point (is_before key) files passed within point).1)
    ∙ filter_after (has_stamp key) (λ f. not (is_before key f)) (not_before_has key) files

-- those that do not come before a stamp, in their order
pub rest_files : (key : StampKey) (files rest : List KeptFile) (passed : ℕ) → passed ≤ length files → rest ≡ drop passed files
    → IsPartitionPoint (λ f. is_before key f ≡ true) (λ f. is_before key f ≡ false) files passed → AreSorted files
    → AllByRecursion (λ f. is_before key f ≡ false) rest × AreSorted rest
rest_files key files rest passed within is point order =
    let same : rest ≡ filter (λ f. not (is_before key f)) files = is ∙ (filter_point (is_before key) files passed within point).1 in (
      subst (AllByRecursion (λ f. is_before key f ≡ false)) (sym same)
          (all_passing (λ f. not (is_before key f)) (λ f. Unit {0}) (λ f. is_before key f ≡ false) (λ f any pass. not-true (is_before key f) pass) files (all_units files)),
      subst AreSorted (sym same) (sorted_passing (λ f. not (is_before key f)) files order),
    )
