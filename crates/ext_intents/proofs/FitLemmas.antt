-- What a command wants of a valid host is fit: a host that it wants is valid and drawn from that one, and a file that it shows
-- is one of that host's.
use Rattle.std.proofs.Common.{◌≡◌, ℕ, zero, suc, ◌+◌, ◌≤◌, Bool, true, false, cond, not, ◌&&◌, ◌||◌, if◌then◌else◌, List, [], ◌∷◌, ◌++◌, drop, length, Option, Some, None, refl, sym, ap, ◌∙◌, subst, arith}
use Rattle.std.specs.Prelude.{◌≢◌, Contains}
use Rattle.std.specs.List.{AllByRecursion, flat_map}
use Rattle.std.specs.FinMap.Entries.{where_key}
use Rattle.std.proofs.lemmas.Bool.{and_parts, false≢true, true≢false}
use Rattle.std.proofs.lemmas.List.Sums.{sum_by-cons}
use Rattle.std.specs.Ordering.{eq_by_cmp}
use Rattle.ext_lines.specs.ByteOrder.{bytes_cmp}
use Rattle.ext_attributes.proofs.ForCallers.{mode_in_range}
use Rattle.ext_text.specs.Path.{are_related, is_prefix, is_proper_prefix, path_cmp}
use Rattle.ext_text.proofs.ForCallers.{all_weaker, prefix_trans, same_name, tied_name}
use Rattle.ext_tree.specs.Cut.{IsCut, cut}
use Rattle.ext_tree.specs.EntryLine.{IsWritable}
use Rattle.ext_tree.specs.Graft.{IsGraft, made, or_made}
use Rattle.ext_tree.specs.Tree.{Entries, lookup, most_entries}
use Rattle.ext_tree.specs.TreeText.{AreWritable, stamp_form}
use Rattle.ext_tree.specs.declared.entry.Entry.{Entry}
use Rattle.ext_tree.specs.declared.entry.Entry.TheVariants.{Dir, Opaque, File, Link, Hide}
use Rattle.ext_tree.specs.declared.stamp.Stamp.{Stamp}
use Rattle.ext_tree.proofs.ForCallers.{grafted_apart, is_cut}
use Rattle.ext_tree.specs.Refusals.{is_root}
use Rattle.ext_host.specs.DepotBodies.{from_depot, in_depot}
use Rattle.ext_host.specs.Drawn.{AreDrawnFrom, trees_of}
use Rattle.ext_host.specs.Held.{HeldFile}
use Rattle.ext_host.specs.Host.{base_at, hierarchies_in, is_in, merged_hierarchies, present}
use Rattle.ext_host.specs.Touch.{untouched}
use Rattle.ext_host.specs.Valid.{AreInRange, HasItems, IsValidHost, all_bytes, bytes_of, held_form, most_bytes}
use Rattle.ext_host.specs.declared.body.Body.TheVariants.{Kept}
use Rattle.ext_host.specs.declared.home.Home.{Home}
use Rattle.ext_host.specs.declared.host.Host.{Host}
use Rattle.ext_host.specs.declared.manifest.Manifest.{Manifest}
use Rattle.ext_host.specs.declared.past.Past.{Past}
use Rattle.ext_host.proofs.ForCallers.{cut_is_drawn, drawn_from_itself, drawn_one_by_one, graft_is_drawn, touched_is_valid, trees_are_drawn, trees_drawn_through}
use Rattle.ext_intents.specs.Change.{changed_at}
use Rattle.ext_intents.specs.Intents.{IsPlanned, stays}
use Rattle.ext_intents.proofs.EntriesLemmas.{all_of_found, all_where, found_of_all}

either_true : (x y a b : Bool) → x ≡ true → y ≡ true → (a || b) ≡ true → ((x && a) || (y && b)) ≡ true
either_true true true a b x y both = both
either_true false y a b x y' both = absurd (false≢true x)
either_true true false a b x y both = absurd (false≢true y)

-- two prefixes of one path are related
both_related : (a b q : List (List ℕ)) → is_prefix a q ≡ true → is_prefix b q ≡ true → are_related a b ≡ true
both_related [] b q first second = refl
both_related (n ∷ a) [] q first second = refl
both_related (n ∷ a) (m ∷ b) [] first second = absurd (false≢true first)
both_related (n ∷ a) (m ∷ b) (k ∷ q) first second =
    let x = and_parts (eq_by_cmp bytes_cmp n k) (is_prefix a q) first in
    let y = and_parts (eq_by_cmp bytes_cmp m k) (is_prefix b q) second in
    let same : n ≡ m = same_name n k x.0 ∙ sym (same_name m k y.0) in
    either_true (eq_by_cmp bytes_cmp n m) (eq_by_cmp bytes_cmp m n) (is_prefix a b) (is_prefix b a) (tied_name n m same) (tied_name m n (sym same)) (both_related a b q x.1 y.1)

is_false : (b : Bool) → (b ≡ true → ⊥) → b ≡ false
is_false true not = absurd (not refl)
is_false false not = refl

first_related : (a b : List (List ℕ)) → is_prefix a b ≡ true → are_related a b ≡ true
first_related a b is = ap (λ x. x || is_prefix b a) is

second_related : (a b : List (List ℕ)) → is_prefix b a ≡ true → are_related a b ≡ true
second_related a b is = elim (is_prefix a b) as (λ x. (x || is_prefix b a) ≡ true) [ true ↦ refl | false ↦ is ]

-- what is below a path that is not related to another one is not related to it
unrelated_prefix : (m p q : List (List ℕ)) → are_related m p ≡ false → is_prefix m q ≡ true → is_prefix p q ≡ false
unrelated_prefix m p q apart below = is_false (is_prefix p q) (λ above. true≢false (sym (both_related m p q below above) ∙ apart))

unrelated_suffix : (m p q : List (List ℕ)) → are_related m p ≡ false → is_prefix m q ≡ true → is_prefix q p ≡ false
unrelated_suffix m p q apart below = is_false (is_prefix q p) (λ above. true≢false (sym (first_related m p (prefix_trans m q p below above)) ∙ apart))

-- at each path that is neither at, above nor below the path
abbrev pub SameApart : List (List ℕ) → Entries HeldFile → Entries HeldFile → Type 0
SameApart path old new = (q : List (List ℕ)) → is_prefix path q ≡ false → is_prefix q path ≡ false → lookup new q ≡ lookup old q

base_same : (merged : List (List ℕ)) (lower old new : Entries HeldFile) (q : List (List ℕ)) → lookup new q ≡ lookup old q
    → (if is_in merged q then lookup lower q else lookup new q) ≡ (if is_in merged q then lookup lower q else lookup old q)
base_same merged lower old new q same = ap (λ x. if is_in merged q then lookup lower q else x) same

base_moves : (host : Host) (path : List (List ℕ)) (root : Entries HeldFile) (q : List (List ℕ)) → lookup root q ≡ lookup host.root q
    → base_at (hierarchies_in host) (present (changed_at host path root)) q ≡ base_at (hierarchies_in host) (present host) q
base_moves host path root q same = base_same (merged_hierarchies (hierarchies_in host) (present host)) host.lower host.root root q same

items_move : (host : Host) (path : List (List ℕ)) (root : Entries HeldFile) (m : Manifest) → SameApart path host.root root → are_related m.path path ≡ false
    → HasItems (base_at (hierarchies_in host) (present host)) m → HasItems (base_at (hierarchies_in host) (present (changed_at host path root))) m
items_move host path root m same apart items =
    let moves = λ (q : List (List ℕ)) (below : is_prefix m.path q ≡ true).
    base_moves host path root q (same q (unrelated_prefix m.path path q apart below) (unrelated_suffix m.path path q apart below)) in
    record {
      each = all_weaker _ _ (λ item has. (has.0, (has.1.0, has.1.1, moves item.path has.0 ∙ has.1.2, has.1.3))) m.items items.each;
      whole = λ q attributes held below stands. items.whole q attributes held below (sym (moves q below) ∙ stands);
    }

untouched_apart : (path : List (List ℕ)) (kept : List Manifest) → AllByRecursion (λ m. are_related m.path path ≡ false) (untouched path kept)
untouched_apart path [] = tt
untouched_apart path (m ∷ kept) =
    elim (are_related m.path path) as (λ b. are_related m.path path ≡ b → AllByRecursion (λ n. are_related n.path path ≡ false) (cond (not b) (m ∷ untouched path kept) (untouched path kept))) [
      | true ↦ λ _. untouched_apart path kept
      | false ↦ λ apart. (apart, untouched_apart path kept)
    ] refl

all_items_move : (host : Host) (path : List (List ℕ)) (root : Entries HeldFile) (kept : List Manifest) → SameApart path host.root root
    → AllByRecursion (λ m. are_related m.path path ≡ false) kept → AllByRecursion (HasItems (base_at (hierarchies_in host) (present host))) kept
    → AllByRecursion (HasItems (base_at (hierarchies_in host) (present (changed_at host path root)))) kept
all_items_move host path root [] same apart items = tt
all_items_move host path root (m ∷ kept) same apart items =
    (items_move host path root m same apart.0 items.0, all_items_move host path root kept same apart.1 items.1)

-- the new tree is within the limits, with what lies under the view
pub record IsSized (host : Host) (root : Entries HeldFile) : Type 0 where
  pub range : AreInRange root
  pub entries : length root + length host.lower ≤ most_entries
  pub bytes : all_bytes root + all_bytes host.lower ≤ most_bytes

pub changed_is_valid : (host : Host) (path : List (List ℕ)) (root : Entries HeldFile) → IsValidHost host → SameApart path host.root root → IsSized host root → IsValidHost (changed_at host path root)
changed_is_valid host path root valid same sized =
    let touched = touched_is_valid host path valid in
    let kept = touched.present.kept in
    record {
      scope = valid.scope;
      hierarchies = valid.hierarchies;
      present = record {
        lower = valid.present.lower;
        limits = record { root = sized.range; lower = valid.present.limits.lower; entries = sized.entries; bytes = sized.bytes };
        sysext = valid.present.sysext;
        confext = valid.present.confext;
        attached = valid.present.attached;
        kept = record {
          each = kept.each;
          order = kept.order;
          apart = kept.apart;
          items = all_items_move host path root (untouched path host.kept) same (untouched_apart path host.kept) kept.items;
        };
      };
      past = valid.past;
      past_count = valid.past_count;
      past_order = valid.past_order;
    }

contains_rest : {X : Type 0} (x : X) (xs : List X) (y : X) → Contains xs y → Contains (x ∷ xs) y
contains_rest x xs y (k, lt, is) = (suc k, omega arith, is)

all_among : {X : Type 0} (xs whole : List X) → ((y : X) → Contains xs y → Contains whole y) → AllByRecursion (Contains whole) xs
all_among [] whole among = tt
all_among (x ∷ xs) whole among = (among x (zero, omega arith, refl), all_among xs whole (λ y has. among y (contains_rest x xs y has)))

-- one tree, and others that are among the old ones
rest_drawn : (old rest : List (Entries HeldFile)) → AllByRecursion (Contains old) rest → AllByRecursion (λ es. AreDrawnFrom old (es ∷ [])) rest
rest_drawn old [] among = tt
rest_drawn old (es ∷ rest) among = (trees_are_drawn old (es ∷ []) (among.0, tt), rest_drawn old rest among.1)

pub changed_is_drawn : (host : Host) (path : List (List ℕ)) (root : Entries HeldFile) → AreDrawnFrom (trees_of host) (root ∷ []) → AreDrawnFrom (trees_of host) (trees_of (changed_at host path root))
changed_is_drawn host path root drawn =
    let past : List (Entries HeldFile) = flat_map (λ (p : Past). p.root ∷ p.lower ∷ []) host.past in
    let rest : AllByRecursion (Contains (trees_of host)) (host.lower ∷ past) = all_among (host.lower ∷ past) (trees_of host) (λ y has. contains_rest host.root (host.lower ∷ past) y has) in
    drawn_one_by_one (trees_of host) (root ∷ host.lower ∷ past) (drawn, rest_drawn (trees_of host) (host.lower ∷ past) rest)

pub changed_is_planned : (coming : ℕ) (host : Host) (path : List (List ℕ)) (root : Entries HeldFile) → IsValidHost host → SameApart path host.root root → IsSized host root
    → AreDrawnFrom (trees_of host) (root ∷ []) → IsPlanned coming (Some host) (changed_at host path root)
changed_is_planned coming host path root valid same sized drawn = record {
  valid = changed_is_valid host path root valid same sized;
  drawn = changed_is_drawn host path root drawn;
  past = λ p has. stays has;
}

-- the same host
pub same_is_planned : (coming : ℕ) (host : Host) → IsValidHost host → IsPlanned coming (Some host) host
same_is_planned coming host valid = record { valid = valid; drawn = drawn_from_itself host; past = λ p has. stays has }

-- the tree that is seen is drawn from its host
root_among : (host : Host) → Contains (trees_of host) host.root
root_among host = (zero, omega arith, refl)

pub root_is_drawn : (host : Host) → AreDrawnFrom (trees_of host) (host.root ∷ [])
root_is_drawn host = trees_are_drawn (trees_of host) (host.root ∷ []) (root_among host, tt)

bytes_where : (test : List (List ℕ) → Bool) (es : Entries HeldFile) → all_bytes (where_key path_cmp test es) ≤ all_bytes es
bytes_where test [] = omega arith
bytes_where test (x ∷ es) =
    let size : List (List ℕ) × Entry HeldFile → ℕ = λ e. bytes_of e.1 in
    let rest = bytes_where test es in
    elim (test x.0) as (λ b. all_bytes (cond b (x ∷ where_key path_cmp test es) (where_key path_cmp test es)) ≤ all_bytes (x ∷ es)) [
      | true ↦ omega (arith, sum_by-cons size x es, sum_by-cons size x (where_key path_cmp test es))
      | false ↦ omega (arith, sum_by-cons size x es)
    ]

length_where : (test : List (List ℕ) → Bool) (es : Entries HeldFile) → length (where_key path_cmp test es) ≤ length es
length_where test [] = omega arith
length_where test (x ∷ es) =
    let rest = length_where test es in
    elim (test x.0) as (λ b. length (cond b (x ∷ where_key path_cmp test es) (where_key path_cmp test es)) ≤ length (x ∷ es)) [
      | true ↦ omega arith
      | false ↦ omega arith
    ]

cut_apart : (es rest : Entries HeldFile) (path q : List (List ℕ)) → IsCut es path rest → is_prefix path q ≡ false → lookup rest q ≡ lookup es q
cut_apart es rest path q is apart = is q ∙ ap (λ b. if b then None else lookup es q) apart

pub cut_is_planned : (coming : ℕ) (host : Host) (path : List (List ℕ)) → IsValidHost host → IsPlanned coming (Some host) (changed_at host path (cut path host.root))
cut_is_planned coming host path valid =
    let test = λ (q : List (List ℕ)). not (is_prefix path q) in
    let is = is_cut path host.root in
    let fewer = length_where test host.root in
    let less = bytes_where test host.root in
    let entries = valid.present.limits.entries in
    let bytes = valid.present.limits.bytes in
    changed_is_planned coming host path (cut path host.root) valid (λ q apart out. cut_apart host.root (cut path host.root) path q is apart)
    (record {
      range = all_where (IsWritable held_form) test host.root valid.present.limits.root;
      entries = omega arith;
      bytes = omega arith;
    })
    (trees_drawn_through (trees_of host) (host.root ∷ []) (cut path host.root ∷ []) (root_is_drawn host) (cut_is_drawn host.root (cut path host.root) path is))

-- entries of the depot are in range where those of their tree text are
in_depot_writable : (path : List (List ℕ)) (e : Entry Stamp) → IsWritable stamp_form e → IsWritable held_form (in_depot path e)
in_depot_writable path (Dir attributes) is = is
in_depot_writable path (Opaque attributes) is = is
in_depot_writable path (File attributes stamp) is = is
in_depot_writable path (Link owner target) is = is
in_depot_writable path Hide is = is

depot_in_range : (res : List (List ℕ)) (es : Entries Stamp) → AreWritable es → AreInRange (from_depot res es)
depot_in_range res [] all = tt
depot_in_range res (x ∷ es) all = (in_depot_writable (res ++ x.0) x.1 all.0, depot_in_range res es all.1)

-- and none of them is kept
abbrev NotKept : Entry HeldFile → Type 0
NotKept (Dir attributes) = Unit {0}
NotKept (Opaque attributes) = Unit {0}
NotKept (File attributes held) = (home : Home) → held.body ≢ Kept home
NotKept (Link owner target) = Unit {0}
NotKept Hide = Unit {0}

in_depot_not_kept : (path : List (List ℕ)) (e : Entry Stamp) → NotKept (in_depot path e)
in_depot_not_kept path (Dir attributes) = tt
in_depot_not_kept path (Opaque attributes) = tt
in_depot_not_kept path (File attributes stamp) = λ home is. cc
in_depot_not_kept path (Link owner target) = tt
in_depot_not_kept path Hide = tt

depot_not_kept : (res : List (List ℕ)) (es : Entries Stamp) → AllByRecursion (λ x. NotKept x.1) (from_depot res es)
depot_not_kept res [] = tt
depot_not_kept res (x ∷ es) = (in_depot_not_kept (res ++ x.0) x.1, depot_not_kept res es)

only_tree : (es tree : Entries HeldFile) → Contains (es ∷ []) tree → tree ≡ es
only_tree es tree (zero, lt, same) = sym same
only_tree es tree (suc k, lt, same) = absurd (omega arith)

depot_is_drawn : (old : List (Entries HeldFile)) (res : List (List ℕ)) (es : Entries Stamp) → AreDrawnFrom old (from_depot res es ∷ [])
depot_is_drawn old res es held home kept file =
    let there = subst (λ t. lookup t file.file.path ≡ Some (File file.file.attributes held)) (only_tree (from_depot res es) file.tree file.among) file.file.stands in
    absurd (found_of_all NotKept (from_depot res es) file.file.path (File file.file.attributes held) (depot_not_kept res es) there home kept)

graft_apart : (es part new : Entries HeldFile) (path q : List (List ℕ)) → IsGraft es path part new → is_prefix path q ≡ false → is_prefix q path ≡ false → lookup new q ≡ lookup es q
graft_apart es part new [] q is apart out = absurd (true≢false apart)
graft_apart es part new (n ∷ path) q is apart out = is.each q ∙ grafted_apart es part (n ∷ path) q (omega arith) out apart

some_same : {X : Type 0} (x y : X) → Some x ≡ Some y → x ≡ y
some_same x y h = cc

made_or : (P : Entry HeldFile → Type 0) (found : Option (Entry HeldFile)) (e : Entry HeldFile) → P made → ((f : Entry HeldFile) → found ≡ Some f → P f) → or_made found ≡ Some e → P e
made_or P None e makes holds is = subst P (some_same made e is) makes
made_or P (Some f) e makes holds is = holds e is

-- an entry of the new tree at a path that is not the root's, by how that stands to the path of the graft
graft_side : (P : Entry HeldFile → Type 0) (es part : Entries HeldFile) (path q : List (List ℕ)) (e : Entry HeldFile) (below here above : Bool) → P made
    → ((r : List (List ℕ)) (f : Entry HeldFile) → lookup es r ≡ Some f → P f) → ((r : List (List ℕ)) (f : Entry HeldFile) → lookup part r ≡ Some f → P f)
    → cond below (lookup part (drop (length path) q)) (cond here (Some made) (cond above (or_made (lookup es q)) (lookup es q))) ≡ Some e → P e
graft_side P es part path q e true here above makes old hung found = hung (drop (length path) q) e found
graft_side P es part path q e false true above makes old hung found = subst P (some_same made e found) makes
graft_side P es part path q e false false true makes old hung found = made_or P (lookup es q) e makes (old q) found
graft_side P es part path q e false false false makes old hung found = old q e found

-- what holds of a made directory, of each entry of the tree and of each entry of the part holds of each entry of the new tree
graft_entry : (P : Entry HeldFile → Type 0) (es part new : Entries HeldFile) (path q : List (List ℕ)) (e : Entry HeldFile) → IsGraft es path part new → P made
    → ((r : List (List ℕ)) (f : Entry HeldFile) → lookup es r ≡ Some f → P f) → ((r : List (List ℕ)) (f : Entry HeldFile) → lookup part r ≡ Some f → P f)
    → lookup new q ≡ Some e → P e
graft_entry P es part new [] q e is makes old hung found = hung q e (sym (is.each q) ∙ found)
graft_entry P es part new (n ∷ path) q e is makes old hung found =
    graft_side P es part (n ∷ path) q e (is_proper_prefix (n ∷ path) q) (eq_by_cmp path_cmp q (n ∷ path)) (is_proper_prefix q (n ∷ path) && not (is_root q)) makes old hung (sym (is.each q) ∙ found)

graft_in_range : (es part new : Entries HeldFile) (path : List (List ℕ)) → IsGraft es path part new → AreInRange es → AreInRange part → AreInRange new
graft_in_range es part new path is range part_range =
    all_of_found (IsWritable held_form) new is.tree (λ q e found.
    graft_entry (IsWritable held_form) es part new path q e is (mode_in_range 493 (omega arith))
    (λ r f. found_of_all (IsWritable held_form) es r f range) (λ r f. found_of_all (IsWritable held_form) part r f part_range) found)

pub graft_is_planned : (coming : ℕ) (host : Host) (path res : List (List ℕ)) (es : Entries Stamp) (root : Entries HeldFile) → IsValidHost host → AreWritable es
    → IsGraft host.root path (from_depot res es) root → length root + length host.lower ≤ most_entries → all_bytes root + all_bytes host.lower ≤ most_bytes
    → IsPlanned coming (Some host) (changed_at host path root)
graft_is_planned coming host path res es root valid writable is entries bytes =
    let old = trees_of host in
    let part = from_depot res es in
    let both : AreDrawnFrom old (host.root ∷ part ∷ []) = drawn_one_by_one old (host.root ∷ part ∷ []) (root_is_drawn host, (depot_is_drawn old res es, tt)) in
    changed_is_planned coming host path root valid (λ q apart out. graft_apart host.root part root path q is apart out)
    (record {
      range = graft_in_range host.root part root path is valid.present.limits.root (depot_in_range res es writable);
      entries = entries;
      bytes = bytes;
    })
    (trees_drawn_through old (host.root ∷ part ∷ []) (root ∷ []) both (graft_is_drawn host.root part root path is))
