-- The coming host: which manifests it keeps, that it is valid, and where its files come from.
use Rattle.std.proofs.Common.{◌≡◌, ◌≢◌, ℕ, ◌+◌, ◌≤◌, Bool, true, false, cond, not, ◌||◌, if◌then◌else◌, List, [], ◌∷◌, ◌++◌, map, length, Some, None, refl, sym, ap, ◌∙◌, subst, arith}
use Rattle.std.specs.Prelude.{Contains, IsTrue, ◌⊎◌}
use mathlib.Core.Logic.{inl, inr}
use Rattle.std.specs.List.{AllByRecursion, AllZip, filter, list_any}
use Rattle.std.specs.Cmp.{on_total}
use Rattle.std.specs.List.Sorted.{IsStrictlySortedBy}
use Rattle.std.specs.declared.cmp.Ordering.TheVariants.{Less}
use Rattle.std.proofs.lemmas.Bool.{and_parts, cases_lt, false≢true, true≢false}
use Rattle.std.proofs.lemmas.List.Elements.{Contains-append_cases, Contains-append_left, Contains-append_right}
use Rattle.std.proofs.lemmas.List.Sorted.{Contains-permutation, IsPermutation-sym}
use Rattle.std.proofs.lemmas.List.Sums.{sum_by-append}
use Rattle.ext_attributes.specs.Attributes.{OfFile}
use Rattle.ext_text.specs.Order.{paths_total}
use Rattle.ext_text.specs.Path.{are_related, is_prefix, is_proper_prefix, path_cmp}
use Rattle.ext_text.specs.SortedPaths.{covers, is_among, meets}
use Rattle.ext_text.proofs.ForCallers.{prefix_self, prefix_trans}
use Rattle.ext_tree.specs.Refusals.{is_root}
use Rattle.ext_tree.specs.Tree.{Entries, lookup, most_entries}
use Rattle.ext_tree.specs.declared.entry.Entry.TheVariants.{File}
use Rattle.ext_host.specs.Held.{HeldFile}
use Rattle.ext_host.specs.Host.{base_at, hierarchies_in, is_in, present}
use Rattle.ext_host.specs.ReadOnly.{merged_in}
use Rattle.ext_host.specs.Touch.{untouched_all}
use Rattle.ext_host.specs.Valid.{AreApart, AreAscending, AreInRange, HasItems, IsManifest, IsValidHost, all_bytes, most_bytes}
use Rattle.ext_host.specs.declared.host.Host.{Host}
use Rattle.ext_host.specs.declared.manifest.Item.{Item}
use Rattle.ext_host.specs.declared.manifest.Manifest.{Manifest}
use Rattle.ext_host.proofs.ForCallers.{touched_all_is_valid}
use Rattle.ext_installed.proofs.ForCallers.{contains_cases, none_contained, same_contained}
use Rattle.ext_updated.specs.Clash.{NoClash}
use Rattle.ext_updated.specs.Clash.IsInTheWay.{meets_another}
use Rattle.ext_updated.specs.Items.{written}
use Rattle.ext_updated.specs.Manifests.{IsManifestAt}
use Rattle.ext_updated.specs.Pieces.{is_above, paths_of}
use Rattle.ext_updated.specs.Updated.{IsUpdated}
use Rattle.ext_updated.specs.declared.items.Items.{Items}
use Rattle.ext_updated.proofs.ForCallers.{files_decide, prefixes_related, related_back}
use Rattle.ext_update.specs.Drafts.{IsInPathOrder, Touches}
use Rattle.ext_update.specs.Stages.{AreKept, IsLocked, Writes, items_of, written_pieces, touched_by}
use Rattle.ext_update.proofs.FindLemmas.{all_contained, among_contained, contained_among, here, later, not_less_itself, passed, passer}
use Rattle.ext_update.proofs.HitLemmas.{AreOnce, ascending_once, both_once, count_two, hit_some, hits, one_if, permuted_ascend, zip_hits}

is_false : (b : Bool) → (b ≡ true → ⊥) → b ≡ false
is_false true never = absurd (never refl)
is_false false never = refl

-- what holds of each that is contained holds of each
pub each_contained : {X : Type 0} (P : X → Type 0) (xs : List X) → ((x : X) → Contains xs x → P x) → AllByRecursion P xs
each_contained P [] holds = tt
each_contained P (x ∷ xs) holds = (holds x (here x xs), each_contained P xs (λ y at. holds y (later x y xs at)))

-- what a filter leaves
pub filtered : {X : Type 0} (test : X → Bool) (xs : List X) (x : X) → Contains (filter test xs) x → Contains xs x × (test x ≡ true)
filtered test [] x at = absurd (none_contained x at)
filtered {X} test (y ∷ ys) x at = elim (test y) as (λ b. test y ≡ b → Contains (cond b (y ∷ filter test ys) (filter test ys)) x → Contains (y ∷ ys) x × (test x ≡ true)) [
  | true ↦ λ is among. elim (contains_cases y x (filter test ys) among) [
    | inl same ↦ (subst (Contains (y ∷ ys)) same (here y ys), subst (λ (z : X). test z ≡ true) same is)
    | inr more ↦ let rest = filtered test ys x more in (later y x ys rest.0, rest.1)
  ]
  | false ↦ λ _ among. let rest = filtered test ys x among in (later y x ys rest.0, rest.1)
] refl at

same_filter : {X : Type 0} (f g : X → Bool) (xs : List X) → ((x : X) → f x ≡ g x) → filter f xs ≡ filter g xs
same_filter f g [] same = refl
same_filter f g (x ∷ xs) same = λ i. cond (same x i) (x ∷ same_filter f g xs same i) (same_filter f g xs same i)

-- pairs of two lists
zip_found : {A B : Type 0} (R : A → B → Type 0) (xs : List A) (ys : List B) (y : B) → AllZip R xs ys → Contains ys y → (x : A) × Contains xs x × R x y
zip_found R [] [] y all at = absurd (none_contained y at)
zip_found R [] (b ∷ ys) y all at = absurd all
zip_found R (a ∷ xs) [] y all at = absurd all
zip_found R (a ∷ xs) (b ∷ ys) y all at = elim (contains_cases b y ys at) [
  | inl same ↦ (a, here a xs, subst (R a) same all.0)
  | inr more ↦ let found = zip_found R xs ys y all.1 more in (found.0, later a found.0 xs found.1, found.2)
]

zip_there : {A B : Type 0} (R : A → B → Type 0) (xs : List A) (ys : List B) (x : A) → AllZip R xs ys → Contains xs x → (y : B) × Contains ys y × R x y
zip_there R [] [] x all at = absurd (none_contained x at)
zip_there R [] (b ∷ ys) x all at = absurd all
zip_there R (a ∷ xs) [] x all at = absurd all
zip_there {A} {B} R (a ∷ xs) (b ∷ ys) x all at = elim (contains_cases a x xs at) [
  | inl same ↦ (b, here b ys, subst (λ (z : A). R z b) same all.0)
  | inr more ↦ let found = zip_there R xs ys x all.1 more in (found.0, later b found.0 ys found.1, found.2)
]

related_self : (p : List (List ℕ)) → are_related p p ≡ true
related_self p = ap (λ b. b || is_prefix p p) (prefix_self p)

first_related : (p q : List (List ℕ)) → is_prefix p q ≡ true → are_related p q ≡ true
first_related p q is = ap (λ b. b || is_prefix q p) is

-- no path of a list is related to one that they do not meet
not_met : (paths : List (List (List ℕ))) (p q : List (List ℕ)) → meets paths q ≡ false → Contains paths p → are_related p q ≡ false
not_met paths p q out at = is_false (are_related p q) (λ related. false≢true (sym out ∙ passed (λ r. are_related r q) paths p at related))

-- two manifests that are apart
apart_pair : (ms : List Manifest) (m n : Manifest) → AreApart ms → Contains ms m → Contains ms n → m.path ≢ n.path → are_related m.path n.path ≡ false
apart_pair [] m n apart at also other = absurd (none_contained m at)
apart_pair (x ∷ xs) m n apart at also other = elim (contains_cases x m xs at) [
  | inl first ↦ elim (contains_cases x n xs also) [
    | inl second ↦ absurd (other (ap (λ (y : Manifest). y.path) (sym first ∙ second)))
    | inr more ↦ subst (λ (y : Manifest). are_related y.path n.path ≡ false) first (unrelated x.path n.path (all_contained (λ y. not (are_related x.path y.path) ≡ true) xs n apart.0 more))
  ]
  | inr rest ↦ elim (contains_cases x n xs also) [
    | inl second ↦ related_back m.path n.path ∙ subst (λ (y : Manifest). are_related y.path m.path ≡ false) second (unrelated x.path m.path (all_contained (λ y. not (are_related x.path y.path) ≡ true) xs m apart.0 rest))
    | inr more ↦ apart_pair xs m n apart.1 rest more other
  ]
]
  where
    unrelated : (a b : List (List ℕ)) → not (are_related a b) ≡ true → are_related a b ≡ false
    unrelated a b is = is_false (are_related a b) (λ related. true≢false (sym is ∙ ap not related))

-- ascending manifests are apart where any two of them are
all_apart : (ms : List Manifest) → AreAscending path_cmp (map (λ (m : Manifest). m.path) ms)
    → ((m n : Manifest) → Contains ms m → Contains ms n → m.path ≢ n.path → are_related m.path n.path ≡ false) → AreApart ms
all_apart [] up apart = tt
all_apart (m ∷ ms) up apart = (
  each_contained (λ n. not (are_related m.path n.path) ≡ true) ms (λ n at. ap not (apart m n (here m ms) (later m n ms at) (λ same. not_less_itself m.path (subst (λ p. path_cmp m.path p ≡ Less) (sym same) (above ms n up.0 at))))),
  all_apart ms up.1 (λ a b at also other. apart a b (later m a ms at) (later m b ms also) other),
)
  where
    above : (ns : List Manifest) (n : Manifest) → AllByRecursion (λ y. path_cmp m.path y ≡ Less) (map (λ (x : Manifest). x.path) ns) → Contains ns n → path_cmp m.path n.path ≡ Less
    above [] n all at = absurd (none_contained n at)
    above (x ∷ xs) n all at = elim (contains_cases x n xs at) [
      | inl same ↦ subst (λ (y : Manifest). path_cmp m.path y.path ≡ Less) same all.0
      | inr more ↦ above xs n all.1 more
    ]

-- what ascends by a key is in strict order by it
strict_order : {X : Type 0} (key : X → List (List ℕ)) (xs : List X) → AreAscending path_cmp (map key xs) → IsStrictlySortedBy (λ a b. path_cmp (key a) (key b)) xs
unfolding IsStrictlySortedBy
strict_order key [] up = tt
strict_order {X} key (x ∷ xs) up = (above xs up.0, strict_order key xs up.1)
  where
    above : (ys : List X) → AllByRecursion (λ y. path_cmp (key x) y ≡ Less) (map key ys) → AllByRecursion (λ y. path_cmp (key x) (key y) ≡ Less) ys
    above [] all = tt
    above (y ∷ ys) all = (all.0, above ys all.1)

-- two lists that ascend by a key and contain the same are equal
pub same_ascending : {X : Type 0} (key : X → List (List ℕ)) (xs ys : List X) → AreAscending path_cmp (map key xs) → AreAscending path_cmp (map key ys)
    → ((x : X) → Contains xs x → Contains ys x) → ((x : X) → Contains ys x → Contains xs x) → xs ≡ ys
same_ascending key xs ys first second there back =
    same_contained (λ a b. path_cmp (key a) (key b)) (on_total key paths_total) xs ys (strict_order key xs first) (strict_order key ys second) there back

item_there : (es : Entries HeldFile) (a b : Manifest) → HasItems (λ q. lookup es q) a → HasItems (λ q. lookup es q) b → a.path ≡ b.path
    → (x : Item) → Contains a.items x → Contains b.items x
item_there es a b first second same x at =
    let has = all_contained (λ (y : Item). IsTrue (is_prefix a.path y.path) × ((attributes : OfFile) × (held : HeldFile) × (lookup es y.path ≡ Some (File attributes held)) × (held.stamp.digest ≡ y.digest))) a.items x first.each at in
    let one : Contains b.items (record { path = x.path; digest = has.1.1.stamp.digest }) = second.whole x.path has.1.0 has.1.1 (subst (λ p. is_prefix p x.path ≡ true) same has.0) has.1.2 in
    let is : ◌≡◌ {A = Item} (record { path = x.path; digest = has.1.1.stamp.digest }) x = λ i. record { path = x.path; digest = has.1.3 i } in
    subst (Contains b.items) is one

-- a tree has one manifest of a path
pub one_manifest : (es : Entries HeldFile) (path : List (List ℕ)) (a b : Manifest) → IsManifestAt es path a → IsManifestAt es path b → a ≡ b
one_manifest es path a b first second =
    let paths : a.path ≡ b.path = first.path_is ∙ sym second.path_is in
    let items : a.items ≡ b.items = same_ascending (λ (x : Item). x.path) a.items b.items first.order second.order
    (item_there es a b first.items second.items paths) (item_there es b a second.items first.items (sym paths)) in
    λ i. record { path = paths i; items = items i }

-- what the coming host is made of: nothing is in the way or locked, and all that is written is within the limits
pub record IsComing (host : Host) (writes : Writes) (items : Items) (touched : List (List (List ℕ))) (root : Entries HeldFile) : Type 0 where
  pub same : items ≡ items_of writes
  pub removed : items.removed ≡ writes.removed
  pub touches : Touches items touched
  pub resources : items.resources ≡ paths_of writes.resources
  pub written_is : written items ≡ paths_of (written_pieces writes)
  pub below_root : AllByRecursion (λ path. path ≢ []) items.resources
  pub apart : NoClash host.root items
  pub unlocked : (path : List (List ℕ)) → IsLocked host writes path → ⊥
  pub updated : IsUpdated host.root items.removed (written_pieces writes) root
  pub valid : IsValidHost host

module _ (host : Host) (writes : Writes) (items : Items) (touched : List (List (List ℕ))) (root : Entries HeldFile) (coming : IsComing host writes items touched root) where
  meets_same : (q : List (List ℕ)) → meets touched q ≡ meets (touched_by items) q
  meets_same q = coming.touches (λ p. are_related p q)

  written_touched : (p : List (List ℕ)) → Contains (paths_of (written_pieces writes)) p → Contains (touched_by items) p
  written_touched p at = Contains-append_left (written items) items.removed p (subst (λ ps. Contains ps p) (sym coming.written_is) at)

  removed_touched : (p : List (List ℕ)) → Contains items.removed p → Contains (touched_by items) p
  removed_touched p at = Contains-append_right (written items) items.removed p at

  resource_touched : (p : List (List ℕ)) → Contains items.resources p → Contains (touched_by items) p
  resource_touched p at = Contains-append_left (written items) items.removed p (Contains-append_left items.resources items.links p at)

  -- what is related to nothing that is touched stays as it was
  pub stays_seen : (q path : List (List ℕ)) → meets (touched_by items) q ≡ false → is_prefix q path ≡ true → lookup root path ≡ lookup host.root path
  stays_seen q path out below =
      coming.updated.elsewhere path
      (is_false (covers (paths_of (written_pieces writes)) path) (λ covered.
      let p = passer (λ r. is_prefix r path) (paths_of (written_pieces writes)) covered in
      clash p.0 (written_touched p.0 p.1) (prefixes_related p.0 q path p.2 below)))
      (is_false (is_above (written_pieces writes) path) (λ above.
      let parts = and_parts (not (is_root path)) (list_any (λ p. is_proper_prefix path p) (paths_of (written_pieces writes))) above in
      let p = passer (λ r. is_proper_prefix path r) (paths_of (written_pieces writes)) parts.1 in
      let under = prefix_trans q path p.0 below (and_parts (is_prefix path p.0) (not (is_prefix p.0 path)) p.2).0 in
      clash p.0 (written_touched p.0 p.1) (related_back p.0 q ∙ first_related q p.0 under)))
      ∙ ap (λ b. if b then None else lookup host.root path) (is_false (covers items.removed path) (λ covered.
      let p = passer (λ r. is_prefix r path) items.removed covered in
      clash p.0 (removed_touched p.0 p.1) (prefixes_related p.0 q path p.2 below)))
    where
      clash : (p : List (List ℕ)) → Contains (touched_by items) p → are_related p q ≡ true → ⊥
      clash p at related = false≢true (sym (not_met (touched_by items) p q out at) ∙ related)

  -- so what a manifest says of such a path goes on
  pub items_stay : (kept : List Manifest) (m : Manifest) → meets (touched_by items) m.path ≡ false
      → HasItems (base_at (hierarchies_in host) (present host)) m
      → HasItems (base_at (hierarchies_in host) (present (record host { root = root; kept = kept }))) m
  items_stay kept m out has =
      files_decide (base_at (hierarchies_in host) (present host)) (base_at (hierarchies_in host) (present (record host { root = root; kept = kept }))) m
      (λ path below. ap (λ x. if is_in (merged_in host) path then lookup host.lower path else x) (sym (stays_seen m.path path out below))) has

  -- at and below what is written the base is what is seen
  unmerged : (p path : List (List ℕ)) → Contains items.resources p → is_prefix p path ≡ true → is_in (merged_in host) path ≡ false
  unmerged p path at below = is_false (is_in (merged_in host) path) (λ in_.
      let name = passer (λ n. is_prefix (n ∷ []) path) (merged_in host) in_ in
      let related = prefixes_related (name.0 ∷ []) p path name.2 below in
      coming.unlocked p (record {
        touched = ap (λ (i : Items). is_among (touched_by i) p) (sym coming.same) ∙ contained_among (touched_by items) p (resource_touched p at);
        locked = passed (λ n. are_related (n ∷ []) p) (merged_in host) name.0 name.1 related;
      }))

  items_new : (kept : List Manifest) (m : Manifest) → Contains items.resources m.path → HasItems (λ q. lookup root q) m
      → HasItems (base_at (hierarchies_in host) (present (record host { root = root; kept = kept }))) m
  items_new kept m at has =
      files_decide (λ q. lookup root q) (base_at (hierarchies_in host) (present (record host { root = root; kept = kept }))) m
      (λ path below. sym (ap (λ b. if b then lookup host.lower path else lookup root path) (unmerged m.path path at below))) has

  untouched_same : untouched_all touched host.kept ≡ untouched_all (touched_by (items_of writes)) host.kept
  untouched_same =
      same_filter (λ (m : Manifest). not (meets touched m.path)) (λ (m : Manifest). not (meets (touched_by (items_of writes)) m.path)) host.kept
      (λ m. ap not (meets_same m.path ∙ ap (λ (i : Items). meets (touched_by i) m.path) coming.same))

  module _ (kept : List Manifest) (order : IsInPathOrder (untouched_all touched host.kept) root items.resources kept) where
    abbrev old : List Manifest
    old = untouched_all touched host.kept

    abbrev new : List Manifest
    new = order.appends.added

    all_is : order.all ≡ old ++ new
    all_is = order.appends.appended

    old_or_new : (m : Manifest) → Contains kept m → Contains old m ⊎ Contains new m
    old_or_new m at =
        Contains-append_cases old new m (subst (λ ms. Contains ms m) all_is (Contains-permutation kept order.all m (IsPermutation-sym order.all kept order.same) at))

    back : (m : Manifest) → Contains (old ++ new) m → Contains kept m
    back m at = Contains-permutation order.all kept m order.same (subst (λ ms. Contains ms m) (sym all_is) at)

    old_out : (m : Manifest) → Contains old m → Contains host.kept m × (meets (touched_by items) m.path ≡ false)
    old_out m at =
        let parts = filtered (λ (n : Manifest). not (meets touched n.path)) host.kept m at in
        (parts.0, sym (meets_same m.path) ∙ is_false (meets touched m.path) (λ met. true≢false (sym parts.1 ∙ ap not met)))

    new_of : (m : Manifest) → Contains new m → (p : List (List ℕ)) × Contains items.resources p × IsManifestAt root p m
    new_of m at = zip_found (λ p n. IsManifestAt root p n) items.resources new m order.appends.each at

    new_in : (m : Manifest) → Contains new m → Contains items.resources m.path
    new_in m at = let p = new_of m at in subst (Contains items.resources) (sym p.2.path_is) p.1

    old_new : (m n : Manifest) → Contains old m → Contains new n → are_related m.path n.path ≡ false
    old_new m n at also = related_back m.path n.path ∙ not_met (touched_by items) n.path m.path (old_out m at).1 (resource_touched n.path (new_in n also))

    resource_written : (p : List (List ℕ)) → Contains items.resources p → Contains (written items) p
    resource_written p at = Contains-append_left items.resources items.links p at

    new_once : AreOnce new
    new_once path = elim (cases_lt 1 (hits path new)) [
      | inl two ↦
          let m = hit_some path new (omega (arith, two)) in
          let counted = zip_hits (λ p n. IsManifestAt root p n) path items.resources new (λ p n is. is.path_is) order.appends.each in
          let at = subst (Contains items.resources) m.2 (new_in m.0 m.1) in
          absurd (coming.apart path (meets_another (record {
            among = contained_among (written items) path (resource_written path at);
            another = omega (arith, two, counted, sum_by-append (λ q. one_if (are_related path q)) items.resources items.links);
          })))
      | inr fewer ↦ fewer
    ]

    touched_valid : IsValidHost (record host { kept = untouched_all touched host.kept })
    touched_valid = touched_all_is_valid host touched coming.valid

    all_once : AreOnce order.all
    all_once = subst AreOnce (sym all_is)
        (both_once old new (ascending_once old touched_valid.present.kept.order) new_once
        (λ m n at also same. true≢false (sym (ap (λ p. are_related p n.path) same ∙ related_self n.path) ∙ old_new m n at also)))

    kept_ascend : AreAscending path_cmp (map (λ (m : Manifest). m.path) kept)
    kept_ascend = permuted_ascend order.all kept order.same order.order all_once

    new_new : (m n : Manifest) → Contains new m → Contains new n → m.path ≢ n.path → are_related m.path n.path ≡ false
    new_new m n at also other = is_false (are_related m.path n.path) (λ related.
        let first = resource_written m.path (new_in m at) in
        let second = resource_written n.path (new_in n also) in
        coming.apart m.path (meets_another (record {
          among = contained_among (written items) m.path first;
          another = count_two (are_related m.path) (written items) m.path n.path first second other (related_self m.path) related;
        })))

    kept_apart : (m n : Manifest) → Contains kept m → Contains kept n → m.path ≢ n.path → are_related m.path n.path ≡ false
    kept_apart m n at also other = elim (old_or_new m at) [
      | inl first ↦ elim (old_or_new n also) [
        | inl second ↦ apart_pair old m n touched_valid.present.kept.apart first second other
        | inr second ↦ old_new m n first second
      ]
      | inr first ↦ elim (old_or_new n also) [
        | inl second ↦ related_back m.path n.path ∙ old_new n m second first
        | inr second ↦ new_new m n first second other
      ]
    ]

    kept_each : (m : Manifest) → Contains kept m → IsManifest m
    kept_each m at = elim (old_or_new m at) [
      | inl first ↦ all_contained IsManifest old m touched_valid.present.kept.each first
      | inr second ↦
          let p = new_of m second in
          record { path = all_contained (λ q. q ≢ []) items.resources m.path coming.below_root (new_in m second); order = p.2.order }
    ]

    kept_items : (m : Manifest) → Contains kept m → HasItems (base_at (hierarchies_in host) (present (record host { root = root; kept = kept }))) m
    kept_items m at = elim (old_or_new m at) [
      | inl first ↦ items_stay kept m (old_out m first).1 (all_contained (HasItems (base_at (hierarchies_in host) (present host))) host.kept m coming.valid.present.kept.items (old_out m first).0)
      | inr second ↦ items_new kept m (new_in m second) (new_of m second).2.items
    ]

    -- the manifests that are kept
    pub are_kept : AreKept host writes root kept
    are_kept = record {
      order = kept_ascend;
      each = λ path resource.
          let at = subst (λ ps. Contains ps path) (sym coming.resources) (among_contained (paths_of writes.resources) path resource) in
          let m = zip_there (λ p x. IsManifestAt root p x) items.resources new path order.appends.each at in
          (m.0, back m.0 (Contains-append_right old new m.0 m.1), m.2);
      same = λ m. (
        (λ at. elim (old_or_new m at) [
          | inl first ↦ inl (subst (λ ms. Contains ms m) untouched_same first)
          | inr second ↦
              let p = new_of m second in
              inr (record {
                resource = contained_among (paths_of writes.resources) m.path (subst (λ ps. Contains ps m.path) coming.resources (new_in m second));
                files = subst (λ q. IsManifestAt root q m) (sym p.2.path_is) p.2;
              })
        ]),
        (λ why. elim why [
          | inl first ↦ back m (Contains-append_left old new m (subst (λ ms. Contains ms m) (sym untouched_same) first))
          | inr second ↦
              let at = subst (λ ps. Contains ps m.path) (sym coming.resources) (among_contained (paths_of writes.resources) m.path second.resource) in
              let n = zip_there (λ p x. IsManifestAt root p x) items.resources new m.path order.appends.each at in
              let same = one_manifest root m.path n.0 m n.2 second.files in
              back m (Contains-append_right old new m (subst (Contains new) same n.1))
        ]),
      );
    }

    -- the host with them is valid, where its trees are within the limits
    pub next_is_valid : AreInRange root → length root + length host.lower ≤ most_entries → all_bytes root + all_bytes host.lower ≤ most_bytes
        → IsValidHost (record host { root = root; kept = kept })
    next_is_valid range entries bytes = record {
      scope = coming.valid.scope;
      hierarchies = coming.valid.hierarchies;
      present = record {
        lower = coming.valid.present.lower;
        limits = record { root = range; lower = coming.valid.present.limits.lower; entries = entries; bytes = bytes };
        sysext = coming.valid.present.sysext;
        confext = coming.valid.present.confext;
        attached = coming.valid.present.attached;
        kept = record {
          each = each_contained IsManifest kept kept_each;
          order = kept_ascend;
          apart = all_apart kept kept_ascend kept_apart;
          items = each_contained (HasItems (base_at (hierarchies_in host) (present (record host { root = root; kept = kept })))) kept kept_items;
        };
      };
      past = coming.valid.past;
      past_count = coming.valid.past_count;
      past_order = coming.valid.past_order;
    }
