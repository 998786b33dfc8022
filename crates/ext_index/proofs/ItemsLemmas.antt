-- The items of a manifest and the files of a tree.
use Rattle.std.proofs.Common.{◌≡◌, ℕ, zero, suc, ◌<◌, true, false, cond, not, List, [], ◌∷◌, ◌++◌, length, take, drop, drop-cons, get_or, Some, None, is_some, refl, sym, ap, ◌∙◌, subst, arith}
use mathlib.Core.Logic.{inl, inr}
use Rattle.std.specs.Prelude.{◌↔◌, ◌⊎◌, IsTrue, Contains, unwrap_or, map}
use Rattle.std.specs.List.{AllByRecursion}
use Rattle.std.specs.Ordering.{is_lt, is_eq, eq_by_cmp, ordering_reverse}
use Rattle.std.specs.declared.cmp.Ordering.TheVariants.{Less}
use Rattle.std.specs.FinMap.{is_sorted}
use Rattle.std.specs.FinMap.Entries.{below_all, find-where_key, where_key}
use Rattle.std.proofs.lemmas.Bool.{and_parts, and_from, true≢false, false≢true}
use Rattle.std.proofs.lemmas.Grind.{flat_map-append}
use Rattle.std.proofs.lemmas.List.{append_cancel_left, take-append-drop}
use Rattle.std.proofs.lemmas.List.Elements.{Contains-append_left, Contains-append_right}
use Rattle.ext_attributes.specs.Attributes.{OfFile}
use Rattle.ext_text.specs.Order.{paths_exact, paths_total}
use Rattle.ext_text.specs.Path.{is_prefix, is_proper_prefix, path_cmp}
use Rattle.ext_text.specs.declared.digest.Digest.{Digest}
use Rattle.ext_text.proofs.ForCallers.{all_append, all_both, all_weaker, is_less, prefix_both, prefix_less, prefix_self, proper_first, same_path, tied_path}
use Rattle.ext_tree.specs.Tree.{Entries, is_file, lookup}
use Rattle.ext_tree.specs.declared.entry.Entry.{Entry}
use Rattle.ext_tree.specs.declared.entry.Entry.TheVariants.{Dir, Opaque, File, Link, Hide}
use Rattle.ext_host.specs.Held.{HeldFile}
use Rattle.ext_host.specs.Valid.{AreAscending, HasItems, IsManifest}
use Rattle.ext_host.specs.declared.manifest.Item.{Item}
use Rattle.ext_host.specs.declared.manifest.Manifest.{Manifest}
use Rattle.ext_index.specs.Items.{item_of, items_of}

-- items of one path and one digest are equal
pub item_same : (item : Item) (path : List (List ℕ)) (digest : Digest) → item.path ≡ path → item.digest.0 ≡ digest.0 → item ≡ record { path = path; digest = digest }
item_same item path digest p d = λ i. record { path = p i; digest = record { 0 = d i } }

-- an element is the first, or one of the others
contains_cases : {X : Type 0} (x : X) (xs : List X) (y : X) → Contains (x ∷ xs) y → (x ≡ y) ⊎ Contains xs y
contains_cases x xs y (zero, within, is) = inl is
contains_cases x xs y (suc k, within, is) = inr (k, omega arith, is)

-- the path of each comes after this one
below_contained : (path : List (List ℕ)) (xs : List Item) (y : Item) → AllByRecursion (λ q. path_cmp path q ≡ Less) (map (λ item. item.path) xs) → Contains xs y → path_cmp path y.path ≡ Less
below_contained path [] y below (k, within, is) = absurd (omega arith)
below_contained path (x ∷ xs) y below contained = elim (contains_cases x xs y contained) [
  | inl same ↦ subst (λ item. path_cmp path item.path ≡ Less) same below.0
  | inr later ↦ below_contained path xs y below.1 later
]

all_unmapped : (P : List (List ℕ) → Type 0) (xs : List Item) → AllByRecursion P (map (λ item. item.path) xs) → AllByRecursion (λ item. P item.path) xs
all_unmapped P [] all = tt
all_unmapped P (x ∷ xs) all = (all.0, all_unmapped P xs all.1)

-- after the first path, a look-up is one in the rest
later : (e : List (List ℕ) × Entry HeldFile) (es : Entries HeldFile) (q : List (List ℕ)) → path_cmp e.0 q ≡ Less → lookup (e ∷ es) q ≡ lookup es q
later e es q less = ap (λ r. cond (is_eq r) (Some e.1) (lookup es q)) (paths_total.antisymm q e.0 ∙ ap ordering_reverse less)

-- what is found is above what is below all
above : (path : List (List ℕ)) (es : Entries HeldFile) (q : List (List ℕ)) → below_all path_cmp path es ≡ true → is_some (lookup es q) ≡ true → path_cmp path q ≡ Less
above path [] q below found = absurd (false≢true found)
above path (f ∷ es) q below found =
    elim (eq_by_cmp path_cmp q f.0) as (λ b. eq_by_cmp path_cmp q f.0 ≡ b → is_some (cond b (Some f.1) (lookup es q)) ≡ true → path_cmp path q ≡ Less) [
      | true ↦ λ tied _. subst (λ r. path_cmp path r ≡ Less) (sym (same_path q f.0 tied)) (is_less _ (and_parts _ _ below).0)
      | false ↦ λ _ there. above path es q (and_parts _ _ below).1 there
    ] refl found

-- nothing is found below the first path
lowest : (e : List (List ℕ) × Entry HeldFile) (es : Entries HeldFile) (q : List (List ℕ)) → below_all path_cmp e.0 es ≡ true → is_some (lookup (e ∷ es) q) ≡ true → path_cmp q e.0 ≡ Less → ⊥
lowest e es q below found less =
    elim (eq_by_cmp path_cmp q e.0) as (λ b. eq_by_cmp path_cmp q e.0 ≡ b → is_some (cond b (Some e.1) (lookup es q)) ≡ true → ⊥) [
      | true ↦ λ tied _. false≢true (sym (ap is_eq less) ∙ tied)
      | false ↦ λ _ there. true≢false (ap is_lt (sym less ∙ paths_total.antisymm q e.0 ∙ ap ordering_reverse (above e.0 es q below there)))
    ] refl found

-- an item is that of a file
abbrev Found : Entries HeldFile → Item → Type 0
Found es item = (attributes : OfFile) × (held : HeldFile) × (lookup es item.path ≡ Some (File attributes held)) × (held.stamp.digest ≡ item.digest)

-- each file has an item
abbrev AreWhole : Entries HeldFile → List Item → Type 0
AreWhole es items = (path : List (List ℕ)) (attributes : OfFile) (held : HeldFile) → lookup es path ≡ Some (File attributes held) → Contains items (record { path = path; digest = held.stamp.digest })

first_found : (e : List (List ℕ) × Entry HeldFile) (es : Entries HeldFile) → AllByRecursion (Found (e ∷ es)) (item_of e)
first_found (path, Dir attributes) es = tt
first_found (path, Opaque attributes) es = tt
first_found (path, File attributes held) es = ((attributes, held, ap (λ b. cond b (Some (File attributes held)) (lookup es path)) (tied_path path path refl), refl), tt)
first_found (path, Link owner target) es = tt
first_found (path, Hide) es = tt

each_found : (es : Entries HeldFile) → is_sorted path_cmp es ≡ true → AllByRecursion (Found es) (items_of es)
each_found [] sorted = tt
each_found (e ∷ es) sorted =
    all_append (Found (e ∷ es)) (item_of e) (items_of es)
    (first_found e es)
    (all_weaker (Found es) (Found (e ∷ es))
    (λ item f. (f.0, f.1, later e es item.path (above e.0 es item.path (and_parts _ _ sorted).0 (ap is_some f.2)) ∙ f.2, f.3))
    (items_of es) (each_found es (and_parts _ _ sorted).1))

here : (e : List (List ℕ) × Entry HeldFile) (path : List (List ℕ)) (attributes : OfFile) (held : HeldFile) → path ≡ e.0 → e.1 ≡ File attributes held → Contains (item_of e) (record { path = path; digest = held.stamp.digest })
here e path attributes held same is =
    let first : Contains (item_of (path, File attributes held)) (record { path = path; digest = held.stamp.digest }) = (0, omega arith, refl) in
    subst (λ f. Contains (item_of f) (record { path = path; digest = held.stamp.digest })) (λ i. (same i, sym is i)) first

are_whole : (es : Entries HeldFile) → AreWhole es (items_of es)
are_whole [] path attributes held found = absurd (false≢true (ap is_some found))
are_whole (e ∷ es) path attributes held found =
    elim (eq_by_cmp path_cmp path e.0) as (λ b. eq_by_cmp path_cmp path e.0 ≡ b → cond b (Some e.1) (lookup es path) ≡ Some (File attributes held) → Contains (item_of e ++ items_of es) (record { path = path; digest = held.stamp.digest })) [
      | true ↦ λ tied is. Contains-append_left (item_of e) (items_of es) _ (here e path attributes held (same_path path e.0 tied) (ap (λ o. unwrap_or o e.1) is))
      | false ↦ λ _ there. Contains-append_right (item_of e) (items_of es) _ (are_whole es path attributes held there)
    ] refl found

-- where the first is no file, an item is found after it
skipped : (e : List (List ℕ) × Entry HeldFile) (es : Entries HeldFile) → ((attributes : OfFile) (held : HeldFile) → ¬ (e.1 ≡ File attributes held)) → (item : Item) → Found (e ∷ es) item → Found es item
skipped e es other item f = (
  f.0,
  f.1,
  elim (eq_by_cmp path_cmp item.path e.0) as (λ b. cond b (Some e.1) (lookup es item.path) ≡ Some (File f.0 f.1) → lookup es item.path ≡ Some (File f.0 f.1)) [
    | true ↦ λ is. absurd (other f.0 f.1 (ap (λ o. unwrap_or o e.1) is))
    | false ↦ λ there. there
  ] f.2,
  f.3,
)

-- each file of the rest has an item
rest_whole : (e : List (List ℕ) × Entry HeldFile) (es : Entries HeldFile) (items : List Item) → below_all path_cmp e.0 es ≡ true → AreWhole (e ∷ es) items → AreWhole es items
rest_whole e es items below whole q attributes held found = whole q attributes held (later e es q (above e.0 es q below (ap is_some found)) ∙ found)

-- the first item is that of the first file
first_item : (path : List (List ℕ)) (attributes : OfFile) (held : HeldFile) (es : Entries HeldFile) (x : Item) (xs : List Item) → below_all path_cmp path es ≡ true
    → AllByRecursion (λ q. path_cmp x.path q ≡ Less) (map (λ item. item.path) xs) → Found ((path, File attributes held) ∷ es) x → AreWhole ((path, File attributes held) ∷ es) (x ∷ xs)
    → x ≡ record { path = path; digest = held.stamp.digest }
first_item path attributes held es x xs below up found whole =
    elim (contains_cases x xs (record { path = path; digest = held.stamp.digest }) (whole path attributes held (ap (λ b. cond b (Some (File attributes held)) (lookup es path)) (tied_path path path refl)))) [
      | inl same ↦ same
      | inr contained ↦ absurd (lowest (path, File attributes held) es x.path below (ap is_some found.2) (below_contained x.path xs (record { path = path; digest = held.stamp.digest }) up contained))
    ]

-- the other items are those of the rest
other_items_found : (path : List (List ℕ)) (entry : Entry HeldFile) (es : Entries HeldFile) (x : Item) (xs : List Item) → x.path ≡ path
    → AllByRecursion (λ q. path_cmp x.path q ≡ Less) (map (λ item. item.path) xs) → AllByRecursion (Found ((path, entry) ∷ es)) xs → AllByRecursion (Found es) xs
other_items_found path entry es x xs same up found =
    all_weaker (λ item. (path_cmp x.path item.path ≡ Less) × Found ((path, entry) ∷ es) item) (Found es)
    (λ item h. (h.1.0, h.1.1, sym (later (path, entry) es item.path (subst (λ q. path_cmp q item.path ≡ Less) same h.0)) ∙ h.1.2, h.1.3))
    xs (all_both (λ item. path_cmp x.path item.path ≡ Less) (Found ((path, entry) ∷ es)) xs (all_unmapped (λ q. path_cmp x.path q ≡ Less) xs up) found)

other_items_whole : (path : List (List ℕ)) (entry : Entry HeldFile) (es : Entries HeldFile) (x : Item) (xs : List Item) → x.path ≡ path → below_all path_cmp path es ≡ true
    → AreWhole ((path, entry) ∷ es) (x ∷ xs) → AreWhole es xs
other_items_whole path entry es x xs same below whole q attributes held found =
    let less = above path es q below (ap is_some found) in
    elim (contains_cases x xs (record { path = q; digest = held.stamp.digest }) (whole q attributes held (later (path, entry) es q less ∙ found))) [
      | inl is ↦ absurd (false≢true (sym (ap is_eq less) ∙ tied_path path q (sym same ∙ ap (λ item. item.path) is)))
      | inr contained ↦ contained
    ]

exact : (es : Entries HeldFile) (items : List Item) → is_sorted path_cmp es ≡ true → AreAscending path_cmp (map (λ item. item.path) items) → AllByRecursion (Found es) items → AreWhole es items → items ≡ items_of es
exact [] [] sorted up found whole = refl
exact [] (x ∷ xs) sorted up found whole = absurd (false≢true (ap is_some found.0.2))
exact ((path, Dir attributes) ∷ es) items sorted up found whole =
    exact es items (and_parts _ _ sorted).1 up
    (all_weaker _ _ (skipped (path, Dir attributes) es (λ m held is. false≢true (ap is_file is))) items found)
    (rest_whole (path, Dir attributes) es items (and_parts _ _ sorted).0 whole)
exact ((path, Opaque attributes) ∷ es) items sorted up found whole =
    exact es items (and_parts _ _ sorted).1 up
    (all_weaker _ _ (skipped (path, Opaque attributes) es (λ m held is. false≢true (ap is_file is))) items found)
    (rest_whole (path, Opaque attributes) es items (and_parts _ _ sorted).0 whole)
exact ((path, Link owner target) ∷ es) items sorted up found whole =
    exact es items (and_parts _ _ sorted).1 up
    (all_weaker _ _ (skipped (path, Link owner target) es (λ m held is. false≢true (ap is_file is))) items found)
    (rest_whole (path, Link owner target) es items (and_parts _ _ sorted).0 whole)
exact ((path, Hide) ∷ es) items sorted up found whole =
    exact es items (and_parts _ _ sorted).1 up
    (all_weaker _ _ (skipped (path, Hide) es (λ m held is. false≢true (ap is_file is))) items found)
    (rest_whole (path, Hide) es items (and_parts _ _ sorted).0 whole)
exact ((path, File attributes held) ∷ es) [] sorted up found whole =
    let none = whole path attributes held (ap (λ b. cond b (Some (File attributes held)) (lookup es path)) (tied_path path path refl)) in
    let within = none.1 in
    absurd (omega arith)
exact ((path, File attributes held) ∷ es) (x ∷ xs) sorted up found whole =
    let below = (and_parts _ _ sorted).0 in
    let first = first_item path attributes held es x xs below up.0 found.0 whole in
    let same = ap (λ item. item.path) first in
    let rest = exact es xs (and_parts _ _ sorted).1 up.1 (other_items_found path (File attributes held) es x xs same up.0 found.1) (other_items_whole path (File attributes held) es x xs same below whole) in
    λ i. first i ∷ rest i

-- a list is the elements before a place, the one there, and those after it
pub parted_at : {X : Type 0} (xs : List X) (n : ℕ) (x : X) → n < length xs → x ≡ get_or xs n x → xs ≡ take n xs ++ x ∷ drop (suc n) xs
parted_at xs n x within at = sym (take-append-drop n xs) ∙ ap (λ l. take n xs ++ l) (drop-cons xs n x within ∙ ap (λ y. y ∷ drop (suc n) xs) (sym at))

-- what begins otherwise than the item of the next entry isn't the items of all
pub begins_otherwise : (items rest : List Item) (es : Entries HeldFile) (i : ℕ) (e : List (List ℕ) × Entry HeldFile) → i < length es → e ≡ get_or es i e → items ≡ items_of (take i es) ++ rest
    → ((after : List Item) → ¬ (rest ≡ item_of e ++ after)) → ¬ (items ≡ items_of es)
begins_otherwise items rest es i e within at so_far other is =
    other (items_of (drop (suc i) es)) (append_cancel_left (items_of (take i es)) rest (item_of e ++ items_of (drop (suc i) es))
    (sym so_far ∙ is ∙ ap items_of (parted_at es i e within at) ∙ flat_map-append item_of (take i es) (e ∷ drop (suc i) es)))

-- where entries have the files at and below the path of a manifest, their items are what it should say
pub says_what_is : (es fs : Entries HeldFile) (m : Manifest) → IsManifest m → is_sorted path_cmp fs ≡ true
    → ((q : List (List ℕ)) (attributes : OfFile) (held : HeldFile) → is_prefix m.path q ≡ true → lookup es q ≡ Some (File attributes held) → lookup fs q ≡ Some (File attributes held))
    → ((q : List (List ℕ)) (attributes : OfFile) (held : HeldFile) → lookup fs q ≡ Some (File attributes held) → (is_prefix m.path q ≡ true) × (lookup es q ≡ Some (File attributes held)))
    → (m.items ≡ items_of fs) ↔ HasItems (lookup es) m
says_what_is es fs m manifest sorted to back = (
  λ same. record {
    each = subst (AllByRecursion (λ item. IsTrue (is_prefix m.path item.path) × ((attributes : OfFile) × (held : HeldFile) × (lookup es item.path ≡ Some (File attributes held)) × (held.stamp.digest ≡ item.digest)))) (sym same)
        (all_weaker (Found fs) (λ item. IsTrue (is_prefix m.path item.path) × ((attributes : OfFile) × (held : HeldFile) × (lookup es item.path ≡ Some (File attributes held)) × (held.stamp.digest ≡ item.digest)))
        (λ item f. let b = back item.path f.0 f.1 f.2 in (b.0, (f.0, f.1, b.1, f.3)))
        (items_of fs) (each_found fs sorted));
    whole = λ q attributes held prefix found. subst (λ xs. Contains xs (record { path = q; digest = held.stamp.digest })) (sym same) (are_whole fs q attributes held (to q attributes held prefix found));
  },
  λ has. exact fs m.items sorted manifest.order
      (all_weaker (λ item. IsTrue (is_prefix m.path item.path) × ((attributes : OfFile) × (held : HeldFile) × (lookup es item.path ≡ Some (File attributes held)) × (held.stamp.digest ≡ item.digest))) (Found fs)
      (λ item h. (h.1.0, h.1.1, to item.path h.1.0 h.1.1 h.0 h.1.2, h.1.3)) m.items has.each)
      (λ q attributes held found. let b = back q attributes held found in has.whole q attributes held b.0 b.1),
)

-- what stands below a path comes after it
all_below : (p : List (List ℕ)) (es : Entries HeldFile) → below_all path_cmp p (where_key path_cmp (is_proper_prefix p) es) ≡ true
all_below p [] = refl
all_below p (e ∷ es) =
    let rest = all_below p es in
    elim (is_proper_prefix p e.0) as (λ b. is_proper_prefix p e.0 ≡ b → below_all path_cmp p (cond b (e ∷ where_key path_cmp (is_proper_prefix p) es) (where_key path_cmp (is_proper_prefix p) es)) ≡ true) [
      | true ↦ λ proper. and_from _ _ (ap is_lt (prefix_less p e.0 (and_parts _ _ proper).0 ((proper_first p e.0).0 proper).1)) rest
      | false ↦ λ _. rest
    ] refl

-- a look-up among what stands below a path
look_below : (p : List (List ℕ)) (es : Entries HeldFile) (q : List (List ℕ)) → lookup (where_key path_cmp (is_proper_prefix p) es) q ≡ cond (is_proper_prefix p q) (lookup es q) None
look_below p es q = find-where_key path_cmp (is_proper_prefix p) q (λ x tied. ap (is_proper_prefix p) (sym (paths_exact q x tied))) es

-- what stands at or below the path, but not at it, is found there
found_below : (p : List (List ℕ)) (es : Entries HeldFile) (q : List (List ℕ)) → is_prefix p q ≡ true → ¬ (p ≡ q) → lookup (where_key path_cmp (is_proper_prefix p) es) q ≡ lookup es q
found_below p es q prefix other =
    look_below p es q ∙ ap (λ b. cond b (lookup es q) None) (and_from _ _ prefix (
    elim (is_prefix q p) as (λ b. is_prefix q p ≡ b → not b ≡ true) [
      | true ↦ λ back. absurd (other (prefix_both p q prefix back))
      | false ↦ λ _. refl
    ] refl))

-- and what is found there stands below the path
stands_below : (p : List (List ℕ)) (es : Entries HeldFile) (q : List (List ℕ)) (entry : Entry HeldFile) → lookup (where_key path_cmp (is_proper_prefix p) es) q ≡ Some entry → (is_prefix p q ≡ true) × (lookup es q ≡ Some entry)
stands_below p es q entry found =
    elim (is_proper_prefix p q) as (λ b. is_proper_prefix p q ≡ b → cond b (lookup es q) None ≡ Some entry → (is_prefix p q ≡ true) × (lookup es q ≡ Some entry)) [
      | true ↦ λ proper there. ((and_parts _ _ proper).0, there)
      | false ↦ λ _ none. absurd (false≢true (ap is_some none))
    ] refl (sym (look_below p es q) ∙ found)

-- where a file stands at the path, its item and those of what stands below
pub says_the_file : (es : Entries HeldFile) (m : Manifest) (attributes : OfFile) (held : HeldFile) → IsManifest m → is_sorted path_cmp (where_key path_cmp (is_proper_prefix m.path) es) ≡ true → lookup es m.path ≡ Some (File attributes held)
    → (m.items ≡ (record { path = m.path; digest = held.stamp.digest }) ∷ items_of (where_key path_cmp (is_proper_prefix m.path) es)) ↔ HasItems (lookup es) m
says_the_file es m attributes held manifest sorted is =
    let below = where_key path_cmp (is_proper_prefix m.path) es in
    says_what_is es ((m.path, File attributes held) ∷ below) m manifest (and_from _ _ (all_below m.path es) sorted)
    (λ q other file prefix found.
    elim (eq_by_cmp path_cmp q m.path) as (λ b. eq_by_cmp path_cmp q m.path ≡ b → cond b (Some (File attributes held)) (lookup below q) ≡ Some (File other file)) [
      | true ↦ λ tied. sym is ∙ ap (lookup es) (sym (same_path q m.path tied)) ∙ found
      | false ↦ λ apart. found_below m.path es q prefix (λ same. false≢true (sym apart ∙ tied_path q m.path (sym same))) ∙ found
    ] refl)
    (λ q other file.
    elim (eq_by_cmp path_cmp q m.path) as (λ b. eq_by_cmp path_cmp q m.path ≡ b → cond b (Some (File attributes held)) (lookup below q) ≡ Some (File other file) → (is_prefix m.path q ≡ true) × (lookup es q ≡ Some (File other file))) [
      | true ↦ λ tied found.
          let same = same_path q m.path tied in
          (ap (is_prefix m.path) same ∙ prefix_self m.path, ap (lookup es) same ∙ is ∙ found)
      | false ↦ λ _ found. stands_below m.path es q (File other file) found
    ] refl)

-- and elsewhere those of what stands below
pub says_the_files : (es : Entries HeldFile) (m : Manifest) → IsManifest m → is_sorted path_cmp (where_key path_cmp (is_proper_prefix m.path) es) ≡ true
    → ((attributes : OfFile) (held : HeldFile) → ¬ (lookup es m.path ≡ Some (File attributes held)))
    → (m.items ≡ items_of (where_key path_cmp (is_proper_prefix m.path) es)) ↔ HasItems (lookup es) m
says_the_files es m manifest sorted other =
    says_what_is es (where_key path_cmp (is_proper_prefix m.path) es) m manifest sorted
    (λ q attributes held prefix found. found_below m.path es q prefix (λ same. other attributes held (ap (lookup es) same ∙ found)) ∙ found)
    (λ q attributes held found. stands_below m.path es q (File attributes held) found)
