-- The manifest of what stands at and below a path.
use Rattle.std.proofs.Common.{◌≡◌, ◌⊎◌, inl, inr, ℕ, true, false, cond, not, List, [], ◌∷◌, ◌++◌, map, Option, Some, None, is_some, refl, sym, ap, subst, ◌∙◌, arith}
use Rattle.std.specs.Prelude.{IsTrue, Contains}
use Rattle.std.specs.Cmp.{tied_itself}
use Rattle.std.specs.FinMap.{is_sorted}
use Rattle.std.specs.FinMap.Entries.{below_all, where_key}
use Rattle.std.specs.List.{AllByRecursion}
use Rattle.std.specs.Ordering.{eq_by_cmp, is_eq, is_lt, ordering_reverse}
use Rattle.std.specs.declared.cmp.Ordering.TheVariants.{Less}
use Rattle.std.proofs.lemmas.Bool.{and_from, and_parts, false≢true, true≢false}
use Rattle.std.proofs.lemmas.List.Elements.{Contains-append_left, Contains-append_right}
use Rattle.ext_attributes.specs.Attributes.{OfFile}
use Rattle.ext_text.specs.Order.{paths_total}
use Rattle.ext_text.specs.Path.{is_prefix, is_proper_prefix, path_cmp}
use Rattle.ext_text.proofs.ForCallers.{all_append, all_both, all_weaker, is_less, prefix_both, prefix_less, prefix_self, proper_first, same_path}
use Rattle.ext_tree.specs.Tree.{Entries, lookup}
use Rattle.ext_tree.specs.declared.entry.Entry.{Entry}
use Rattle.ext_tree.specs.declared.entry.Entry.TheVariants.{Dir, Opaque, File, Link, Hide}
use Rattle.ext_tree.proofs.ForCallers.{lookup_where, where_all}
use Rattle.ext_host.specs.Held.{HeldFile}
use Rattle.ext_host.specs.Valid.{AreAscending}
use Rattle.ext_host.specs.declared.manifest.Item.{Item}
use Rattle.ext_host.specs.declared.manifest.Manifest.{Manifest}
use Rattle.ext_updated.specs.Laws.{OneManifest}
use Rattle.ext_updated.specs.Manifests.{IsManifestAt, file_item, file_items, top_items}
use Rattle.ext_updated.proofs.PiecesLemmas.{all_contained, contains_cases, none_contained}

abbrev Paths : List Item → List (List (List ℕ))
Paths items = map (λ item. item.path) items

-- the order of the items

after_more : (x p : List (List ℕ)) (e : Entry HeldFile) (items : List Item) → path_cmp x p ≡ Less → AllByRecursion (λ y. path_cmp x y ≡ Less) (Paths items) → AllByRecursion (λ y. path_cmp x y ≡ Less) (Paths (file_item p e ++ items))
after_more x p (Dir attributes) items here later = later
after_more x p (Opaque attributes) items here later = later
after_more x p (File attributes held) items here later = (here, later)
after_more x p (Link owner target) items here later = later
after_more x p Hide items here later = later

ascending_more : (p : List (List ℕ)) (e : Entry HeldFile) (items : List Item) → AllByRecursion (λ y. path_cmp p y ≡ Less) (Paths items) → AreAscending path_cmp (Paths items) → AreAscending path_cmp (Paths (file_item p e ++ items))
ascending_more p (Dir attributes) items after up = up
ascending_more p (Opaque attributes) items after up = up
ascending_more p (File attributes held) items after up = (after, up)
ascending_more p (Link owner target) items after up = up
ascending_more p Hide items after up = up

files_after : (x : List (List ℕ)) (es : Entries HeldFile) → below_all path_cmp x es ≡ true → AllByRecursion (λ y. path_cmp x y ≡ Less) (Paths (file_items es))
files_after x [] below = tt
files_after x (e ∷ es) below =
    let parts = and_parts (is_lt (path_cmp x e.0)) (below_all path_cmp x es) below in
    after_more x e.0 e.1 (file_items es) (is_less _ parts.0) (files_after x es parts.1)

files_ascend : (es : Entries HeldFile) → is_sorted path_cmp es ≡ true → AreAscending path_cmp (Paths (file_items es))
files_ascend [] sorted = tt
files_ascend (e ∷ es) sorted =
    let parts = and_parts (below_all path_cmp e.0 es) (is_sorted path_cmp es) sorted in
    ascending_more e.0 e.1 (file_items es) (files_after e.0 es parts.0) (files_ascend es parts.1)

top_ascends : (p : List (List ℕ)) (top : Option (Entry HeldFile)) (items : List Item) → AllByRecursion (λ y. path_cmp p y ≡ Less) (Paths items) → AreAscending path_cmp (Paths items) → AreAscending path_cmp (Paths (top_items p top ++ items))
top_ascends p None items after up = up
top_ascends p (Some e) items after up = ascending_more p e items after up

proper_less : (p q : List (List ℕ)) → is_proper_prefix p q ≡ true → path_cmp p q ≡ Less
proper_less p q proper = prefix_less p q (and_parts (is_prefix p q) (not (is_prefix q p)) proper).0 ((proper_first p q).0 proper).1

all_below : (p : List (List ℕ)) (es : Entries HeldFile) → AllByRecursion (λ e. is_proper_prefix p e.0 ≡ true) es → below_all path_cmp p es ≡ true
all_below p [] all = refl
all_below p (e ∷ es) all = and_from _ _ (ap is_lt (proper_less p e.0 all.0)) (all_below p es all.1)

-- each item is a file

module _ (es : Entries HeldFile) (path : List (List ℕ)) where
  -- a file at or below the path
  abbrev IsFileThere : Item → Type 0
  IsFileThere item = IsTrue (is_prefix path item.path) × ((attributes : OfFile) × (held : HeldFile) × (lookup es item.path ≡ Some (File attributes held)) × (held.stamp.digest ≡ item.digest))

  -- an entry of the tree at or below the path
  abbrev IsThere : List (List ℕ) × Entry HeldFile → Type 0
  IsThere e = IsTrue (is_prefix path e.0) × (lookup es e.0 ≡ Some e.1)

  file_there : (p : List (List ℕ)) (e : Entry HeldFile) → IsThere (p, e) → AllByRecursion IsFileThere (file_item p e)
  file_there p (Dir attributes) there = tt
  file_there p (Opaque attributes) there = tt
  file_there p (File attributes held) there = ((there.0, (attributes, held, there.1, refl)), tt)
  file_there p (Link owner target) there = tt
  file_there p Hide there = tt

  files_there : (fs : Entries HeldFile) → AllByRecursion IsThere fs → AllByRecursion IsFileThere (file_items fs)
  files_there [] all = tt
  files_there (f ∷ fs) all = all_append IsFileThere (file_item f.0 f.1) (file_items fs) (file_there f.0 f.1 all.0) (files_there fs all.1)

  top_there : (top : Option (Entry HeldFile)) → lookup es path ≡ top → AllByRecursion IsFileThere (top_items path top)
  top_there None is = tt
  top_there (Some e) is = file_there path e (prefix_self path, is)

-- and each file is an item

file_contained : (p q : List (List ℕ)) (e : Entry HeldFile) (attributes : OfFile) (held : HeldFile) → q ≡ p → e ≡ File attributes held → Contains (file_item p e) (record { path = q; digest = held.stamp.digest })
file_contained p q e attributes held same is =
    subst (λ x. Contains (file_item p x) (record { path = q; digest = held.stamp.digest })) (sym is)
    (subst (λ x. Contains (file_item x (File attributes held)) (record { path = q; digest = held.stamp.digest })) same (0, omega arith, refl))

same_entry : (e f : Entry HeldFile) → Some e ≡ Some f → e ≡ f
same_entry e f is = cc is

files_contained : (fs : Entries HeldFile) (q : List (List ℕ)) (attributes : OfFile) (held : HeldFile) → lookup fs q ≡ Some (File attributes held) → Contains (file_items fs) (record { path = q; digest = held.stamp.digest })
files_contained [] q attributes held at = absurd (false≢true (ap is_some at))
files_contained (f ∷ fs) q attributes held at =
    elim (eq_by_cmp path_cmp q f.0) as (λ b. eq_by_cmp path_cmp q f.0 ≡ b → cond b (Some f.1) (lookup fs q) ≡ Some (File attributes held) → Contains (file_item f.0 f.1 ++ file_items fs) (record { path = q; digest = held.stamp.digest })) [
      | true ↦ λ tied here. Contains-append_left (file_item f.0 f.1) (file_items fs) _ (file_contained f.0 q f.1 attributes held (same_path q f.0 tied) (same_entry f.1 (File attributes held) here))
      | false ↦ λ _ later. Contains-append_right (file_item f.0 f.1) (file_items fs) _ (files_contained fs q attributes held later)
    ] refl at

top_contained : (p q : List (List ℕ)) (top : Option (Entry HeldFile)) (attributes : OfFile) (held : HeldFile) → q ≡ p → top ≡ Some (File attributes held) → Contains (top_items p top) (record { path = q; digest = held.stamp.digest })
top_contained p q None attributes held same is = absurd (false≢true (ap is_some is))
top_contained p q (Some e) attributes held same is = file_contained p q e attributes held same (same_entry e (File attributes held) is)

-- the manifest

-- each entry of entries in order is found by its path
each_there : (fs : Entries HeldFile) → is_sorted path_cmp fs ≡ true → AllByRecursion (λ f. lookup fs f.0 ≡ Some f.1) fs
each_there [] sorted = tt
each_there (f ∷ fs) sorted =
    let parts = and_parts (below_all path_cmp f.0 fs) (is_sorted path_cmp fs) sorted in (
      ap (λ o. cond (is_eq o) (Some f.1) (lookup fs f.0)) (tied_itself paths_total f.0),
      later fs (each_there fs parts.1) parts.0,
    )
  where
    later : (gs : Entries HeldFile) → AllByRecursion (λ g. lookup fs g.0 ≡ Some g.1) gs → below_all path_cmp f.0 gs ≡ true → AllByRecursion (λ g. lookup (f ∷ fs) g.0 ≡ Some g.1) gs
    later [] all below = tt
    later (g ∷ gs) all below =
        let parts = and_parts (is_lt (path_cmp f.0 g.0)) (below_all path_cmp f.0 gs) below in
        (past g (is_less _ parts.0) all.0, later gs all.1 parts.1)
      where
        past : (g : List (List ℕ) × Entry HeldFile) → path_cmp f.0 g.0 ≡ Less → lookup fs g.0 ≡ Some g.1 → lookup (f ∷ fs) g.0 ≡ Some g.1
        past g less at = ap (λ o. cond (is_eq o) (Some f.1) (lookup fs g.0)) (paths_total.antisymm g.0 f.0 ∙ ap ordering_reverse less) ∙ at

pub manifest_is : (es : Entries HeldFile) (path : List (List ℕ)) (manifest : Manifest) → is_sorted path_cmp (where_key path_cmp (is_proper_prefix path) es) ≡ true → manifest.path ≡ path
    → manifest.items ≡ top_items path (lookup es path) ++ file_items (where_key path_cmp (is_proper_prefix path) es) → IsManifestAt es path manifest
manifest_is es path manifest below_sorted path_is is = record {
  path_is = path_is;
  order = subst (λ items. AreAscending path_cmp (Paths items)) (sym is) (top_ascends path (lookup es path) (file_items below) (files_after path below (all_below path below proper)) (files_ascend below below_sorted));
  items = record {
    each = subst (λ p. AllByRecursion (IsFileThere es p) manifest.items) (sym path_is) (subst (λ items. AllByRecursion (IsFileThere es path) items) (sym is)
        (all_append (IsFileThere es path) (top_items path (lookup es path)) (file_items below) (top_there es path (lookup es path) refl) (files_there es path below there)));
    whole = λ q attributes held prefix at. subst (λ items. Contains items (record { path = q; digest = held.stamp.digest })) (sym is) (one q attributes held (subst (λ p. is_prefix p q ≡ true) path_is prefix) at);
  };
}
  where
    below : Entries HeldFile
    below = where_key path_cmp (is_proper_prefix path) es

    proper : AllByRecursion (λ e. is_proper_prefix path e.0 ≡ true) below
    proper = where_all path_cmp (is_proper_prefix path) es

    there : AllByRecursion (IsThere es path) below
    there = all_weaker (λ (e : List (List ℕ) × Entry HeldFile). (is_proper_prefix path e.0 ≡ true) × (lookup below e.0 ≡ Some e.1)) (IsThere es path)
        (λ e both. (
          (and_parts (is_prefix path e.0) _ both.0).0,
          sym (lookup_where (is_proper_prefix path) e.0 es ∙ ap (λ b. cond b (lookup es e.0) None) both.0) ∙ both.1,
        )) below (all_both (λ (e : List (List ℕ) × Entry HeldFile). is_proper_prefix path e.0 ≡ true) (λ e. lookup below e.0 ≡ Some e.1) below proper (each_there below below_sorted))

    one : (q : List (List ℕ)) (attributes : OfFile) (held : HeldFile) → is_prefix path q ≡ true → lookup es q ≡ Some (File attributes held) → Contains (top_items path (lookup es path) ++ file_items below) (record { path = q; digest = held.stamp.digest })
    one q attributes held prefix at =
        elim (is_prefix q path) as (λ b. is_prefix q path ≡ b → Contains (top_items path (lookup es path) ++ file_items below) (record { path = q; digest = held.stamp.digest })) [
          | true ↦ λ back.
              let same = prefix_both q path back prefix in
              Contains-append_left (top_items path (lookup es path)) (file_items below) _ (top_contained path q (lookup es path) attributes held same (ap (lookup es) (sym same) ∙ at))
          | false ↦ λ out.
              Contains-append_right (top_items path (lookup es path)) (file_items below) _
              (files_contained below q attributes held (lookup_where (is_proper_prefix path) q es ∙ ap (λ b. cond b (lookup es q) None) (and_from _ _ prefix (ap not out)) ∙ at))
        ] refl

-- the items, step by step
pub items_are : (es below : Entries HeldFile) (path names : List (List ℕ)) (top : Option (Entry HeldFile)) (none first whole items : List Item) → names ≡ path → below ≡ where_key path_cmp (is_proper_prefix names) es
    → none ≡ [] → top ≡ lookup es path → first ≡ none ++ top_items path top → whole ≡ first ++ file_items below → items ≡ whole
    → items ≡ top_items path (lookup es path) ++ file_items (where_key path_cmp (is_proper_prefix path) es)
items_are es below path names top none first whole items names_is below_is none_is top_is put rest is =
    let under : below ≡ where_key path_cmp (is_proper_prefix path) es = below_is ∙ ap (λ p. where_key path_cmp (is_proper_prefix p) es) names_is in
    let begin : first ≡ top_items path (lookup es path) = put ∙ (λ i. none_is i ++ top_items path (top_is i)) in
    is ∙ rest ∙ (λ i. begin i ++ file_items (under i))

-- one manifest

less_itself : (p : List (List ℕ)) → path_cmp p p ≡ Less → ⊥
less_itself p less = true≢false (sym (ap is_lt less) ∙ ap is_lt (tied_itself paths_total p))

after_contained : (p : List (List ℕ)) (xs : List Item) (x : Item) → AllByRecursion (λ q. path_cmp p q ≡ Less) (Paths xs) → Contains xs x → path_cmp p x.path ≡ Less
after_contained p [] x above at = absurd (none_contained x at)
after_contained p (y ∷ xs) x above at = elim (contains_cases y x xs at) [
  | inl same ↦ subst (λ (z : Item). path_cmp p z.path ≡ Less) same above.0
  | inr later ↦ after_contained p xs x above.1 later
]

rest_contained : (x y z : Item) (xs ys : List Item) → x ≡ y → AllByRecursion (λ q. path_cmp x.path q ≡ Less) (Paths xs) → Contains xs z → (y ≡ z) ⊎ Contains ys z → Contains ys z
rest_contained x y z xs ys first above at (inl same) =
    absurd (less_itself z.path (subst (λ (w : Item). path_cmp w.path z.path ≡ Less) (first ∙ same) (after_contained x.path xs z above at)))
rest_contained x y z xs ys first above at (inr later) = later

same_first : (x y : Item) (xs ys : List Item) → AllByRecursion (λ q. path_cmp x.path q ≡ Less) (Paths xs) → AllByRecursion (λ q. path_cmp y.path q ≡ Less) (Paths ys) → (y ≡ x) ⊎ Contains ys x → (x ≡ y) ⊎ Contains xs y → x ≡ y
same_first x y xs ys above other (inl same) back = sym same
same_first x y xs ys above other (inr later) (inl same) = same
same_first x y xs ys above other (inr later) (inr after) =
    absurd (less_itself x.path (paths_total.trans x.path y.path x.path (after_contained x.path xs y above after) (after_contained y.path ys x other later)))

-- items in path order that are the same are equal
same_items : (xs ys : List Item) → AreAscending path_cmp (Paths xs) → AreAscending path_cmp (Paths ys) → ((x : Item) → Contains xs x → Contains ys x) → ((y : Item) → Contains ys y → Contains xs y) → xs ≡ ys
same_items [] [] up other there back = refl
same_items [] (y ∷ ys) up other there back = absurd (none_contained y (back y (0, omega arith, refl)))
same_items (x ∷ xs) [] up other there back = absurd (none_contained x (there x (0, omega arith, refl)))
same_items (x ∷ xs) (y ∷ ys) up other there back =
    let first = same_first x y xs ys up.0 other.0 (contains_cases y x ys (there x (0, omega arith, refl))) (contains_cases x y xs (back y (0, omega arith, refl))) in
    let rest = same_items xs ys up.1 other.1
    (λ z at. rest_contained x y z xs ys first up.0 at (contains_cases y z ys (there z (Contains-append_right (x ∷ []) xs z at))))
    (λ z at. rest_contained y x z ys xs (sym first) other.0 at (contains_cases x z xs (back z (Contains-append_right (y ∷ []) ys z at)))) in
    λ i. first i ∷ rest i

item_there : (es : Entries HeldFile) (path : List (List ℕ)) (a b : Manifest) → IsManifestAt es path a → IsManifestAt es path b → (item : Item) → Contains a.items item → Contains b.items item
item_there es path a b one other item at =
    let file = all_contained (IsFileThere es a.path) a.items item one.items.each at in
    let prefix = subst (λ p. is_prefix p item.path ≡ true) (one.path_is ∙ sym other.path_is) file.0 in
    let found = file.1 in
    subst (λ d. Contains b.items (record { path = item.path; digest = d })) found.3 (other.items.whole item.path found.0 found.1 prefix found.2)

pub one_manifest : OneManifest
one_manifest es path a b one other =
    let paths : a.path ≡ b.path = one.path_is ∙ sym other.path_is in
    let items : a.items ≡ b.items = same_items a.items b.items one.order other.order (item_there es path a b one other) (item_there es path b a other one) in
    λ i. record { path = paths i; items = items i }
