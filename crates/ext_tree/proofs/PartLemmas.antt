-- What stands below a path, and what is left without it: look-ups, and that both are trees.
use Rattle.std.proofs.Common.{◌≡◌, ℕ, suc, ◌+◌, ◌-◌, ◌<◌, ◌≤◌, Bool, true, false, cond, not, ◌&&◌, List, [], ◌∷◌, ◌++◌, length, take, drop, Some, None, is_some, refl, sym, ap, ◌∙◌, subst, arith, length-append}
use Rattle.std.specs.Prelude.{IsTrue, map}
use mathlib.Core.Logic.{inl, inr}
use Rattle.std.specs.List.{filter, sum_by}
use Rattle.std.specs.Ordering.{is_eq, is_lt, ordering_then}
use Rattle.std.specs.declared.cmp.Ordering.TheVariants.{Equal}
use Rattle.std.specs.FinMap.{find, is_sorted}
use Rattle.std.specs.FinMap.Entries.{where_key, below_all, find-where_key, is_sorted-where_key}
use Rattle.std.proofs.lemmas.Bool.{and_parts, and_from, true≢false, false≢true, false_from_ne_true, or_cases, or_left, or_right}
use Rattle.std.proofs.lemmas.Float.{T_from_true}
use Rattle.std.proofs.lemmas.List.{length-map, append-nil}
use Rattle.std.proofs.lemmas.List.Filters.{sum_by-filter_both}
use Rattle.ext_text.specs.Path.{IsPath, path_cmp, parent, is_prefix, is_proper_prefix}
use Rattle.ext_text.specs.Order.{paths_exact}
use Rattle.ext_text.proofs.ForCallers.{true_from_T, same_name, names_tied, prefix_self, prefix_trans, parent_prefix, rest_path}
use Rattle.ext_tree.specs.Tree.{Entries, IsTree, IsTreeWithin, lookup, is_directory_at, is_directory_or_root}
use Rattle.ext_tree.specs.declared.entry.Entry.{Entry}
use Rattle.ext_tree.specs.Part.{IsPart, part, seen_from}
use Rattle.ext_text.specs.SortedPaths.{covers}
use Rattle.ext_tree.specs.Cut.{IsCut, IsCutAll, cut, cut_all}

-- a path below another one is that one and the rest
pub prefix_split : (p q : List (List ℕ)) → is_prefix p q ≡ true → q ≡ p ++ drop (length p) q
prefix_split [] q prefix = refl
prefix_split (n ∷ p) [] prefix = absurd (false≢true prefix)
prefix_split (n ∷ p) (m ∷ q) prefix =
    let parts = and_parts _ (is_prefix p q) prefix in
    let name : m ≡ n = sym (same_name n m parts.0) in
    let rest : q ≡ p ++ drop (length p) q = prefix_split p q parts.1 in
    λ i. name i ∷ rest i

-- a path is a prefix of what goes on from it
pub prefix_append : (p q : List (List ℕ)) → is_prefix p (p ++ q) ≡ true
prefix_append [] q = refl
prefix_append (n ∷ p) q = and_from _ _ (ap is_eq (names_tied n)) (prefix_append p q)

-- what goes on from it is the rest
pub drop_append : (p q : List (List ℕ)) → drop (length p) (p ++ q) ≡ q
drop_append [] q = refl
drop_append (n ∷ p) q = drop_append p q

-- below one path the order is that of the rests
pub cmp_prefix : (p q r : List (List ℕ)) → path_cmp (p ++ q) (p ++ r) ≡ path_cmp q r
cmp_prefix [] q r = refl
cmp_prefix (n ∷ p) q r = ap (λ o. ordering_then o (path_cmp (p ++ q) (p ++ r))) (names_tied n) ∙ cmp_prefix p q r

-- a path and one more name or more lies below it
pub below_append : (p : List (List ℕ)) (n : List ℕ) (q : List (List ℕ)) → is_proper_prefix p (p ++ n ∷ q) ≡ true
below_append [] n q = refl
below_append (m ∷ p) n q =
    let rest = and_parts (is_prefix p (p ++ n ∷ q)) (not (is_prefix (p ++ n ∷ q) p)) (below_append p n q) in
    and_from _ _ (and_from _ _ (ap is_eq (names_tied m)) rest.0)
    ((λ i. not (is_eq (names_tied m i) && is_prefix (p ++ n ∷ q) p)) ∙ rest.1)

pub not_below_itself : (p : List (List ℕ)) → is_proper_prefix p p ≡ false
not_below_itself p = λ i. prefix_self p i && not (prefix_self p i)

parent_cons : (m : List ℕ) (p : List (List ℕ)) → 0 < length p → parent (m ∷ p) ≡ m ∷ parent p
parent_cons m p some =
    let count : length (m ∷ p) - 1 ≡ suc (length p - 1) = omega arith in
    ap (λ k. take k (m ∷ p)) count

-- the parent of a path below another one
pub parent_append : (p : List (List ℕ)) (n : List ℕ) (q : List (List ℕ)) → parent (p ++ n ∷ q) ≡ p ++ parent (n ∷ q)
parent_append [] n q = refl
parent_append (m ∷ p) n q =
    let some : 0 < length (p ++ n ∷ q) = omega (arith, length-append p (n ∷ q)) in
    parent_cons m (p ++ n ∷ q) some ∙ ap (λ r. m ∷ r) (parent_append p n q)

-- and of one directly below it
pub parent_child : (p : List (List ℕ)) (n : List ℕ) → parent (p ++ n ∷ []) ≡ p
parent_child p n = parent_append p n [] ∙ append-nil p

-- what is found below a path is found with that prefix taken off
find_seen : {C : Type 0} (p q : List (List ℕ)) (es : Entries C) → find path_cmp q (map (seen_from p) (where_key path_cmp (is_proper_prefix p) es)) ≡ find path_cmp (p ++ q) (where_key path_cmp (is_proper_prefix p) es)
find_seen p q [] = refl
find_seen {C = C} p q (e ∷ es) =
    elim (is_proper_prefix p e.0) as (λ b. is_proper_prefix p e.0 ≡ b → find path_cmp q (map (seen_from p) (cond b (e ∷ below es) (below es))) ≡ find path_cmp (p ++ q) (cond b (e ∷ below es) (below es))) [
      | true ↦ λ in_.
          let split = prefix_split p e.0 (and_parts (is_prefix p e.0) _ in_).0 in
          let same : path_cmp q (drop (length p) e.0) ≡ path_cmp (p ++ q) e.0 = sym (cmp_prefix p q (drop (length p) e.0)) ∙ ap (path_cmp (p ++ q)) (sym split) in
          λ i. cond (is_eq (same i)) (Some e.1) (find_seen p q es i)
      | false ↦ λ _. find_seen p q es
    ] refl
  where
    below : Entries C → Entries C
    below fs = where_key path_cmp (is_proper_prefix p) fs

alike : (f : List (List ℕ) → Bool) (q x : List (List ℕ)) → path_cmp q x ≡ Equal → f x ≡ f q
alike f q x tied = ap f (sym (paths_exact q x tied))

-- a look-up in the part
pub lookup_part : {C : Type 0} (p : List (List ℕ)) (n : List ℕ) (q : List (List ℕ)) (es : Entries C) → lookup (part p es) (n ∷ q) ≡ lookup es (p ++ n ∷ q)
lookup_part p n q es =
    find_seen p (n ∷ q) es ∙ find-where_key path_cmp (is_proper_prefix p) (p ++ n ∷ q) (alike (is_proper_prefix p) (p ++ n ∷ q)) es
    ∙ ap (λ b. cond b (lookup es (p ++ n ∷ q)) None) (below_append p n q)

-- a part has nothing at its root
pub root_part : {C : Type 0} (p : List (List ℕ)) (es : Entries C) → lookup (part p es) [] ≡ None
root_part p es =
    find_seen p [] es ∙ ap (λ r. find path_cmp r (where_key path_cmp (is_proper_prefix p) es)) (append-nil p)
    ∙ find-where_key path_cmp (is_proper_prefix p) p (alike (is_proper_prefix p) p) es
    ∙ ap (λ b. cond b (lookup es p) None) (not_below_itself p)

pub is_part : {C : Type 0} (p : List (List ℕ)) (es : Entries C) → IsPart es p (part p es)
is_part p es [] = root_part p es
is_part p es (n ∷ q) = lookup_part p n q es

seen_below : {C : Type 0} (p x : List (List ℕ)) (es : Entries C) → is_prefix p x ≡ true → below_all path_cmp x (where_key path_cmp (is_proper_prefix p) es) ≡ true → below_all path_cmp (drop (length p) x) (map (seen_from p) (where_key path_cmp (is_proper_prefix p) es)) ≡ true
seen_below p x [] prefix below = refl
seen_below {C = C} p x (e ∷ es) prefix h =
    elim (is_proper_prefix p e.0) as (λ b. is_proper_prefix p e.0 ≡ b → below_all path_cmp x (cond b (e ∷ rest es) (rest es)) ≡ true → below_all path_cmp (drop (length p) x) (map (seen_from p) (cond b (e ∷ rest es) (rest es))) ≡ true) [
      | true ↦ λ in_ below.
          let parts = and_parts (is_lt (path_cmp x e.0)) (below_all path_cmp x (rest es)) below in
          let here = prefix_split p x prefix in
          let there = prefix_split p e.0 (and_parts (is_prefix p e.0) _ in_).0 in
          and_from _ _ (ap is_lt (sym (cmp_prefix p (drop (length p) x) (drop (length p) e.0)) ∙ (λ i. path_cmp (sym here i) (sym there i))) ∙ parts.0) (seen_below p x es prefix parts.1)
      | false ↦ λ _ below. seen_below p x es prefix below
    ] refl h
  where
    rest : Entries C → Entries C
    rest fs = where_key path_cmp (is_proper_prefix p) fs

sorted_seen : {C : Type 0} (p : List (List ℕ)) (es : Entries C) → is_sorted path_cmp (where_key path_cmp (is_proper_prefix p) es) ≡ true → is_sorted path_cmp (part p es) ≡ true
sorted_seen p [] h = refl
sorted_seen {C = C} p (e ∷ es) sorted =
    elim (is_proper_prefix p e.0) as (λ b. is_proper_prefix p e.0 ≡ b → is_sorted path_cmp (cond b (e ∷ rest es) (rest es)) ≡ true → is_sorted path_cmp (map (seen_from p) (cond b (e ∷ rest es) (rest es))) ≡ true) [
      | true ↦ λ in_ h.
          let parts = and_parts (below_all path_cmp e.0 (rest es)) (is_sorted path_cmp (rest es)) h in
          and_from _ _ (seen_below p e.0 es (and_parts (is_prefix p e.0) _ in_).0 parts.0) (sorted_seen p es parts.1)
      | false ↦ λ _ h. sorted_seen p es h
    ] refl sorted
  where
    rest : Entries C → Entries C
    rest fs = where_key path_cmp (is_proper_prefix p) fs

-- what is a directory of the whole is one of the part
part_directory : {C : Type 0} (p q : List (List ℕ)) (es : Entries C) → is_directory_or_root es (p ++ q) ≡ true → is_directory_or_root (part p es) q ≡ true
part_directory p [] es directory = refl
part_directory p (n ∷ q) es directory = ap is_directory_at (lookup_part p n q es) ∙ longer p directory
  where
    longer : (p : List (List ℕ)) → is_directory_or_root es (p ++ n ∷ q) ≡ true → is_directory_at (lookup es (p ++ n ∷ q)) ≡ true
    longer [] directory = directory
    longer (m ∷ p) directory = directory

-- the part of a tree is a tree
pub tree_part : {C : Type 0} (p : List (List ℕ)) (es : Entries C) → IsTree es → IsTree (part p es)
tree_part {C = C} p es tree = record {
  sorted = sorted_seen p es (true_from_T _ (is_sorted-where_key path_cmp (is_proper_prefix p) es (T_from_true _ tree.sorted)));
  root = root_part p es;
  paths = paths;
  parents = parents;
}
  where
    paths : (q : List (List ℕ)) → IsTrue (is_some (lookup (part p es) q)) → IsPath q
    paths [] there = absurd (false≢true (sym (ap is_some (root_part p es)) ∙ there))
    paths (n ∷ q) there = subst IsPath (drop_append p (n ∷ q)) (rest_path (length p) (p ++ n ∷ q) (tree.paths (p ++ n ∷ q) (sym (ap is_some (lookup_part p n q es)) ∙ there)))

    parents : (q : List (List ℕ)) → IsTrue (is_some (lookup (part p es) q)) → IsTrue (is_directory_or_root (part p es) (parent q))
    parents [] there = absurd (false≢true (sym (ap is_some (root_part p es)) ∙ there))
    parents (n ∷ q) there = part_directory p (parent (n ∷ q)) es (subst (λ r. is_directory_or_root es r ≡ true) (parent_append p n q) (tree.parents (p ++ n ∷ q) (sym (ap is_some (lookup_part p n q es)) ∙ there)))

length-where : {X : Type 0} (f : X → Bool) (xs : List X) → length (filter f xs) ≤ length xs
length-where f [] = omega arith
length-where f (x ∷ xs) = elim (f x) as (λ b. length (cond b (x ∷ filter f xs) (filter f xs)) ≤ suc (length xs)) [
  | true ↦ let rest : length (filter f xs) ≤ length xs = length-where f xs in omega arith
  | false ↦ let rest : length (filter f xs) ≤ length xs = length-where f xs in omega arith
]

-- a part is a tree within the limits
pub tree_part_within : {C : Type 0} (p : List (List ℕ)) (es : Entries C) → IsTreeWithin es → IsTreeWithin (part p es)
tree_part_within p es is = record {
  tree = tree_part p es is.tree;
  count = omega (arith, length-map (where_key path_cmp (is_proper_prefix p) es) (seen_from p), length-where (λ e. is_proper_prefix p e.0) es, is.count);
}

-- a cut is what is left
pub is_cut : {C : Type 0} (p : List (List ℕ)) (es : Entries C) → IsCut es p (cut p es)
is_cut p es q =
    find-where_key path_cmp (λ q. not (is_prefix p q)) q (alike (λ q. not (is_prefix p q)) q) es
    ∙ elim (is_prefix p q) as (λ b. cond (not b) (lookup es q) None ≡ cond b None (lookup es q)) [ true ↦ refl | false ↦ refl ]

-- what is still found is outside, and was found before
cut_there : {C : Type 0} (p q : List (List ℕ)) (es : Entries C) → is_some (lookup (cut p es) q) ≡ true → (is_prefix p q ≡ false) × (is_some (lookup es q) ≡ true)
cut_there p q es there =
    elim (is_prefix p q) as (λ b. is_prefix p q ≡ b → is_some (cond b None (lookup es q)) ≡ true → (is_prefix p q ≡ false) × (is_some (lookup es q) ≡ true)) [
      | true ↦ λ _ none. absurd (false≢true none)
      | false ↦ λ out some. (out, some)
    ] refl (sym (ap is_some (is_cut p es q)) ∙ there)

-- a directory that is not below the path stays
cut_directory : {C : Type 0} (p q : List (List ℕ)) (es : Entries C) → is_prefix p q ≡ false → is_directory_or_root es q ≡ true → is_directory_or_root (cut p es) q ≡ true
cut_directory p [] es out directory = refl
cut_directory p (n ∷ q) es out directory = ap is_directory_at (is_cut p es (n ∷ q) ∙ ap (λ b. cond b None (lookup es (n ∷ q))) out) ∙ directory

-- what is left is a tree
pub tree_cut : {C : Type 0} (p : List (List ℕ)) (es : Entries C) → IsTree es → IsTree (cut p es)
tree_cut p es tree = record {
  sorted = true_from_T _ (is_sorted-where_key path_cmp (λ q. not (is_prefix p q)) es (T_from_true _ tree.sorted));
  root = is_cut p es [] ∙ elim (is_prefix p []) as (λ b. cond b None (lookup es []) ≡ None) [ true ↦ refl | false ↦ tree.root ];
  paths = λ q there. tree.paths q (cut_there p q es there).1;
  parents = λ q there.
      let was = cut_there p q es there in
      cut_directory p (parent q) es (false_from_ne_true (is_prefix p (parent q)) (λ below. true≢false (sym (prefix_trans p (parent q) q below (parent_prefix q)) ∙ was.0))) (tree.parents q was.1);
}

-- within the limits
pub tree_cut_within : {C : Type 0} (p : List (List ℕ)) (es : Entries C) → IsTreeWithin es → IsTreeWithin (cut p es)
tree_cut_within p es is = record {
  tree = tree_cut p es is.tree;
  count = omega (arith, length-where (λ e. not (is_prefix p e.0)) es, is.count);
}

pub is_cut_all : {C : Type 0} (ps : List (List (List ℕ))) (es : Entries C) → IsCutAll es ps (cut_all ps es)
is_cut_all ps es q =
    find-where_key path_cmp (λ p. not (covers ps p)) q (alike (λ p. not (covers ps p)) q) es
    ∙ elim (covers ps q) as (λ b. cond (not b) (lookup es q) None ≡ cond b None (lookup es q)) [ true ↦ refl | false ↦ refl ]

-- what lies below a path that is covered is covered
pub covers_below : (ps : List (List (List ℕ))) (q r : List (List ℕ)) → covers ps q ≡ true → is_prefix q r ≡ true → covers ps r ≡ true
covers_below [] q r covered prefix = absurd (false≢true covered)
covers_below (p ∷ ps) q r covered prefix = elim (or_cases (is_prefix p q) (covers ps q) covered) [
  | inl here ↦ or_left _ _ (prefix_trans p q r here prefix)
  | inr later ↦ or_right _ _ (covers_below ps q r later prefix)
]

-- what is still found is outside, and was found before
uncovered : {C : Type 0} (ps : List (List (List ℕ))) (q : List (List ℕ)) (es : Entries C) → is_some (lookup (cut_all ps es) q) ≡ true → (covers ps q ≡ false) × (is_some (lookup es q) ≡ true)
uncovered ps q es there =
    elim (covers ps q) as (λ b. covers ps q ≡ b → is_some (cond b None (lookup es q)) ≡ true → (covers ps q ≡ false) × (is_some (lookup es q) ≡ true)) [
      | true ↦ λ _ none. absurd (false≢true none)
      | false ↦ λ out some. (out, some)
    ] refl (sym (ap is_some (is_cut_all ps es q)) ∙ there)

-- a directory that no path covers stays
uncovered_directory : {C : Type 0} (ps : List (List (List ℕ))) (q : List (List ℕ)) (es : Entries C) → covers ps q ≡ false → is_directory_or_root es q ≡ true → is_directory_or_root (cut_all ps es) q ≡ true
uncovered_directory ps [] es out directory = refl
uncovered_directory ps (n ∷ q) es out directory = ap is_directory_at (is_cut_all ps es (n ∷ q) ∙ ap (λ b. cond b None (lookup es (n ∷ q))) out) ∙ directory

pub tree_cut_all : {C : Type 0} (ps : List (List (List ℕ))) (es : Entries C) → IsTree es → IsTree (cut_all ps es)
tree_cut_all ps es tree = record {
  sorted = true_from_T _ (is_sorted-where_key path_cmp (λ q. not (covers ps q)) es (T_from_true _ tree.sorted));
  root = is_cut_all ps es [] ∙ elim (covers ps []) as (λ b. cond b None (lookup es []) ≡ None) [ true ↦ refl | false ↦ tree.root ];
  paths = λ q there. tree.paths q (uncovered ps q es there).1;
  parents = λ q there.
      let was = uncovered ps q es there in
      uncovered_directory ps (parent q) es (false_from_ne_true (covers ps (parent q)) (λ above. true≢false (sym (covers_below ps (parent q) q above (parent_prefix q)) ∙ was.0))) (tree.parents q was.1);
}

pub tree_cut_all_within : {C : Type 0} (ps : List (List (List ℕ))) (es : Entries C) → IsTreeWithin es → IsTreeWithin (cut_all ps es)
tree_cut_all_within ps es is = record {
  tree = tree_cut_all ps es is.tree;
  count = omega (arith, length-where (λ e. not (covers ps e.0)) es, is.count);
}

-- a sum over what is cut and what stays is that over the whole
pub sum_by-cut_all : {C : Type 0} (w : List (List ℕ) × Entry C → ℕ) (ps : List (List (List ℕ))) (es : Entries C) → sum_by w (where_key path_cmp (covers ps) es) + sum_by w (cut_all ps es) ≡ sum_by w es
sum_by-cut_all w ps es = sum_by-filter_both (λ e. covers ps e.0) (λ e. not (covers ps e.0)) (λ e. refl) w es
