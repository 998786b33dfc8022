-- A part hung into a tree: what a graft has at each path, and that what has it there is a tree.
use Rattle.std.proofs.Common.{◌≡◌, ℕ, ◌+◌, ◌<◌, ◌≤◌, Bool, true, false, cond, not, ◌&&◌, List, [], ◌∷◌, ◌++◌, length, drop, Option, Some, None, is_some, refl, sym, ap, ◌∙◌, subst, arith}
use Rattle.std.specs.Prelude.{IsTrue}
use Rattle.std.specs.Ordering.{eq_by_cmp}
use Rattle.std.specs.FinMap.{is_sorted}
use Rattle.std.proofs.lemmas.Bool.{and_parts, and_from, true≢false, false≢true, not-true, false_from_ne_true}
use Rattle.std.proofs.lemmas.List.{append-nil}
use Rattle.ext_text.specs.Path.{IsPath, path_cmp, parent, is_prefix}
use Rattle.ext_text.proofs.ForCallers.{same_path, tied_path, prefix_self, prefix_trans, prefix_short, prefix_both, prefix_first, prefix_path, parent_prefix, length-parent}
use Rattle.ext_tree.specs.declared.entry.Entry.{Entry}
use Rattle.ext_tree.specs.Tree.{Entries, IsTree, lookup, is_directory, is_directory_at, is_directory_or_root}
use Rattle.ext_tree.specs.Refusals.{is_root}
use Rattle.ext_tree.specs.Graft.{Fits, IsOpen, grafted, is_non_directory_at, made, or_made}
use Rattle.ext_tree.proofs.PartLemmas.{below_append, drop_append, parent_append, prefix_append, prefix_split}
use Rattle.ext_tree.proofs.PrefixLemmas.{dir_directory}

-- how two paths stand to each other
pub data Stands (p q : List (List ℕ)) : Type 0 where
  root : q ≡ [] → Stands p q
  same : q ≡ p → Stands p q
  below : is_prefix p q ≡ true → is_prefix q p ≡ false → Stands p q
  above : is_prefix q p ≡ true → is_prefix p q ≡ false → is_root q ≡ false → Stands p q
  apart : is_prefix q p ≡ false → is_prefix p q ≡ false → Stands p q

-- two paths always stand to each other in one of these ways
pub stands : (p q : List (List ℕ)) → Stands p q
stands p [] = root refl
stands p (n ∷ q) =
    elim (is_prefix p (n ∷ q)) as (λ a. is_prefix p (n ∷ q) ≡ a → Stands p (n ∷ q)) [
      | true ↦ λ at. elim (is_prefix (n ∷ q) p) as (λ b. is_prefix (n ∷ q) p ≡ b → Stands p (n ∷ q)) [
        | true ↦ λ back. same (prefix_both (n ∷ q) p back at)
        | false ↦ λ out. below at out
      ] refl
      | false ↦ λ out. elim (is_prefix (n ∷ q) p) as (λ b. is_prefix (n ∷ q) p ≡ b → Stands p (n ∷ q)) [
        | true ↦ λ back. above back out refl
        | false ↦ λ away. apart away out
      ] refl
    ] refl

-- the definition, by what is asked of the path
abbrev chosen : {C : Type 0} → Entries C → Entries C → List (List ℕ) → List (List ℕ) → Bool → Bool → Bool → Bool → Option (Entry C)
chosen es u p q at back tied top = cond (at && not back) (lookup u (drop (length p) q)) (cond tied (Some made) (cond ((back && not at) && not top) (or_made (lookup es q)) (lookup es q)))

is_chosen : {C : Type 0} (es u : Entries C) (p q : List (List ℕ)) → 0 < length p → grafted es p u q ≡ chosen es u p q (is_prefix p q) (is_prefix q p) (eq_by_cmp path_cmp q p) (is_root q)
is_chosen es u [] q some = absurd (omega arith)
is_chosen es u (n ∷ p) q some = refl

apart_tied : (p q : List (List ℕ)) → is_prefix p q ≡ false → eq_by_cmp path_cmp q p ≡ false
apart_tied p q out = false_from_ne_true (eq_by_cmp path_cmp q p) (λ tied. true≢false (sym (ap (is_prefix p) (same_path q p tied) ∙ prefix_self p) ∙ out))

-- a graft leaves the root
pub grafted_root : {C : Type 0} (es u : Entries C) (p : List (List ℕ)) → 0 < length p → grafted es p u [] ≡ lookup es []
grafted_root es u [] some = absurd (omega arith)
grafted_root es u (n ∷ p) some = refl

-- a graft makes a directory at its path
pub grafted_same : {C : Type 0} (es u : Entries C) (p : List (List ℕ)) → 0 < length p → grafted es p u p ≡ Some made
grafted_same es u p some = is_chosen es u p p some ∙ (λ i. chosen es u p p (prefix_self p i) (prefix_self p i) (tied_path p p refl i) (is_root p))

-- below its path a graft has the part
pub grafted_below : {C : Type 0} (es u : Entries C) (p q : List (List ℕ)) → 0 < length p → is_prefix p q ≡ true → is_prefix q p ≡ false → grafted es p u q ≡ lookup u (drop (length p) q)
grafted_below es u p q some at out = is_chosen es u p q some ∙ (λ i. chosen es u p q (at i) (out i) (eq_by_cmp path_cmp q p) (is_root q))

-- above its path a graft has directories
pub grafted_above : {C : Type 0} (es u : Entries C) (p q : List (List ℕ)) → 0 < length p → is_prefix q p ≡ true → is_prefix p q ≡ false → is_root q ≡ false → grafted es p u q ≡ or_made (lookup es q)
grafted_above es u p q some back out top = is_chosen es u p q some ∙ (λ i. chosen es u p q (out i) (back i) (apart_tied p q out i) (top i))

-- a graft leaves all other paths
pub grafted_apart : {C : Type 0} (es u : Entries C) (p q : List (List ℕ)) → 0 < length p → is_prefix q p ≡ false → is_prefix p q ≡ false → grafted es p u q ≡ lookup es q
grafted_apart es u p q some away out = is_chosen es u p q some ∙ (λ i. chosen es u p q (out i) (away i) (apart_tied p q out i) (is_root q))

open_directory : {C : Type 0} (o : Option (Entry C)) → is_non_directory_at o ≡ false → is_directory_at (or_made o) ≡ true
open_directory None open_ = refl
open_directory (Some e) open_ = elim (is_directory e) as (λ b. not b ≡ false → b ≡ true) [ true ↦ λ _. refl | false ↦ λ no. absurd (true≢false no) ] open_

kept_directory : {C : Type 0} (es new : Entries C) (r : List (List ℕ)) → lookup new r ≡ lookup es r → is_directory_or_root es r ≡ true → is_directory_or_root new r ≡ true
kept_directory es new [] kept directory = refl
kept_directory es new (n ∷ r) kept directory = ap is_directory_at kept ∙ directory

no_longer : (p : List (List ℕ)) → 0 < length p → is_prefix p (parent p) ≡ false
no_longer p some = false_from_ne_true (is_prefix p (parent p)) (λ longer. too_long (prefix_short p (parent p) longer) (length-parent p some))
  where
    too_long : length p ≤ length (parent p) → length (parent p) + 1 ≡ length p → ⊥
    too_long longer shorter = omega arith

-- a list in order that has at each path what a graft has is a tree
pub tree_grafted : {C : Type 0} (es u new : Entries C) (p : List (List ℕ)) → IsTree es → IsTree u → IsPath p → 0 < length p → IsOpen es p → Fits p u → is_sorted path_cmp new ≡ true → ((q : List (List ℕ)) → lookup new q ≡ grafted es p u q) → IsTree new
tree_grafted {C = C} es u new p tree part path some open_ fits sorted each = record {
  sorted = sorted;
  root = none;
  paths = paths;
  parents = parents;
}
  where
    none : lookup new [] ≡ None
    none = each [] ∙ grafted_root es u p some ∙ tree.root

    -- what is found, by where it stands
    found : (q : List (List ℕ)) (o : Option (Entry C)) → is_some (lookup new q) ≡ true → grafted es p u q ≡ o → is_some o ≡ true
    found q o there is = sym (ap is_some (each q ∙ is)) ∙ there

    paths : (q : List (List ℕ)) → IsTrue (is_some (lookup new q)) → IsPath q
    paths q there = elim (stands p q) [
      | root is ↦ absurd (false≢true (sym (ap (λ r. is_some (lookup new r)) is ∙ ap is_some none) ∙ there))
      | same is ↦ subst IsPath (sym is) path
      | below at out ↦ subst IsPath (sym (prefix_split p q at)) (fits (drop (length p) q) (found q (lookup u (drop (length p) q)) there (grafted_below es u p q some at out)))
      | above back out top ↦ subst IsPath (sym ((prefix_first q p).0 back)) (prefix_path (length q) p path)
      | apart away out ↦ tree.paths q (found q (lookup es q) there (grafted_apart es u p q some away out))
    ]

    -- the path and what is above it are directories
    at_path : is_directory_or_root new p ≡ true
    at_path = dir_directory new p (ap is_directory_at (each p ∙ grafted_same es u p some))

    above_path : (r : List (List ℕ)) → is_prefix r p ≡ true → is_prefix p r ≡ false → is_directory_or_root new r ≡ true
    above_path [] back out = refl
    above_path (n ∷ r) back out =
        ap is_directory_at (each (n ∷ r) ∙ grafted_above es u p (n ∷ r) some back out refl)
        ∙ open_directory (lookup es (n ∷ r)) (open_ (n ∷ r) (and_from (is_prefix (n ∷ r) p) (not (is_prefix p (n ∷ r))) back (ap not out)))

    -- a directory of the part is one
    in_part : (s : List (List ℕ)) → is_directory_or_root u s ≡ true → is_directory_or_root new (p ++ s) ≡ true
    in_part [] directory = subst (λ r. is_directory_or_root new r ≡ true) (sym (append-nil p)) at_path
    in_part (n ∷ s) directory =
        let longer = not-true (is_prefix (p ++ n ∷ s) p) (and_parts (is_prefix p (p ++ n ∷ s)) (not (is_prefix (p ++ n ∷ s) p)) (below_append p n s)).1 in
        dir_directory new (p ++ n ∷ s) (ap is_directory_at (each (p ++ n ∷ s) ∙ grafted_below es u p (p ++ n ∷ s) some (prefix_append p (n ∷ s)) longer ∙ ap (lookup u) (drop_append p (n ∷ s))) ∙ directory)

    below_path : (s : List (List ℕ)) → is_some (lookup u s) ≡ true → is_directory_or_root new (parent (p ++ s)) ≡ true
    below_path [] there = absurd (false≢true (sym (ap is_some part.root) ∙ there))
    below_path (n ∷ s) there = subst (λ r. is_directory_or_root new r ≡ true) (sym (parent_append p n s)) (in_part (parent (n ∷ s)) (part.parents (n ∷ s) there))

    -- a directory in which an entry apart from the path stands is kept
    apart_path : (r : List (List ℕ)) → is_prefix p r ≡ false → is_directory_or_root es r ≡ true → is_directory_or_root new r ≡ true
    apart_path r out directory = elim (stands p r) [
      | root is ↦ subst (λ x. is_directory_or_root new x ≡ true) (sym is) refl
      | same is ↦ absurd (true≢false (sym (ap (is_prefix p) is ∙ prefix_self p) ∙ out))
      | below at _ ↦ absurd (true≢false (sym at ∙ out))
      | above back _ _ ↦ above_path r back out
      | apart away _ ↦ kept_directory es new r (each r ∙ grafted_apart es u p r some away out) directory
    ]

    not_above : (q : List (List ℕ)) → is_prefix p q ≡ false → is_prefix p (parent q) ≡ false
    not_above q out = false_from_ne_true (is_prefix p (parent q)) (λ at. true≢false (sym (prefix_trans p (parent q) q at (parent_prefix q)) ∙ out))

    parents : (q : List (List ℕ)) → IsTrue (is_some (lookup new q)) → IsTrue (is_directory_or_root new (parent q))
    parents q there = elim (stands p q) [
      | root is ↦ absurd (false≢true (sym (ap (λ r. is_some (lookup new r)) is ∙ ap is_some none) ∙ there))
      | same is ↦ subst (λ x. is_directory_or_root new (parent x) ≡ true) (sym is) (above_path (parent p) (parent_prefix p) (no_longer p some))
      | below at out ↦ subst (λ x. is_directory_or_root new (parent x) ≡ true) (sym (prefix_split p q at)) (below_path (drop (length p) q) (found q (lookup u (drop (length p) q)) there (grafted_below es u p q some at out)))
      | above back out top ↦ above_path (parent q) (prefix_trans (parent q) q p (parent_prefix q) back) (not_above q out)
      | apart away out ↦ apart_path (parent q) (not_above q out) (tree.parents q (found q (lookup es q) there (grafted_apart es u p q some away out)))
    ]
