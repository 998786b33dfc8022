-- A part hung into a tree in one pass: what is joined has at each path what a graft has there.
use Rattle.std.proofs.Common.{◌≡◌, ℕ, ◌<◌, ◌≤◌, Bool, true, false, cond, not, ◌&&◌, List, [], ◌∷◌, ◌++◌, length, take, Option, Some, None, is_some, refl, sym, ap, ◌∙◌, subst, arith}
use mathlib.Core.Logic.{inl, inr}
use Rattle.std.specs.Ordering.{is_lt, ordering_reverse}
use Rattle.std.specs.declared.cmp.Ordering.{Ordering}
use Rattle.std.specs.declared.cmp.Ordering.TheVariants.{Less, Equal, Greater}
use Rattle.std.specs.FinMap.Entries.{where_key, find-where_key}
use Rattle.std.proofs.lemmas.Bool.{and_parts, true≢false, false≢true, not-true, false_from_ne_true, cases_lt}
use Rattle.ext_text.specs.Path.{path_cmp, is_prefix}
use Rattle.ext_text.specs.Order.{paths_total, paths_exact}
use Rattle.ext_text.proofs.ForCallers.{is_less, prefix_self, prefix_less, prefix_order, proper_first}
use Rattle.ext_tree.specs.declared.entry.Entry.{Entry}
use Rattle.ext_tree.specs.Tree.{Entries, IsTree, lookup, is_directory_at}
use Rattle.ext_tree.specs.Refusals.{is_root}
use Rattle.ext_tree.specs.Slices.{is_after}
use Rattle.ext_tree.specs.Graft.{IsOpen, grafted, is_non_directory_at, made, or_made}
use Rattle.ext_tree.specs.Grafting.{StandsBelow, added, joined}
use Rattle.ext_tree.proofs.OrderLemmas.{find-join}
use Rattle.ext_tree.proofs.GraftLemmas.{added_below, added_made, added_none}
use Rattle.ext_tree.proofs.GraftedLemmas.{root, same, below, above, apart, stands, grafted_root, grafted_same, grafted_below, grafted_above, grafted_apart}

-- a proper prefix is that many first names, and shorter
proper_take : (q p : List (List ℕ)) → is_prefix q p ≡ true → is_prefix p q ≡ false → (q ≡ take (length q) p) × (length q < length p)
proper_take q p back out = (proper_first q p).0 ((λ i. back i && not (out i)))

-- what is found above the path is one of the standing directories
standing_there : {C : Type 0} (es : Entries C) (p q : List (List ℕ)) (standing : ℕ) → StandsBelow es p standing → is_prefix q p ≡ true → is_prefix p q ≡ false → is_some (lookup es q) ≡ true → length q ≤ standing
standing_there es p q standing stand back out there =
    let is = proper_take q p back out in
    elim (cases_lt standing (length q)) [
      | inl long ↦ absurd (false≢true (sym (ap is_some (ap (lookup es) is.0 ∙ stand.absent (length q) long is.1)) ∙ there))
      | inr short ↦ short
    ]

-- and each of those is found
there_standing : {C : Type 0} (es : Entries C) (p q : List (List ℕ)) (standing : ℕ) → StandsBelow es p standing → is_prefix q p ≡ true → is_prefix p q ≡ false → 0 < length q → length q ≤ standing → is_directory_at (lookup es q) ≡ true
there_standing es p q standing stand back out some short =
    let is = proper_take q p back out in
    ap (λ r. is_directory_at (lookup es r)) is.0 ∙ stand.there (length q) some short

-- no entry that is no directory stands above the path
pub open_above : {C : Type 0} (es : Entries C) (p : List (List ℕ)) (standing : ℕ) → IsTree es → StandsBelow es p standing → IsOpen es p
open_above es p standing tree stand [] proper = ap is_non_directory_at tree.root
open_above {C = C} es p standing tree stand (n ∷ q) proper =
    let parts = and_parts (is_prefix (n ∷ q) p) (not (is_prefix p (n ∷ q))) proper in
    no_other (lookup es (n ∷ q)) (λ there.
    let out = not-true (is_prefix p (n ∷ q)) parts.1 in
    there_standing es p (n ∷ q) standing stand parts.0 out (omega arith) (standing_there es p (n ∷ q) standing stand parts.0 out there))
  where
    no_other : (o : Option (Entry C)) → (is_some o ≡ true → is_directory_at o ≡ true) → is_non_directory_at o ≡ false
    no_other None directory = refl
    no_other (Some e) directory = ap not (directory refl)

-- the first that has something
abbrev first_of : {X : Type 0} → Option X → Option X → Option X
first_of a b = cond (is_some a) a b

first_none : {X : Type 0} (a : Option X) → first_of a None ≡ a
first_none None = refl
first_none (Some x) = refl

-- what is found of the entries before the path, in what is new, and of the entries after the path and all below it
abbrev of_three : {X : Type 0} → Bool → Bool → Option X → Option X → Option X
of_three less after old new = first_of (cond less old None) (first_of new (cond after old None))

lookup_joined : {C : Type 0} (es new : Entries C) (p q : List (List ℕ)) → lookup (joined p es new) q ≡ of_three (is_lt (path_cmp q p)) (is_after p q) (lookup es q) (lookup new q)
lookup_joined {C = C} es new p q =
    find-join path_cmp q (where_key path_cmp less es) (new ++ where_key path_cmp (is_after p) es)
    ∙ (λ i. first_of (kept less i) (find-join path_cmp q new (where_key path_cmp (is_after p) es) i))
    ∙ (λ i. first_of (cond (less q) (lookup es q) None) (first_of (lookup new q) (kept (is_after p) i)))
  where
    less : List (List ℕ) → Bool
    less r = is_lt (path_cmp r p)

    kept : (test : List (List ℕ) → Bool) → lookup (where_key path_cmp test es) q ≡ cond (test q) (lookup es q) None
    kept test = find-where_key path_cmp test q (λ x tied. ap test (sym (paths_exact q x tied))) es

-- at the path and below it what is new is found
joined_at : {C : Type 0} (es new : Entries C) (p q : List (List ℕ)) → is_prefix p q ≡ true → lookup (joined p es new) q ≡ lookup new q
joined_at es new p q at =
    let less : is_lt (path_cmp q p) ≡ false = false_from_ne_true (is_lt (path_cmp q p)) (λ is. prefix_order q p at (is_less _ is)) in
    let after : is_after p q ≡ false = out (is_lt (path_cmp p q)) (is_prefix p q) at in
    lookup_joined es new p q ∙ (λ i. of_three (less i) (after i) (lookup es q) (lookup new q)) ∙ first_none (lookup new q)
  where
    out : (a b : Bool) → b ≡ true → (a && not b) ≡ false
    out true b at = ap not at
    out false b at = refl

-- what comes before does not come after
not_after : (p q : List (List ℕ)) → path_cmp q p ≡ Less → is_after p q ≡ false
not_after p q less = λ i. is_lt ((paths_total.antisymm p q ∙ ap ordering_reverse less) i) && not (is_prefix p q)

-- above it what stands there is found, or else what is new
joined_above : {C : Type 0} (es new : Entries C) (p q : List (List ℕ)) → is_prefix q p ≡ true → is_prefix p q ≡ false → lookup (joined p es new) q ≡ first_of (lookup es q) (lookup new q)
joined_above es new p q back out =
    let less : path_cmp q p ≡ Less = prefix_less q p back (proper_take q p back out).1 in
    lookup_joined es new p q ∙ (λ i. of_three (is_lt (less i)) (not_after p q less i) (lookup es q) (lookup new q))
    ∙ ap (first_of (lookup es q)) (first_none (lookup new q))

-- elsewhere what stands there, where nothing is new
joined_apart : {C : Type 0} (es new : Entries C) (p q : List (List ℕ)) → is_prefix p q ≡ false → lookup new q ≡ None → lookup (joined p es new) q ≡ lookup es q
joined_apart {C = C} es new p q out none =
    lookup_joined es new p q ∙ ap (of_three (is_lt (path_cmp q p)) (is_after p q) (lookup es q)) none ∙ by (path_cmp q p) refl
  where
    by : (r : Ordering) → path_cmp q p ≡ r → of_three (is_lt (path_cmp q p)) (is_after p q) (lookup es q) None ≡ lookup es q
    by Less is = (λ i. of_three (is_lt (is i)) (not_after p q is i) (lookup es q) None) ∙ first_none (lookup es q)
    by Equal is = absurd (true≢false (sym (ap (is_prefix p) (paths_exact q p is) ∙ prefix_self p) ∙ out))
    by Greater is =
        let after : is_after p q ≡ true = λ i. is_lt ((paths_total.antisymm p q ∙ ap ordering_reverse is) i) && not (out i) in
        λ i. of_three (is_lt (is i)) (after i) (lookup es q) None

-- so at each path what a graft has there
pub joined_grafted : {C : Type 0} (es u : Entries C) (p q : List (List ℕ)) (standing : ℕ) → IsTree es → StandsBelow es p standing → lookup (joined p es (added p standing u)) q ≡ grafted es p u q
joined_grafted {C = C} es u p q standing tree stand =
    elim (stands p q) [
      | root is ↦ subst (λ r. lookup (joined p es (added p standing u)) r ≡ grafted es p u r) (sym is)
          (joined_apart es (added p standing u) p [] (no_root p some) (added_none p [] standing u short (no_root p some) (λ _. omega arith)) ∙ sym (grafted_root es u p some))
      | same is ↦ subst (λ r. lookup (joined p es (added p standing u)) r ≡ grafted es p u r) (sym is)
          (joined_at es (added p standing u) p p (prefix_self p) ∙ added_made p p standing u (prefix_self p) short ∙ sym (grafted_same es u p some))
      | below at out ↦ joined_at es (added p standing u) p q at ∙ added_below p q standing u short at out ∙ sym (grafted_below es u p q some at out)
      | above back out top ↦
          joined_above es (added p standing u) p q back out
          ∙ or_new (lookup es q) (λ none. added_made p q standing u back (longer back out top none))
          ∙ sym (grafted_above es u p q some back out top)
      | apart away out ↦
          joined_apart es (added p standing u) p q out (added_none p q standing u short out (λ back. absurd (true≢false (sym back ∙ away))))
          ∙ sym (grafted_apart es u p q some away out)
    ]
  where
    short : standing < length p
    short = stand.not_all

    some : 0 < length p
    some = omega (arith, stand.not_all)

    no_root : (p : List (List ℕ)) → 0 < length p → is_prefix p [] ≡ false
    no_root [] some = absurd (omega arith)
    no_root (n ∷ p) some = refl

    or_new : (o : Option (Entry C)) → (o ≡ None → lookup (added p standing u) q ≡ Some made) → first_of o (lookup (added p standing u) q) ≡ or_made o
    or_new None new = new refl
    or_new (Some e) new = refl

    named : (r : List (List ℕ)) → is_root r ≡ false → 0 < length r
    named [] top = absurd (true≢false top)
    named (n ∷ r) top = omega arith

    longer : is_prefix q p ≡ true → is_prefix p q ≡ false → is_root q ≡ false → lookup es q ≡ None → standing < length q
    longer back out top none =
        elim (cases_lt standing (length q)) [
          | inl long ↦ long
          | inr low ↦ absurd (false≢true (sym (ap is_directory_at none) ∙ there_standing es p q standing stand back out (named q top) low))
        ]
