-- A tree without many paths in path order: first what stands before the first of them, and then, without the others, what comes after
-- it and all that is below it. And what a search by halves finds.
use Rattle.std.proofs.Common.{◌≡◌, ℕ, suc, zero, ◌<◌, ◌≤◌, ◌-◌, Bool, true, false, cond, not, ◌&&◌, ◌||◌, List, [], ◌∷◌, ◌++◌, length, take, drop, get_or, None, refl, sym, subst, ap, ◌∙◌, arith}
use Rattle.std.specs.Prelude.{IsTrue}
use Rattle.std.specs.FinMap.{is_sorted}
use Rattle.std.specs.FinMap.Entries.{below_all, where_key}
use Rattle.std.specs.List.{AllByRecursion, AllWithin, filter, list_any}
use Rattle.std.specs.List.Sorted.{IsPartitionedBy, IsPartitionPoint, IsStrictlySortedBy}
use Rattle.std.specs.Ordering.{is_lt, ordering_reverse}
use Rattle.std.specs.declared.cmp.Ordering.TheVariants.{Less, Equal, Greater}
use Rattle.std.proofs.Math.Seq.{take-length}
use Rattle.std.proofs.lemmas.List.{append_assoc}
use Rattle.std.proofs.lemmas.List.Folds.{list_any-append}
use Rattle.std.proofs.lemmas.Bool.{and_parts, and_right, false≢true, false_from_ne_true, true≢false}
use Rattle.ext_text.specs.Order.{paths_total, paths_exact}
use Rattle.ext_text.specs.Path.{is_prefix, path_cmp}
use Rattle.ext_text.specs.SortedPaths.{covers}
use Rattle.ext_text.proofs.ForCallers.{is_less, prefix_order, prefix_self}
use Rattle.ext_tree.specs.Cut.{cut_all}
use Rattle.ext_tree.specs.Slices.{is_after}
use Rattle.ext_tree.specs.Tree.{Entries, lookup}
use Rattle.ext_tree.proofs.ForCallers.{below_at, is_cut_all}
use Rattle.ext_updated.specs.Pieces.{paths_of}
use Rattle.ext_updated.specs.Putting.{IsCutFor, is_earlier}
use Rattle.ext_updated.specs.declared.piece.Piece.{Piece}

-- what a search by halves finds

filter_none : {X : Type 0} (p : X → Bool) (xs : List X) → AllWithin (λ x. p x ≡ false) xs 0 (length xs) → filter p xs ≡ []
filter_none p [] none = refl
filter_none p (x ∷ xs) none =
    (λ i. cond (none zero x (omega arith) (omega arith) i) (x ∷ filter p xs) (filter p xs))
    ∙ filter_none p xs (λ i d low high. none (suc i) d (omega arith) (omega arith))

-- what passes stands before a partition point
pub filter_point : {X : Type 0} (p : X → Bool) (xs : List X) (i : ℕ) → i ≤ length xs → IsPartitionPoint (λ x. p x ≡ true) (λ x. p x ≡ false) xs i → take i xs ≡ filter p xs
filter_point p xs zero within at = sym (filter_none p xs at.1)
filter_point p [] (suc i) within at = absurd (omega arith)
filter_point p (x ∷ xs) (suc i) within at =
    let here = at.0 zero x (omega arith) (omega arith) in
    let rest = filter_point p xs i (omega arith) ((λ j d low high. at.0 (suc j) d (omega arith) (omega arith)), (λ j d low high. at.1 (suc j) d (omega arith) (omega arith))) in
    ap (λ ys. x ∷ ys) rest ∙ (λ i. cond (sym here i) (x ∷ filter p xs) (filter p xs))

module _ {X : Type 0} where
  -- what is earlier stands before what isn't
  pub rising : (p : List (List ℕ)) (es : List (List (List ℕ) × X)) → IsTrue (is_sorted path_cmp es) → IsPartitionedBy (λ e. is_earlier p e.0) es
  rising p [] h i j d le lt pass = absurd (omega arith)
  rising p (e ∷ es) h zero zero d le lt pass = pass
  rising p (e ∷ es) h (suc i) zero d le lt pass = absurd (omega arith)
  rising p (e ∷ es) h zero (suc j) d le lt pass =
      ap is_lt (paths_total.trans e.0 (get_or es j d).0 p (below_at path_cmp e.0 es j d (and_parts _ _ h).0 (omega arith)) (is_less _ pass))
  rising p (e ∷ es) h (suc i) (suc j) d le lt pass = rising p es (and_parts _ _ h).1 i j d (omega arith) (omega arith) pass

-- one path and those after it

-- an earlier path has no later one for a prefix
earlier_open : (q x : List (List ℕ)) → path_cmp x q ≡ Less → is_prefix q x ≡ false
earlier_open q x less = false_from_ne_true (is_prefix q x) (λ prefix. prefix_order x q prefix less)

-- and none of many covers it
uncovered : (p : List (List ℕ)) (ps : List (List (List ℕ))) (x : List (List ℕ)) → AllByRecursion (λ q. path_cmp p q ≡ Less) ps → is_earlier p x ≡ true → covers ps x ≡ false
uncovered p [] x all early = refl
uncovered p (q ∷ ps) x all early =
    ap (λ b. b || covers ps x) (earlier_open q x (paths_total.trans x p q (is_less _ early) all.0)) ∙ uncovered p ps x all.1 early

all_uncovered : (p : List (List ℕ)) (ps : List (List (List ℕ))) (x : List (List ℕ)) → AllByRecursion (λ q. path_cmp p q ≡ Less) ps → is_earlier p x ≡ true → covers (p ∷ ps) x ≡ false
all_uncovered p ps x all early = ap (λ b. b || covers ps x) (earlier_open p x (is_less _ early)) ∙ uncovered p ps x all early

not_after : (p x : List (List ℕ)) → is_earlier p x ≡ true → is_after p x ≡ false
not_after p x early = ap (λ o. is_lt o && not (is_prefix p x)) (paths_total.antisymm p x ∙ ap ordering_reverse (is_less _ early))

-- what isn't earlier, and hasn't the path for a prefix, comes after it
late_after : (p x : List (List ℕ)) → is_earlier p x ≡ false → is_prefix p x ≡ false → is_lt (path_cmp p x) ≡ true
late_after p x late apart =
    elim (path_cmp p x) as (λ o. path_cmp p x ≡ o → is_lt o ≡ true) [
      | Less ↦ λ _. refl
      | Equal ↦ λ tied. absurd (true≢false (sym (prefix_self p) ∙ ap (is_prefix p) (paths_exact p x tied) ∙ apart))
      | Greater ↦ λ greater. absurd (true≢false (sym (ap is_lt (paths_total.antisymm x p ∙ ap ordering_reverse greater)) ∙ late))
    ] refl

module _ {C : Type 0} where
  all_late : (p x : List (List ℕ)) (es : Entries C) → is_earlier p x ≡ false → below_all path_cmp x es ≡ true → AllByRecursion (λ e. is_earlier p e.0 ≡ false) es
  all_late p x [] late below = tt
  all_late p x (e ∷ es) late below =
      let parts = and_parts (is_lt (path_cmp x e.0)) (below_all path_cmp x es) below in (
        false_from_ne_true (is_earlier p e.0) (λ early. false≢true (sym late ∙ ap is_lt (paths_total.trans x e.0 p (is_less _ parts.0) (is_less _ early)))),
        all_late p x es late parts.1,
      )

  none_earlier : (p : List (List ℕ)) (es : Entries C) → AllByRecursion (λ e. is_earlier p e.0 ≡ false) es → where_key path_cmp (is_earlier p) es ≡ []
  none_earlier p [] late = refl
  none_earlier p (e ∷ es) late =
      ap (λ b. cond b (e ∷ where_key path_cmp (is_earlier p) es) (where_key path_cmp (is_earlier p) es)) late.0 ∙ none_earlier p es late.1

  cut_late : (p : List (List ℕ)) (ps : List (List (List ℕ))) (es : Entries C) → AllByRecursion (λ e. is_earlier p e.0 ≡ false) es → cut_all (p ∷ ps) es ≡ cut_all ps (where_key path_cmp (is_after p) es)
  cut_late p ps [] late = refl
  cut_late p ps (e ∷ es) late =
      let rest = where_key path_cmp (is_after p) es in
      let same = cut_late p ps es late.1 in
      elim (is_prefix p e.0) as (λ b. is_prefix p e.0 ≡ b → cond (not (b || covers ps e.0)) (e ∷ cut_all (p ∷ ps) es) (cut_all (p ∷ ps) es) ≡ cut_all ps (cond (is_lt (path_cmp p e.0) && not b) (e ∷ rest) rest)) [
        | true ↦ λ _. same ∙ ap (λ b. cut_all ps (cond b (e ∷ rest) rest)) (sym (and_right (is_lt (path_cmp p e.0)) false refl))
        | false ↦ λ apart.
            (λ i. cond (not (covers ps e.0)) (e ∷ same i) (same i))
            ∙ ap (λ b. cut_all ps (cond (b && true) (e ∷ rest) rest)) (sym (late_after p e.0 late.0 apart))
      ] refl

  -- what is left without paths in path order
  pub cut_next : (p : List (List ℕ)) (ps : List (List (List ℕ))) (es : Entries C) → IsStrictlySortedBy path_cmp (p ∷ ps) → is_sorted path_cmp es ≡ true → cut_all (p ∷ ps) es ≡ where_key path_cmp (is_earlier p) es ++ cut_all ps (where_key path_cmp (is_after p) es)
  unfolding IsStrictlySortedBy
  cut_next p ps [] order sorted = refl
  cut_next p ps (e ∷ es) order sorted =
      let parts = and_parts (below_all path_cmp e.0 es) (is_sorted path_cmp es) sorted in
      let kept = where_key path_cmp (is_earlier p) es in
      let rest = where_key path_cmp (is_after p) es in
      elim (is_earlier p e.0) as (λ b. is_earlier p e.0 ≡ b → cut_all (p ∷ ps) (e ∷ es) ≡ cond b (e ∷ kept) kept ++ cut_all ps (where_key path_cmp (is_after p) (e ∷ es))) [
        | true ↦ λ early.
            ap (λ b. cond (not b) (e ∷ cut_all (p ∷ ps) es) (cut_all (p ∷ ps) es)) (all_uncovered p ps e.0 order.0 early)
            ∙ ap (λ fs. e ∷ fs) (cut_next p ps es order parts.1)
            ∙ ap (λ b. e ∷ kept ++ cut_all ps (cond b (e ∷ rest) rest)) (sym (not_after p e.0 early))
        | false ↦ λ late.
            let others = all_late p e.0 es late parts.0 in
            cut_late p ps (e ∷ es) (late, others) ∙ ap (λ fs. fs ++ cut_all ps (where_key path_cmp (is_after p) (e ∷ es))) (sym (none_earlier p es others))
      ] refl

  -- without paths it is whole
  pub cut_none : (es : Entries C) → cut_all [] es ≡ es
  cut_none [] = refl
  cut_none (e ∷ es) = ap (λ fs. e ∷ fs) (cut_none es)

  -- the same of a list whose first path is known
  pub cut_step : (more : List (List (List ℕ))) (n : ℕ) (p : List (List ℕ)) (es : Entries C) → 1 ≤ length more → n ≡ length more - 1 → p ≡ get_or more 0 p → IsStrictlySortedBy path_cmp more → is_sorted path_cmp es ≡ true → where_key path_cmp (is_earlier p) es ++ cut_all (take n (drop 1 more)) (where_key path_cmp (is_after p) es) ≡ cut_all more es
  cut_step [] n p es some same first order sorted = absurd (omega arith)
  cut_step (q ∷ more) n p es some same first order sorted =
      let whole : take n more ≡ more = ap (λ k. take k more) (omega arith) ∙ take-length more in
      ap (λ ps. where_key path_cmp (is_earlier p) es ++ cut_all ps (where_key path_cmp (is_after p) es)) whole
      ∙ ap (λ r. where_key path_cmp (is_earlier r) es ++ cut_all more (where_key path_cmp (is_after r) es)) first
      ∙ sym (cut_next q more es order sorted)

-- the others are in path order too
pub order_step : (more : List (List (List ℕ))) (n : ℕ) → 1 ≤ length more → n ≡ length more - 1 → IsStrictlySortedBy path_cmp more → IsStrictlySortedBy path_cmp (take n (drop 1 more))
unfolding IsStrictlySortedBy
order_step [] n some same order = absurd (omega arith)
order_step (q ∷ more) n some same order =
    let whole : take n more ≡ more = ap (λ k. take k more) (omega arith) ∙ take-length more in
    subst (IsStrictlySortedBy path_cmp) (sym whole) order.1

-- where no path is left to cut, the rest is left whole
pub none_left : {C : Type 0} (more : List (List (List ℕ))) (left rest all : Entries C) → length more < 1 → left ++ cut_all more rest ≡ all → left ++ rest ≡ all
none_left [] left rest all none same = ap (λ es. left ++ es) (sym (cut_none rest)) ∙ same
none_left (q ∷ more) left rest all none same = absurd (omega arith)

-- one turn: what stands before the first path is appended, and the rest is what comes after it
pub append_step : {C : Type 0} (more : List (List (List ℕ))) (p early late : List (List ℕ)) (left next kept es rest all : Entries C) → 1 ≤ length more → p ≡ get_or more 0 p → IsStrictlySortedBy path_cmp more → is_sorted path_cmp es ≡ true → next ≡ left ++ kept → kept ≡ where_key path_cmp (is_earlier early) es → early ≡ p → rest ≡ where_key path_cmp (is_after late) es → late ≡ p → left ++ cut_all more es ≡ all → next ++ cut_all (take (length more - 1) (drop 1 more)) rest ≡ all
append_step more p early late left next kept es rest all some first order sorted appended before early_is after late_is same =
    let others = take (length more - 1) (drop 1 more) in
    let kept_is : kept ≡ where_key path_cmp (is_earlier p) es = before ∙ ap (λ r. where_key path_cmp (is_earlier r) es) early_is in
    let rest_is : rest ≡ where_key path_cmp (is_after p) es = after ∙ ap (λ r. where_key path_cmp (is_after r) es) late_is in
    ap (λ fs. fs ++ cut_all others rest) appended
    ∙ append_assoc left kept (cut_all others rest)
    ∙ (λ i. left ++ (kept_is i ++ cut_all others (rest_is i)))
    ∙ ap (λ fs. left ++ fs) (cut_step more (length more - 1) p es some refl first order sorted)
    ∙ same

same_either : {X : Type 0} (b : Bool) (x : X) → x ≡ cond b x x
same_either true x = refl
same_either false x = refl

-- all that is cut for pieces, at once
pub cut_for : {C : Type 0} (root : Entries C) (removed : List (List (List ℕ))) (pieces : List (Piece C)) (all : List (List (List ℕ))) → ((test : List (List ℕ) → Bool) → list_any test all ≡ list_any test (removed ++ paths_of pieces)) → IsCutFor root removed pieces (cut_all all root)
cut_for root removed pieces all same q =
    is_cut_all all root q
    ∙ ap (λ b. cond b None (lookup root q)) (same (λ p. is_prefix p q) ∙ list_any-append (λ p. is_prefix p q) removed (paths_of pieces))
    ∙ elim (covers removed q) as (λ b. cond (b || covers (paths_of pieces) q) None (lookup root q) ≡ cond (covers (paths_of pieces) q) None (cond b None (lookup root q))) [
      | true ↦ same_either (covers (paths_of pieces) q) None
      | false ↦ refl
    ]
