-- A part hung into a tree in one pass: what is joined is in order.
use Rattle.std.proofs.Common.{◌≡◌, ℕ, suc, ◌<◌, Bool, true, false, cond, not, List, ◌++◌, length, take, Option, None, is_some, refl, sym, ap, ◌∙◌, subst, arith, length-take}
use mathlib.Core.Logic.{inl, inr}
use Rattle.std.specs.Ordering.{is_lt, is_gt, ordering_reverse}
use Rattle.std.specs.declared.cmp.Ordering.{Ordering}
use Rattle.std.specs.declared.cmp.Ordering.TheVariants.{Less, Equal, Greater}
use Rattle.std.specs.FinMap.{is_sorted}
use Rattle.std.specs.FinMap.Entries.{where_key, find-where_key, is_sorted-where_key}
use Rattle.std.proofs.lemmas.Bool.{and_parts, true≢false, false≢true, not-true, cases_lt}
use Rattle.std.proofs.lemmas.Float.{T_from_true}
use Rattle.ext_text.specs.Path.{path_cmp, is_prefix}
use Rattle.ext_text.specs.Order.{paths_total, paths_exact}
use Rattle.ext_text.proofs.ForCallers.{true_from_T, is_less, prefix_trans, prefix_short, prefix_whole, prefix_less, prefix_order, prefix_take, take_prefix, prefix_first, convex}
use Rattle.ext_tree.specs.declared.entry.Entry.{Entry}
use Rattle.ext_tree.specs.Tree.{Entries, IsTree, lookup}
use Rattle.ext_tree.specs.Slices.{is_after}
use Rattle.ext_tree.specs.Grafting.{StandsBelow, added, joined}
use Rattle.ext_tree.proofs.PrefixLemmas.{directory_some, prefixes}
use Rattle.ext_tree.proofs.GraftLemmas.{added_there, join_found, sorted_added, sorted_join}

turned : (r : Ordering) → is_lt r ≡ false → is_gt (ordering_reverse r) ≡ false
turned Less past = absurd (true≢false past)
turned Equal past = refl
turned Greater past = refl

-- what is not before comes after or ties
not_past : (q r : List (List ℕ)) → is_lt (path_cmp q r) ≡ false → is_gt (path_cmp r q) ≡ false
not_past q r past = ap is_gt (paths_total.antisymm r q) ∙ turned (path_cmp q r) past

less_by : (q r : List (List ℕ)) → (is_lt (path_cmp q r) ≡ false → ⊥) → path_cmp q r ≡ Less
less_by q r never = elim (is_lt (path_cmp q r)) as (λ b. is_lt (path_cmp q r) ≡ b → path_cmp q r ≡ Less) [ true ↦ λ is. is_less _ is | false ↦ λ is. absurd (never is) ] refl

-- before a prefix is before the whole
less_prefix : (q f r : List (List ℕ)) → path_cmp q f ≡ Less → is_prefix f r ≡ true → path_cmp q r ≡ Less
less_prefix q f r less prefix =
    elim (cases_lt (length f) (length r)) [
      | inl shorter ↦ paths_total.trans q f r less (prefix_less f r prefix shorter)
      | inr whole ↦ subst (λ x. path_cmp q x ≡ Less) (prefix_whole f r prefix (omega (arith, prefix_short f r prefix))) less
    ]

-- and what the whole is before, a prefix of it is before
prefix_before : (f p r : List (List ℕ)) → is_prefix f p ≡ true → path_cmp p r ≡ Less → path_cmp f r ≡ Less
prefix_before f p r prefix less =
    elim (cases_lt (length f) (length p)) [
      | inl shorter ↦ paths_total.trans f p r (prefix_less f p prefix shorter) less
      | inr whole ↦ subst (λ x. path_cmp x r ≡ Less) (sym (prefix_whole f p prefix (omega (arith, prefix_short f p prefix)))) less
    ]

-- an entry before the path comes before the first directory that is made
before_made : {C : Type 0} (es : Entries C) (p q : List (List ℕ)) (standing : ℕ) → IsTree es → StandsBelow es p standing → is_some (lookup es q) ≡ true → path_cmp q p ≡ Less → path_cmp q (take (suc standing) p) ≡ Less
before_made es p q standing tree stand there less =
    less_by q (take (suc standing) p) (λ past.
    let in_first : is_prefix (take (suc standing) p) q ≡ true = convex (take (suc standing) p) q p (not_past q (take (suc standing) p) past) (ap is_gt less) (take_prefix (suc standing) p) in
    elim (cases_lt (suc standing) (length p)) [
      | inl proper ↦
          let none : lookup es (take (suc standing) p) ≡ None = stand.absent (suc standing) (omega arith) proper in
          false≢true (sym (ap is_some none) ∙ first_there proper in_first)
      | inr whole ↦
          let all : take (suc standing) p ≡ p = prefix_whole (take (suc standing) p) p (take_prefix (suc standing) p) (omega (arith, first_long, stand.not_all)) in
          prefix_order q p (subst (λ f. is_prefix f q ≡ true) all in_first) less
    ])
  where
    first_long : length (take (suc standing) p) ≡ suc standing
    first_long = omega (arith, length-take (suc standing) p, stand.not_all)

    first_there : suc standing < length p → is_prefix (take (suc standing) p) q ≡ true → is_some (lookup es (take (suc standing) p)) ≡ true
    first_there proper in_first =
        elim (cases_lt (length (take (suc standing) p)) (length q)) [
          | inl shorter ↦ directory_some es (take (suc standing) p) (omega (arith, first_long)) (prefixes es tree (take (suc standing) p) q there in_first shorter)
          | inr whole ↦ subst (λ r. is_some (lookup es r) ≡ true) (sym (prefix_whole (take (suc standing) p) q in_first (omega (arith, prefix_short (take (suc standing) p) q in_first)))) there
        ]

pub sorted_joined : {C : Type 0} (es u : Entries C) (p : List (List ℕ)) (standing : ℕ) → IsTree es → IsTree u → StandsBelow es p standing → is_sorted path_cmp (joined p es (added p standing u)) ≡ true
sorted_joined {C = C} es u p standing tree part stand =
    sorted_join path_cmp paths_total (where_key path_cmp less es) (added p standing u ++ where_key path_cmp (is_after p) es)
    (sorted_where less)
    (sorted_join path_cmp paths_total (added p standing u) (where_key path_cmp (is_after p) es) (sorted_added p standing u stand.not_all part.sorted part.root) (sorted_where (is_after p)) new_after)
    (λ q r here there. elim (join_found path_cmp r (added p standing u) (where_key path_cmp (is_after p) es) there) [
      | inl new ↦ before_new q r here new
      | inr after ↦
          let low : path_cmp q p ≡ Less = is_less _ (kept less q here).0 in
          let high : path_cmp p r ≡ Less = is_less _ (and_parts _ _ (kept (is_after p) r after).0).0 in
          paths_total.trans q p r low high
    ])
  where
    less : List (List ℕ) → Bool
    less r = is_lt (path_cmp r p)

    sorted_where : (test : List (List ℕ) → Bool) → is_sorted path_cmp (where_key path_cmp test es) ≡ true
    sorted_where test = true_from_T _ (is_sorted-where_key path_cmp test es (T_from_true _ tree.sorted))

    passed : (b : Bool) (o : Option (Entry C)) → is_some (cond b o None) ≡ true → (b ≡ true) × (is_some o ≡ true)
    passed true o there = (refl, there)
    passed false o there = absurd (false≢true there)

    kept : (test : List (List ℕ) → Bool) (q : List (List ℕ)) → is_some (lookup (where_key path_cmp test es) q) ≡ true → (test q ≡ true) × (is_some (lookup es q) ≡ true)
    kept test q there = passed (test q) (lookup es q) (sym (ap is_some (find-where_key path_cmp test q (λ x tied. ap test (sym (paths_exact q x tied))) es)) ∙ there)

    -- what is new begins with the first directory that is made
    begins : (r : List (List ℕ)) → is_some (lookup (added p standing u) r) ≡ true → is_prefix (take (suc standing) p) r ≡ true
    begins r new = elim (added_there p r standing u stand.not_all new) [
      | inl at ↦ prefix_trans (take (suc standing) p) p r (take_prefix (suc standing) p) at
      | inr back ↦
          let whole = (prefix_first r p).0 back.0 in
          subst (λ x. is_prefix (take (suc standing) p) x ≡ true) (sym whole) (prefix_take (length r) (take (suc standing) p) p (take_prefix (suc standing) p) (omega (arith, back.1, length-take (suc standing) p)))
    ]

    before_new : (q r : List (List ℕ)) → is_some (lookup (where_key path_cmp less es) q) ≡ true → is_some (lookup (added p standing u) r) ≡ true → path_cmp q r ≡ Less
    before_new q r here new =
        let old = kept less q here in
        less_prefix q (take (suc standing) p) r (before_made es p q standing tree stand old.1 (is_less _ old.0)) (begins r new)

    new_after : (r s : List (List ℕ)) → is_some (lookup (added p standing u) r) ≡ true → is_some (lookup (where_key path_cmp (is_after p) es) s) ≡ true → path_cmp r s ≡ Less
    new_after r s new there =
        let after = and_parts (is_lt (path_cmp p s)) (not (is_prefix p s)) (kept (is_after p) s there).0 in
        let past : path_cmp p s ≡ Less = is_less _ after.0 in
        elim (added_there p r standing u stand.not_all new) [
          | inl at ↦ less_by r s (λ after_s. true≢false (sym (convex p s r (ap is_gt past) (not_past r s after_s) at) ∙ not-true (is_prefix p s) after.1))
          | inr back ↦ prefix_before r p s back.0 past
        ]
