-- Entries put among others: look-ups, order, counts, and how it is done in one pass.
use Rattle.std.proofs.Common.{◌≡◌, ℕ, zero, suc, ◌+◌, Bool, true, false, cond, List, [], ◌∷◌, ◌++◌, length, take, drop, Option, Some, None, is_some, refl, sym, ap, ◌∙◌, arith}
use Rattle.std.proofs.lemmas.Bool.{and_from, and_parts, false≢true, true≢false}
use Rattle.std.proofs.lemmas.Float.{T_from_true}
use Rattle.std.proofs.lemmas.List.Sums.{sum_by-cons}
use Rattle.std.specs.List.{AllByRecursion, sum_by}
use Rattle.std.specs.Ordering.{eq_by_cmp, is_eq, is_lt, ordering_reverse}
use Rattle.std.specs.declared.cmp.Ordering.TheVariants.{Less, Equal, Greater}
use Rattle.std.specs.FinMap.{is_sorted, put}
use Rattle.std.specs.FinMap.Entries.{below_all, by_order, find-put, is_sorted-put}
use Rattle.ext_text.specs.Order.{paths_total}
use Rattle.ext_text.specs.Path.{path_cmp}
use Rattle.ext_text.proofs.ForCallers.{is_less, true_from_T}
use Rattle.ext_tree.specs.Joining.{count_before, put_all}
use Rattle.ext_tree.specs.Tree.{Entries, lookup}
use Rattle.ext_tree.specs.declared.entry.Entry.{Entry}

-- the first of two look-ups that finds something
abbrev pub first_found : {X : Type 0} → Option X → Option X → Option X
first_found o w = cond (is_some o) o w

found_first : {X : Type 0} (b : Bool) (x : X) (o w : Option X) → cond b (Some x) (first_found o w) ≡ first_found (cond b (Some x) o) w
found_first true x o w = refl
found_first false x o w = refl

module _ {C : Type 0} where
  -- look-ups

  pub lookup_put_all : (us es : Entries C) (p : List (List ℕ)) → lookup (put_all us es) p ≡ first_found (lookup us p) (lookup es p)
  lookup_put_all [] es p = refl
  lookup_put_all (u ∷ us) es p =
      find-put path_cmp paths_total p u.0 u.1 (put_all us es) ∙ ap (cond (eq_by_cmp path_cmp p u.0) (Some u.1)) (lookup_put_all us es p)
      ∙ found_first (eq_by_cmp path_cmp p u.0) u.1 (lookup us p) (lookup es p)

  -- a path below all entries is not found
  pub none_below : (p : List (List ℕ)) (es : Entries C) → below_all path_cmp p es ≡ true → lookup es p ≡ None
  none_below p [] below = refl
  none_below p (e ∷ es) below =
      let parts = and_parts (is_lt (path_cmp p e.0)) (below_all path_cmp p es) below in
      ap (λ o. cond (is_eq o) (Some e.1) (lookup es p)) (is_less _ parts.0) ∙ none_below p es parts.1

  -- order

  pub sorted_put_all : (us es : Entries C) → is_sorted path_cmp es ≡ true → is_sorted path_cmp (put_all us es) ≡ true
  sorted_put_all [] es sorted = sorted
  sorted_put_all (u ∷ us) es sorted = true_from_T _ (is_sorted-put path_cmp paths_total u.0 u.1 (put_all us es) (T_from_true _ (sorted_put_all us es sorted)))

  -- in one pass

  pub below_trans : (x y : List (List ℕ)) (es : Entries C) → path_cmp x y ≡ Less → below_all path_cmp y es ≡ true → below_all path_cmp x es ≡ true
  below_trans x y [] less below = refl
  below_trans x y (e ∷ es) less below =
      let parts = and_parts (is_lt (path_cmp y e.0)) (below_all path_cmp y es) below in
      and_from _ _ (ap is_lt (paths_total.trans x y e.0 less (is_less _ parts.0))) (below_trans x y es less parts.1)

  below_put : (x k : List (List ℕ)) (v : Entry C) (es : Entries C) → is_lt (path_cmp x k) ≡ true → below_all path_cmp x es ≡ true → below_all path_cmp x (put path_cmp k v es) ≡ true
  below_put x k v [] less below = and_from _ _ less refl
  below_put x k v (e ∷ es) less below =
      let parts = and_parts (is_lt (path_cmp x e.0)) (below_all path_cmp x es) below in
      let rest = below_put x k v es less parts.1 in
      elim (path_cmp k e.0) as (λ o. below_all path_cmp x (by_order o ((k, v) ∷ e ∷ es) ((e.0, v) ∷ es) (e ∷ put path_cmp k v es)) ≡ true) [
        | Less ↦ and_from _ _ less below
        | Equal ↦ below
        | Greater ↦ and_from _ _ parts.0 rest
      ]

  below_put_all : (x : List (List ℕ)) (us es : Entries C) → below_all path_cmp x us ≡ true → below_all path_cmp x es ≡ true → below_all path_cmp x (put_all us es) ≡ true
  below_put_all x [] es us_below below = below
  below_put_all x (u ∷ us) es us_below below =
      let parts = and_parts (is_lt (path_cmp x u.0)) (below_all path_cmp x us) us_below in
      below_put x u.0 u.1 (put_all us es) parts.0 (below_put_all x us es parts.1 below)

  -- what is below all stands first
  put_first : (u : List (List ℕ) × Entry C) (es : Entries C) → below_all path_cmp u.0 es ≡ true → put path_cmp u.0 u.1 es ≡ u ∷ es
  put_first u [] below = refl
  put_first u (e ∷ es) below =
      ap (λ o. by_order o (u ∷ e ∷ es) ((e.0, u.1) ∷ es) (e ∷ put path_cmp u.0 u.1 es)) (is_less _ (and_parts (is_lt (path_cmp u.0 e.0)) (below_all path_cmp u.0 es) below).0)

  -- an entry before all that are put among others stays before them
  put_after : (e : List (List ℕ) × Entry C) (us es : Entries C) → below_all path_cmp e.0 us ≡ true → put_all us (e ∷ es) ≡ e ∷ put_all us es
  put_after e [] es below = refl
  put_after e (u ∷ us) es below =
      let parts = and_parts (is_lt (path_cmp e.0 u.0)) (below_all path_cmp e.0 us) below in
      let after : path_cmp u.0 e.0 ≡ Greater = paths_total.antisymm u.0 e.0 ∙ ap ordering_reverse (is_less _ parts.0) in
      ap (put path_cmp u.0 u.1) (put_after e us es parts.1)
      ∙ ap (λ o. by_order o (u ∷ e ∷ put_all us es) ((e.0, u.1) ∷ put_all us es) (e ∷ put path_cmp u.0 u.1 (put_all us es))) after

  -- the entries before the first one that is put among them come first, then that one
  pub put_all_next : (u : List (List ℕ) × Entry C) (us es : Entries C) → below_all path_cmp u.0 us ≡ true → is_sorted path_cmp es ≡ true → lookup es u.0 ≡ None → put_all (u ∷ us) es ≡ take (count_before u.0 es) es ++ u ∷ put_all us (drop (count_before u.0 es) es)
  put_all_next u us [] below sorted none = put_first u (put_all us []) (below_put_all u.0 us [] below refl)
  put_all_next u us (e ∷ es) below sorted none =
      let parts = and_parts (below_all path_cmp e.0 es) (is_sorted path_cmp es) sorted in
      elim (path_cmp e.0 u.0) as (λ o. path_cmp e.0 u.0 ≡ o → put_all (u ∷ us) (e ∷ es) ≡ take (cond (is_lt o) (suc (count_before u.0 es)) 0) (e ∷ es) ++ u ∷ put_all us (drop (cond (is_lt o) (suc (count_before u.0 es)) 0) (e ∷ es))) [
        | Less ↦ λ less.
            put_after e (u ∷ us) es (and_from _ _ (ap is_lt less) (below_trans e.0 u.0 us less below))
            ∙ ap (λ fs. e ∷ fs) (put_all_next u us es below parts.1 (later less))
        | Equal ↦ λ tied. absurd (false≢true (sym (ap is_some none) ∙ ap (λ b. is_some (cond b (Some e.1) (lookup es u.0))) (ap is_eq (paths_total.antisymm u.0 e.0 ∙ ap ordering_reverse tied))))
        | Greater ↦ λ greater.
            let first : path_cmp u.0 e.0 ≡ Less = paths_total.antisymm u.0 e.0 ∙ ap ordering_reverse greater in
            put_first u (put_all us (e ∷ es)) (below_put_all u.0 us (e ∷ es) below (and_from _ _ (ap is_lt first) (below_trans u.0 e.0 es first parts.0)))
      ] refl
    where
      later : path_cmp e.0 u.0 ≡ Less → lookup es u.0 ≡ None
      later less =
          ap (λ o. cond (is_eq o) (Some e.1) (lookup es u.0)) (sym (paths_total.antisymm u.0 e.0 ∙ ap ordering_reverse less)) ∙ none

  pub sorted_drop : (n : ℕ) (es : Entries C) → is_sorted path_cmp es ≡ true → is_sorted path_cmp (drop n es) ≡ true
  sorted_drop zero es sorted = sorted
  sorted_drop (suc n) [] sorted = refl
  sorted_drop (suc n) (e ∷ es) sorted = sorted_drop n es (and_parts (below_all path_cmp e.0 es) (is_sorted path_cmp es) sorted).1

  -- counts

  module _ (w : List (List ℕ) × Entry C → ℕ) where
    sum_by-put : (k : List (List ℕ)) (v : Entry C) (es : Entries C) → lookup es k ≡ None → sum_by w (put path_cmp k v es) ≡ w (k, v) + sum_by w es
    sum_by-put k v [] none = sum_by-cons w (k, v) []
    sum_by-put k v (e ∷ es) none =
        elim (path_cmp k e.0) as (λ o. cond (is_eq o) (Some e.1) (lookup es k) ≡ None → sum_by w (by_order o ((k, v) ∷ e ∷ es) ((e.0, v) ∷ es) (e ∷ put path_cmp k v es)) ≡ w (k, v) + sum_by w (e ∷ es)) [
          | Less ↦ λ _. sum_by-cons w (k, v) (e ∷ es)
          | Equal ↦ λ found. absurd (true≢false (ap is_some found))
          | Greater ↦ λ later.
              let rest : sum_by w (put path_cmp k v es) ≡ w (k, v) + sum_by w es = sum_by-put k v es later in
              let old : sum_by w (e ∷ es) ≡ w e + sum_by w es = sum_by-cons w e es in
              let new : sum_by w (e ∷ put path_cmp k v es) ≡ w e + sum_by w (put path_cmp k v es) = sum_by-cons w e (put path_cmp k v es) in
              omega arith
        ] none

    -- both together, where none of the one stands at a path of the other
    pub sum_by-put_all : (us es : Entries C) → is_sorted path_cmp us ≡ true → AllByRecursion (λ u. lookup es u.0 ≡ None) us → sum_by w (put_all us es) ≡ sum_by w us + sum_by w es
    sum_by-put_all [] es sorted apart = omega arith
    sum_by-put_all (u ∷ us) es sorted apart =
        let parts = and_parts (below_all path_cmp u.0 us) (is_sorted path_cmp us) sorted in
        let none : lookup (put_all us es) u.0 ≡ None = lookup_put_all us es u.0 ∙ (λ i. first_found (none_below u.0 us parts.0 i) (apart.0 i)) in
        let here : sum_by w (put_all (u ∷ us) es) ≡ w u + sum_by w (put_all us es) = sum_by-put u.0 u.1 (put_all us es) none in
        let rest : sum_by w (put_all us es) ≡ sum_by w us + sum_by w es = sum_by-put_all us es parts.1 apart.1 in
        let both : sum_by w (u ∷ us) ≡ w u + sum_by w us = sum_by-cons w u us in
        omega arith

  pub length-sum : (es : Entries C) → sum_by (λ _. 1) es ≡ length es
  length-sum [] = refl
  length-sum (e ∷ es) =
      let rest : sum_by (λ _. 1) es ≡ length es = length-sum es in
      let both : sum_by (λ _. 1) (e ∷ es) ≡ 1 + sum_by (λ _. 1) es = sum_by-cons (λ _. 1) e es in
      omega arith

  -- what holds of each entry

  module _ (P : Entry C → Type 0) where
    all_put : (k : List (List ℕ)) (v : Entry C) (es : Entries C) → P v → AllByRecursion (λ e. P e.1) es → AllByRecursion (λ e. P e.1) (put path_cmp k v es)
    all_put k v [] here all = (here, tt)
    all_put k v (e ∷ es) here all =
        let rest = all_put k v es here all.1 in
        elim (path_cmp k e.0) as (λ o. AllByRecursion (λ e. P e.1) (by_order o ((k, v) ∷ e ∷ es) ((e.0, v) ∷ es) (e ∷ put path_cmp k v es))) [
          | Less ↦ (here, all)
          | Equal ↦ (here, all.1)
          | Greater ↦ (all.0, rest)
        ]

    pub all_put_all : (us es : Entries C) → AllByRecursion (λ e. P e.1) us → AllByRecursion (λ e. P e.1) es → AllByRecursion (λ e. P e.1) (put_all us es)
    all_put_all [] es us_all all = all
    all_put_all (u ∷ us) es us_all all = all_put u.0 u.1 (put_all us es) us_all.0 (all_put_all us es us_all.1 all)
