-- Lists of entries in the order of their keys, split in two: what is found in the whole, and that both parts are in order.
use Rattle.std.proofs.Common.{◌≡◌, Bool, true, false, cond, ◌&&◌, List, [], ◌∷◌, ◌++◌, Option, Some, None, is_some, refl, ap, ◌∙◌, T}
use Rattle.std.proofs.lemmas.Bool.{false≢true}
use Rattle.std.proofs.lemmas.Float.{T_from_true}
use Rattle.std.specs.declared.cmp.Ordering.{Ordering}
use Rattle.std.specs.declared.cmp.Ordering.TheVariants.{Less}
use Rattle.std.specs.Ordering.{is_lt, is_eq, ordering_reverse, eq_by_cmp}
use Rattle.std.specs.Cmp.{IsTotalOrder, tied_itself}
use Rattle.std.specs.List.{AllByRecursion}
use Rattle.std.specs.FinMap.{find, is_sorted}
use Rattle.std.specs.FinMap.Entries.{below_all}
use Rattle.ext_text.proofs.ForCallers.{true_from_T, is_less, is_equal}

pub both_T : (a b : Bool) → T a → T b → T (a && b)
both_T true b p q = q
both_T false b p q = p

pub first_T : (a b : Bool) → T (a && b) → T a
first_T true b p = tt
first_T false b p = p

pub second_T : (a b : Bool) → T (a && b) → T b
second_T true b p = p
second_T false b p = absurd p

some_cond : {A : Type 0} (b : Bool) (x : A) (found : Option A) → is_some found ≡ true → is_some (cond b (Some x) found) ≡ true
some_cond true x found is = refl
some_cond false x found is = is

module _ {K X : Type 0} (R : K → K → Ordering) where
  -- a key is found in the first part that has it
  pub find-join : (q : K) (es fs : List (K × X)) → find R q (es ++ fs) ≡ cond (is_some (find R q es)) (find R q es) (find R q fs)
  find-join q [] fs = refl
  find-join q (e ∷ es) fs =
      elim (eq_by_cmp R q e.0) as (λ b. cond b (Some e.1) (find R q (es ++ fs)) ≡ cond (is_some (cond b (Some e.1) (find R q es))) (cond b (Some e.1) (find R q es)) (find R q fs)) [
        | true ↦ refl
        | false ↦ find-join q es fs
      ]

  -- what holds of each key that is found holds of each entry's key
  pub each_found : IsTotalOrder R → (P : K → Type 0) (es : List (K × X)) → ((q : K) → is_some (find R q es) ≡ true → P q) → AllByRecursion (λ e. P e.0) es
  each_found o P [] holds = tt
  each_found o P (e ∷ es) holds = (
    holds e.0 (ap (λ r. is_some (cond (is_eq r) (Some e.1) (find R e.0 es))) (tied_itself o e.0)),
    each_found o P es (λ q found. holds q (some_cond (eq_by_cmp R q e.0) e.1 (find R q es) found)),
  )

  below_prefix : (x : K) (es fs : List (K × X)) → T (below_all R x (es ++ fs)) → T (below_all R x es)
  below_prefix x [] fs h = tt
  below_prefix x (e ∷ es) fs h = both_T _ _ (first_T _ _ h) (below_prefix x es fs (second_T _ _ h))

  below_back : (x : K) (es fs : List (K × X)) → T (below_all R x (es ++ fs)) → T (below_all R x fs)
  below_back x [] fs h = h
  below_back x (e ∷ es) fs h = below_back x es fs (second_T _ _ h)

  -- a prefix of a list in order is in order
  pub sorted_prefix : (es fs : List (K × X)) → T (is_sorted R (es ++ fs)) → T (is_sorted R es)
  sorted_prefix [] fs h = tt
  sorted_prefix (e ∷ es) fs h = both_T _ _ (below_prefix e.0 es fs (first_T _ _ h)) (sorted_prefix es fs (second_T _ _ h))

  -- the keys of the prefix are below the key after it
  pub prefix_below : (es fs : List (K × X)) (k : K) (v : X) → T (is_sorted R (es ++ (k, v) ∷ fs)) → AllByRecursion (λ e. R e.0 k ≡ Less) es
  prefix_below [] fs k v h = tt
  prefix_below (e ∷ es) fs k v h = (
    is_less _ (true_from_T _ (first_T _ _ (below_back e.0 es ((k, v) ∷ fs) (first_T _ _ h)))),
    prefix_below es fs k v (second_T _ _ h),
  )

  below_push : (x k : K) (v : X) (es : List (K × X)) → T (below_all R x es) → R x k ≡ Less → T (below_all R x (es ++ (k, v) ∷ []))
  below_push x k v [] h less = both_T _ _ (T_from_true _ (ap is_lt less)) tt
  below_push x k v (e ∷ es) h less = both_T _ _ (first_T _ _ h) (below_push x k v es (second_T _ _ h) less)

  -- an entry above all others keeps a list in order
  pub sorted_push : (k : K) (v : X) (es : List (K × X)) → T (is_sorted R es) → AllByRecursion (λ e. R e.0 k ≡ Less) es → T (is_sorted R (es ++ (k, v) ∷ []))
  sorted_push k v [] h below = tt
  sorted_push k v (e ∷ es) h below = both_T _ _ (below_push e.0 k v es (first_T _ _ h) below.0) (sorted_push k v es (second_T _ _ h) below.1)

  module _ (o : IsTotalOrder R) where
    -- where the last key is below k, each is
    pub all_below : (k q : K) (v : X) (es : List (K × X)) → AllByRecursion (λ e. R e.0 q ≡ Less) es → R q k ≡ Less → AllByRecursion (λ e. R e.0 k ≡ Less) (es ++ (q, v) ∷ [])
    all_below k q v [] below less = (less, tt)
    all_below k q v (e ∷ es) below less = (o.trans e.0 q k below.0 less, all_below k q v es below.1 less)

    -- a key above all is not found
    pub find_above : (k : K) (es : List (K × X)) → AllByRecursion (λ e. R e.0 k ≡ Less) es → find R k es ≡ None
    find_above k [] below = refl
    find_above k (e ∷ es) below =
        ap (λ r. cond (is_eq r) (Some e.1) (find R k es)) (o.antisymm k e.0 ∙ ap ordering_reverse below.0) ∙ find_above k es below.1

    -- a key that is found is below what is above all
    pub found_below : (r k : K) (es : List (K × X)) → AllByRecursion (λ e. R e.0 k ≡ Less) es → is_some (find R r es) ≡ true → R r k ≡ Less
    found_below r k [] below found = absurd (false≢true found)
    found_below r k (e ∷ es) below found =
        elim (eq_by_cmp R r e.0) as (λ b. eq_by_cmp R r e.0 ≡ b → is_some (cond b (Some e.1) (find R r es)) ≡ true → R r k ≡ Less) [
          | true ↦ λ tied _. o.congr r e.0 k (is_equal _ tied) ∙ below.0
          | false ↦ λ _ there. found_below r k es below.1 there
        ] refl found
