-- Where an upper entry lies in a lower list: after what stands before its path, in place of the entries that it hides,
-- which stand one after another.
use Rattle.std.proofs.Common.{◌≡◌, ℕ, zero, suc, ◌+◌, ◌<◌, Bool, true, false, cond, not, T, List, [], ◌∷◌, ◌++◌, length, get_or, take, drop, Some, None, refl, sym, ap, ◌∙◌, subst, arith}
use Rattle.std.proofs.lemmas.Bool.{false≢true, false_from_ne_true, and_parts, and_from, not-true}
use Rattle.std.proofs.lemmas.Float.{T_from_true}
use Rattle.std.specs.declared.cmp.Ordering.TheVariants.{Less, Equal, Greater}
use Rattle.std.specs.Ordering.{is_lt, is_gt, is_eq, eq_by_cmp, ordering_reverse}
use Rattle.std.specs.Cmp.{tied_itself}
use Rattle.std.specs.List.{prefix_len}
use Rattle.std.specs.FinMap.{find, put, is_sorted}
use Rattle.std.specs.FinMap.Entries.{below_all, where_key, by_order}
use Rattle.ext_text.specs.Path.{path_cmp, is_prefix}
use Rattle.ext_text.specs.Order.{paths_exact, paths_total}
use Rattle.ext_text.proofs.ForCallers.{true_from_T, is_less, is_greater}
use Rattle.ext_text.proofs.ForCallers.{same_path, tied_path, prefix_self, prefix_order, convex}
use Rattle.ext_tree.specs.InsertionPoint.{insertion_point, is_past}
use Rattle.ext_tree.proofs.ForCallers.{below_at}
use Rattle.ext_layer.specs.Overlay.{Marked, MarkedEntries, hides, over_entry, first_at, lay, over, count_hidden}
use Rattle.ext_layer.proofs.Prefixes.{not_found}

-- what follows the first elements of a list that pass a test
abbrev pub rest_of : {X : Type 0} → (X → Bool) → List X → List X
rest_of t [] = []
rest_of t (x ∷ xs) = cond (t x) (rest_of t xs) (x ∷ xs)

one_more : (n : ℕ) → 1 + n ≡ suc n
one_more n = omega arith

pub drop_passing : {X : Type 0} (t : X → Bool) (xs : List X) → drop (prefix_len t xs) xs ≡ rest_of t xs
drop_passing t [] = refl
drop_passing t (x ∷ xs) =
    let rest = drop_passing t xs in
    elim (t x) as (λ b. drop (cond b (1 + prefix_len t xs) 0) (x ∷ xs) ≡ cond b (rest_of t xs) (x ∷ xs)) [
      | true ↦ ap (λ n. drop n (x ∷ xs)) (one_more (prefix_len t xs)) ∙ rest
      | false ↦ refl
    ]

-- a path that is not past another, which comes before a third
after : (k e f : List (List ℕ)) → is_gt (path_cmp k e) ≡ false → path_cmp e f ≡ Less → path_cmp k f ≡ Less
after k e f from h =
    elim (path_cmp k e) as (λ o. path_cmp k e ≡ o → path_cmp k f ≡ Less) [
      | Less ↦ λ o. paths_total.trans k e f o h
      | Equal ↦ λ o. paths_total.congr k e f o ∙ h
      | Greater ↦ λ o. absurd (false≢true (sym from ∙ ap is_gt o))
    ] refl

before_past : (k e : List (List ℕ)) → path_cmp k e ≡ Greater → path_cmp e k ≡ Less
before_past k e past = paths_total.antisymm e k ∙ ap ordering_reverse past

-- what comes after a path that an entry does not hide is not hidden either
bare_after : (c : Bool) (k e f : List (List ℕ)) → is_gt (path_cmp k e) ≡ false → cond c (is_prefix k e) (eq_by_cmp path_cmp e k) ≡ false → path_cmp e f ≡ Less → cond c (is_prefix k f) (eq_by_cmp path_cmp f k) ≡ false
bare_after true k e f from bare h =
    false_from_ne_true (is_prefix k f) (λ prefix. false≢true (sym bare ∙ convex k e f from (ap is_gt h) prefix))
bare_after false k e f from bare h =
    false_from_ne_true (eq_by_cmp path_cmp f k) (λ same. false≢true (ap is_lt (sym (tied_itself paths_total k) ∙ ap (path_cmp k) (sym (same_path f k same)) ∙ after k e f from h)))

-- no entry of the list stands before the path: the first one does not
abbrev pub starts_from : {X : Type 0} → List (List ℕ) → List (List (List ℕ) × X) → Bool
starts_from k [] = true
starts_from k (e ∷ es) = not (is_past path_cmp k e)

starts_next : {X : Type 0} (k e : List (List ℕ)) (es : List (List (List ℕ) × X)) → is_gt (path_cmp k e) ≡ false → T (below_all path_cmp e es) → starts_from k es ≡ true
starts_next k e [] from h = refl
starts_next k e (f ∷ es) from h = ap (λ o. not (is_gt o)) (after k e f.0 from (is_less _ (and_parts _ _ (true_from_T _ h)).0))

hides_itself : (c : Bool) (k : List (List ℕ)) → cond c (is_prefix k k) (eq_by_cmp path_cmp k k) ≡ true
hides_itself true k = prefix_self k
hides_itself false k = tied_path k k refl

-- what comes before a path comes before all that stands after it
below_before : {X : Type 0} (k e : List (List ℕ)) (es : List (List (List ℕ) × X)) → path_cmp k e ≡ Less → T (below_all path_cmp e es) → T (below_all path_cmp k es)
below_before k e [] o h = tt
below_before k e (f ∷ es) o h =
    let x = and_parts (is_lt (path_cmp e f.0)) (below_all path_cmp e es) (true_from_T _ h) in
    T_from_true _ (and_from _ _ (ap is_lt (paths_total.trans k e f.0 o (is_less _ x.0))) (true_from_T _ (below_before k e es o (T_from_true _ x.1))))

-- the rest of a list in order is in order
pub sorted_drop : {X : Type 0} (n : ℕ) (es : List (List (List ℕ) × X)) → T (is_sorted path_cmp es) → T (is_sorted path_cmp (drop n es))
sorted_drop zero es h = h
sorted_drop (suc n) [] h = h
sorted_drop (suc n) (e ∷ es) h = sorted_drop n es (T_from_true _ (and_parts (below_all path_cmp e.0 es) (is_sorted path_cmp es) (true_from_T _ h)).1)

-- where a path is past one entry, it is past all before that one
pub skip : {X : Type 0} (p : List (List ℕ)) (n : ℕ) (es : List (List (List ℕ) × X)) (d : List (List ℕ) × X) → T (is_sorted path_cmp es) → n < length es → is_past path_cmp p (get_or es n d) ≡ true → insertion_point path_cmp p es ≡ suc n + insertion_point path_cmp p (drop (suc n) es)
skip p n [] d h lt past = absurd (omega arith)
skip p zero (e ∷ es) d h lt past = ap (λ b. cond b (suc (insertion_point path_cmp p es)) 0) past ∙ sym (one_more (insertion_point path_cmp p es))
skip p (suc n) (e ∷ es) d h lt past =
    let x = and_parts (below_all path_cmp e.0 es) (is_sorted path_cmp es) (true_from_T _ h) in
    let shorter : n < length es = omega arith in
    let rest = skip p n es d (T_from_true _ x.1) shorter past in
    let before = paths_total.trans e.0 (get_or es n d).0 p (below_at path_cmp e.0 es n d x.0 shorter) (before_past p (get_or es n d).0 (is_greater _ past)) in
    let here : is_past path_cmp p e ≡ true = ap is_gt (paths_total.antisymm p e.0 ∙ ap ordering_reverse before) in
    let sum : suc (insertion_point path_cmp p es) ≡ suc (suc n) + insertion_point path_cmp p (drop (suc n) es) = omega arith in
    ap (λ b. cond b (suc (insertion_point path_cmp p es)) 0) here ∙ sum

module _ {C : Type 0} where
  -- an entry of a lower list that stands before stays before
  lay_past : (u : List (List ℕ) × Marked C) (e : List (List ℕ) × Marked C) (es : MarkedEntries C) → path_cmp u.0 e.0 ≡ Greater → lay u (e ∷ es) ≡ e ∷ lay u es
  lay_past u e es past =
      let before = before_past u.0 e.0 past in
      let bare_by : (c : Bool) → cond c (is_prefix u.0 e.0) (eq_by_cmp path_cmp e.0 u.0) ≡ false = elim [
        | true ↦ false_from_ne_true (is_prefix u.0 e.0) (λ f. prefix_order e.0 u.0 f before)
        | false ↦ ap is_eq before
      ] in
      let kept = where_key path_cmp (λ p. not (hides u p)) es in
      let laid = over_entry u.1 (find path_cmp u.0 es) in
      (λ i. put path_cmp u.0 (over_entry u.1 (cond (is_eq (past i)) (Some e.1) (find path_cmp u.0 es))) (cond (not (bare_by u.1.cuts i)) (e ∷ kept) kept))
      ∙ ap (λ o. by_order o ((u.0, laid) ∷ e ∷ kept) ((e.0, laid) ∷ kept) (e ∷ put path_cmp u.0 laid kept)) past

  -- nothing is hidden after an entry that is not
  all_bare : (u : List (List ℕ) × Marked C) (e : List (List ℕ)) (es : MarkedEntries C) → is_gt (path_cmp u.0 e) ≡ false → hides u e ≡ false → T (below_all path_cmp e es) → where_key path_cmp (λ p. not (hides u p)) es ≡ es
  all_bare u e [] from bare h = refl
  all_bare u e (f ∷ es) from bare h =
      let x = and_parts (is_lt (path_cmp e f.0)) (below_all path_cmp e es) (true_from_T _ h) in
      let rest = all_bare u e es from bare (T_from_true _ x.1) in
      let open_ : hides u f.0 ≡ false = bare_after u.1.cuts u.0 e f.0 from bare (is_less _ x.0) in
      ap (λ b. cond (not b) (f ∷ where_key path_cmp (λ p. not (hides u p)) es) (where_key path_cmp (λ p. not (hides u p)) es)) open_ ∙ ap (λ l. f ∷ l) rest

  -- what an entry hides stands one after another
  kept_rest : (u : List (List ℕ) × Marked C) (es : MarkedEntries C) → starts_from u.0 es ≡ true → T (is_sorted path_cmp es) → where_key path_cmp (λ p. not (hides u p)) es ≡ rest_of (λ e. hides u e.0) es
  kept_rest u [] from h = refl
  kept_rest u (e ∷ es) from h =
      let x = and_parts (below_all path_cmp e.0 es) (is_sorted path_cmp es) (true_from_T _ h) in
      let at = not-true _ from in
      let rest = kept_rest u es (starts_next u.0 e.0 es at (T_from_true _ x.0)) (T_from_true _ x.1) in
      elim (hides u e.0) as (λ b. hides u e.0 ≡ b → cond (not b) (e ∷ where_key path_cmp (λ p. not (hides u p)) es) (where_key path_cmp (λ p. not (hides u p)) es) ≡ cond b (rest_of (λ e. hides u e.0) es) (e ∷ es)) [
        | true ↦ λ t. rest
        | false ↦ λ t. ap (λ l. e ∷ l) (all_bare u e.0 es at t (T_from_true _ x.0))
      ] refl

  -- after what it hides nothing stands at the entry's path or before it
  put_rest : (u : List (List ℕ) × Marked C) (v : Marked C) (es : MarkedEntries C) → starts_from u.0 es ≡ true → T (is_sorted path_cmp es) → put path_cmp u.0 v (rest_of (λ e. hides u e.0) es) ≡ (u.0, v) ∷ rest_of (λ e. hides u e.0) es
  put_rest u v [] from h = refl
  put_rest u v (e ∷ es) from h =
      let x = and_parts (below_all path_cmp e.0 es) (is_sorted path_cmp es) (true_from_T _ h) in
      let at = not-true _ from in
      let rest = put_rest u v es (starts_next u.0 e.0 es at (T_from_true _ x.0)) (T_from_true _ x.1) in
      elim (hides u e.0) as (λ b. hides u e.0 ≡ b → put path_cmp u.0 v (cond b (rest_of (λ e. hides u e.0) es) (e ∷ es)) ≡ (u.0, v) ∷ cond b (rest_of (λ e. hides u e.0) es) (e ∷ es)) [
        | true ↦ λ t. rest
        | false ↦ λ t. elim (path_cmp u.0 e.0) as (λ o. path_cmp u.0 e.0 ≡ o → by_order o ((u.0, v) ∷ e ∷ es) ((e.0, v) ∷ es) (e ∷ put path_cmp u.0 v es) ≡ (u.0, v) ∷ e ∷ es) [
          | Less ↦ λ o. refl
          | Equal ↦ λ o. absurd (false≢true (sym t ∙ subst (λ z. hides u z ≡ true) (paths_exact u.0 e.0 o) (hides_itself u.1.cuts u.0)))
          | Greater ↦ λ o. absurd (false≢true (sym at ∙ ap is_gt o))
        ] refl
      ] refl

  -- a list that does not start before a path has at that path what it starts with there
  find_first : (p : List (List ℕ)) (es : MarkedEntries C) → starts_from p es ≡ true → T (is_sorted path_cmp es) → find path_cmp p es ≡ first_at p es
  find_first p [] from h = refl
  find_first p (e ∷ es) from h =
      let x = and_parts (below_all path_cmp e.0 es) (is_sorted path_cmp es) (true_from_T _ h) in
      let at = not-true _ from in
      elim (path_cmp p e.0) as (λ o. path_cmp p e.0 ≡ o → cond (is_eq o) (Some e.1) (find path_cmp p es) ≡ cond (is_eq (path_cmp e.0 p)) (Some e.1) None) [
        | Less ↦ λ o.
            let turned : path_cmp e.0 p ≡ Greater = paths_total.antisymm e.0 p ∙ ap ordering_reverse o in
            not_found p p (prefix_self p) es (below_before p e.0 es o (T_from_true _ x.0)) ∙ ap (λ r. cond (is_eq r) (Some e.1) None) (sym turned)
        | Equal ↦ λ o. ap (λ r. cond (is_eq r) (Some e.1) None) (sym (paths_total.antisymm e.0 p ∙ ap ordering_reverse o))
        | Greater ↦ λ o. absurd (false≢true (sym at ∙ ap is_gt o))
      ] refl

  -- an upper entry as it lies over a list that does not start before its path
  abbrev pub laid_first : List (List ℕ) × Marked C → MarkedEntries C → List (List ℕ) × Marked C
  laid_first u es = (u.0, over_entry u.1 (first_at u.0 es))

  -- over such a list an entry stands in place of what it hides
  lay_first : (u : List (List ℕ) × Marked C) (es : MarkedEntries C) → starts_from u.0 es ≡ true → T (is_sorted path_cmp es) → lay u es ≡ laid_first u es ∷ rest_of (λ e. hides u e.0) es
  lay_first u es from h =
      ap (put path_cmp u.0 (over_entry u.1 (find path_cmp u.0 es))) (kept_rest u es from h)
      ∙ put_rest u (over_entry u.1 (find path_cmp u.0 es)) es from h
      ∙ ap (λ o. (u.0, over_entry u.1 o) ∷ rest_of (λ e. hides u e.0) es) (find_first u.0 es from h)

  -- what stands before all upper entries stays first
  over_past : (e : List (List ℕ) × Marked C) (us es : MarkedEntries C) → T (below_all path_cmp e.0 us) → over us (e ∷ es) ≡ e ∷ over us es
  over_past e [] es h = refl
  over_past e (u ∷ us) es h =
      let x = and_parts (is_lt (path_cmp e.0 u.0)) (below_all path_cmp e.0 us) (true_from_T _ h) in
      ap (over us) (lay_past u e es (paths_total.antisymm u.0 e.0 ∙ ap ordering_reverse (is_less _ x.0))) ∙ over_past e us (lay u es) (T_from_true _ x.1)

  step_first : (u : List (List ℕ) × Marked C) (us es : MarkedEntries C) → T (below_all path_cmp u.0 us) → starts_from u.0 es ≡ true → T (is_sorted path_cmp es) → over us (lay u es) ≡ laid_first u es ∷ over us (drop (count_hidden u es) es)
  step_first u us es below from h =
      ap (over us) (lay_first u es from h)
      ∙ over_past (laid_first u es) us (rest_of (λ e. hides u e.0) es) below
      ∙ ap (λ l. laid_first u es ∷ over us l) (sym (drop_passing (λ e. hides u e.0) es))

  -- the first upper entry laid over a lower list, at an index
  abbrev step_at : List (List ℕ) × Marked C → MarkedEntries C → MarkedEntries C → ℕ → MarkedEntries C
  step_at u us es n = take n es ++ laid_first u (drop n es) ∷ over us (drop (count_hidden u (drop n es)) (drop n es))

  -- the lower entries before it, the first upper entry, and the other upper entries over what it does not hide
  pub step : (u : List (List ℕ) × Marked C) (us es : MarkedEntries C) → T (below_all path_cmp u.0 us) → T (is_sorted path_cmp es) → over (u ∷ us) es ≡ step_at u us es (insertion_point path_cmp u.0 es)
  step u us [] below h = step_first u us [] below refl h
  step u us (e ∷ es) below h =
      let x = and_parts (below_all path_cmp e.0 es) (is_sorted path_cmp es) (true_from_T _ h) in
      let rest = step u us es below (T_from_true _ x.1) in
      elim (is_past path_cmp u.0 e) as (λ b. is_past path_cmp u.0 e ≡ b → over us (lay u (e ∷ es)) ≡ step_at u us (e ∷ es) (cond b (suc (insertion_point path_cmp u.0 es)) 0)) [
        | true ↦ λ t.
            let past = is_greater _ t in
            ap (over us) (lay_past u e es past)
            ∙ over_past e us (lay u es) (below_before e.0 u.0 us (before_past u.0 e.0 past) below)
            ∙ ap (λ l. e ∷ l) rest
        | false ↦ λ t. step_first u us (e ∷ es) below (ap not t) h
      ] refl
