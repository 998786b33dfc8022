-- One step of laying a list over another, over the items and entries that the code holds.
use Rattle.std.proofs.Common.{◌≡◌, ℕ, ◌+◌, ◌<◌, true, T, List, [], ◌∷◌, ◌++◌, length, map, take, drop, get_or, sym, ap, ◌∙◌, subst, append_assoc, arith}
use Rattle.std.proofs.lemmas.Bool.{and_parts}
use Rattle.std.proofs.lemmas.Float.{T_from_true}
use Rattle.std.proofs.lemmas.List.{map-append, take-map, drop-map, drop-drop, drop_more, length-map, get_or-map}
use Rattle.std.specs.FinMap.{is_sorted}
use Rattle.std.specs.FinMap.Entries.{below_all}
use Rattle.ext_text.specs.Path.{path_cmp}
use Rattle.ext_text.proofs.ForCallers.{true_from_T}
use Rattle.ext_tree.specs.InsertionPoint.{insertion_point, is_past}
use Rattle.ext_layer.specs.declared.item.Item.{Item}
use Rattle.ext_layer.specs.Overlay.{Marked, MarkedEntries, over, count_hidden}
use Rattle.ext_layer.specs.Item.{seen, all_seen}
use Rattle.ext_layer.proofs.OverlaySteps.{laid_first, skip, sorted_drop, step}

-- the rest of what is seen in order is in order
sorted_rest : {C X : Type 0} (see : X → List (List ℕ) × Marked C) (n : ℕ) (xs : List X) → is_sorted path_cmp (map see xs) ≡ true → T (is_sorted path_cmp (map see (drop n xs)))
sorted_rest see n xs h = subst (λ l. T (is_sorted path_cmp l)) (drop-map see n xs) (sorted_drop n (map see xs) (T_from_true _ h))

-- what lies below is seen as this says
module _ {C X : Type 0} (see : X → List (List ℕ) × Marked C) where
  -- how much of it stands before the path of an upper item
  abbrev count_before : Item C → List X → ℕ
  count_before upper lower = insertion_point path_cmp (seen upper).0 (map see lower)

  -- the numbers that the code counts are those of the step
  step_counted : (item laid : Item C) (us : List (Item C)) (rest : List X) (n m : ℕ) → T (is_sorted path_cmp (seen item ∷ all_seen us)) → T (is_sorted path_cmp (map see rest)) → n ≡ count_before item rest → seen laid ≡ laid_first (seen item) (map see (drop n rest)) → m ≡ count_hidden (seen item) (map see (drop n rest))
      → map see (take n rest) ++ seen laid ∷ over (all_seen us) (map see (drop m (drop n rest))) ≡ over (seen item ∷ all_seen us) (map see rest)
  step_counted item laid us rest n m upper lower n-is laid-is m-is =
      let x = and_parts (below_all path_cmp (seen item).0 (all_seen us)) (is_sorted path_cmp (all_seen us)) (true_from_T _ upper) in
      let stepped = step (seen item) (all_seen us) (map see rest) (T_from_true _ x.0) lower in
      let dropped : map see (drop n rest) ≡ drop n (map see rest) = sym (drop-map see n rest) in
      (λ i. sym (take-map see n rest) i ++ laid-is i ∷ over (all_seen us) (sym (drop-map see m (drop n rest)) i))
      ∙ (λ i. take n (map see rest) ++ laid_first (seen item) (dropped i) ∷ over (all_seen us) (drop m (dropped i)))
      ∙ ap (λ k. take n (map see rest) ++ laid_first (seen item) (drop n (map see rest)) ∷ over (all_seen us) (drop k (drop n (map see rest)))) (m-is ∙ ap (count_hidden (seen item)) dropped)
      ∙ ap (λ k. take k (map see rest) ++ laid_first (seen item) (drop k (map see rest)) ∷ over (all_seen us) (drop (count_hidden (seen item) (drop k (map see rest))) (drop k (map see rest)))) n-is
      ∙ sym stepped

  -- what is joined so far and what is left still make the whole after a step
  advance : (upper : List (Item C)) (lower : List X) (merged : MarkedEntries C) (i from n m : ℕ) (item laid : Item C) (whole : MarkedEntries C)
      → i < length upper → item ≡ get_or upper i item
      → is_sorted path_cmp (all_seen upper) ≡ true → is_sorted path_cmp (map see lower) ≡ true
      → n ≡ count_before item (drop from lower)
      → seen laid ≡ laid_first (seen item) (map see (drop n (drop from lower)))
      → m ≡ count_hidden (seen item) (map see (drop n (drop from lower)))
      → merged ++ over (all_seen (drop i upper)) (map see (drop from lower)) ≡ whole
      → ((merged ++ map see (take n (drop from lower))) ++ seen laid ∷ []) ++ over (all_seen (drop (i + 1) upper)) (map see (drop (from + (n + m)) lower)) ≡ whole
  advance upper lower merged i from n m item laid whole lt item-is sorted-upper sorted-lower n-is laid-is m-is invariant =
      let rest = drop from lower in
      let us = drop (i + 1) upper in
      let split : drop i upper ≡ item ∷ us = drop_more upper i item lt ∙ ap (λ x. x ∷ us) (sym item-is) in
      let ordered : T (is_sorted path_cmp (seen item ∷ all_seen us)) = subst (λ l. T (is_sorted path_cmp (all_seen l))) split (sorted_rest seen i upper sorted-upper) in
      let stepped = step_counted item laid us rest n m ordered (sorted_rest see from lower sorted-lower) n-is laid-is m-is in
      let left : drop (from + (n + m)) lower ≡ drop m (drop n rest) = sym (drop-drop (n + m) from lower) ∙ sym (drop-drop m n rest) in
      append_assoc (merged ++ map see (take n rest)) (seen laid ∷ []) _
      ∙ append_assoc merged (map see (take n rest)) _
      ∙ ap (λ l. merged ++ (map see (take n rest) ++ seen laid ∷ over (all_seen us) (map see l))) left
      ∙ ap (λ l. merged ++ l) stepped
      ∙ ap (λ l. merged ++ over (all_seen l) (map see rest)) (sym split)
      ∙ invariant

  -- one step, over what each call of the code gives
  pub advance_calls : (upper : List (Item C)) (lower : List X) (merged : MarkedEntries C) (from : ℕ) (laid : Item C) {rest before after : List X} {longer : MarkedEntries C} {i n m : ℕ} {item : Item C} {whole : MarkedEntries C}
      → is_sorted path_cmp (all_seen upper) ≡ true → is_sorted path_cmp (map see lower) ≡ true
      → i < length upper → item ≡ get_or upper i item
      → rest ≡ drop from lower → before ≡ take n rest → after ≡ drop n rest
      → longer ≡ (merged ++ map see before) ++ seen laid ∷ []
      → n ≡ count_before item rest
      → seen laid ≡ laid_first (seen item) (map see after)
      → m ≡ count_hidden (seen item) (map see after)
      → merged ++ over (all_seen (drop i upper)) (map see (drop from lower)) ≡ whole
      → longer ++ over (all_seen (drop (i + 1) upper)) (map see (drop (from + (n + m)) lower)) ≡ whole
  advance_calls upper lower merged from laid {rest = rest} {i = i} {n = n} {m = m} {item = item} {whole = whole} sorted-upper sorted-lower lt item-is rest-is before-is after-is longer-is n-is laid-is m-is invariant =
      let after-at = after-is ∙ ap (drop n) rest-is in
      let longer-at = longer-is ∙ ap (λ l. (merged ++ map see l) ++ seen laid ∷ []) (before-is ∙ ap (take n) rest-is) in
      ap (λ l. l ++ over (all_seen (drop (i + 1) upper)) (map see (drop (from + (n + m)) lower))) longer-at
      ∙ advance upper lower merged i from n m item laid whole lt item-is sorted-upper sorted-lower
      (n-is ∙ ap (count_before item) rest-is)
      (laid-is ∙ ap (λ l. laid_first (seen item) (map see l)) after-at)
      (m-is ∙ ap (λ l. count_hidden (seen item) (map see l)) after-at)
      invariant

  -- where an upper item is past the last of a stride, it is past the whole stride
  pub stride_passed : (upper : Item C) (lower : List X) (last : X) → is_sorted path_cmp (map see lower) ≡ true → 63 < length lower → last ≡ get_or lower 63 last → is_past path_cmp (seen upper).0 (see last) ≡ true → count_before upper lower ≡ 64 + count_before upper (drop 64 lower)
  stride_passed upper lower last sorted lt is past =
      let long : 63 < length (map see lower) = subst (λ n. 63 < n) (sym (length-map lower see)) lt in
      let at : see last ≡ get_or (map see lower) 63 (see last) = ap see is ∙ sym (get_or-map see lower 63 last (see last) lt) in
      skip (seen upper).0 63 (map see lower) (see last) (T_from_true _ sorted) long (ap (is_past path_cmp (seen upper).0) (sym at) ∙ past)
      ∙ ap (λ l. 64 + insertion_point path_cmp (seen upper).0 l) (drop-map see 64 lower)

  -- the count goes on after a stride
  pub stride_counted : (upper : Item C) (lower rest : List X) (passed : ℕ) → count_before upper lower ≡ passed + count_before upper (drop passed lower) → rest ≡ drop passed lower → count_before upper rest ≡ 64 + count_before upper (drop 64 rest) → count_before upper lower ≡ (passed + 64) + count_before upper (drop (passed + 64) lower)
  stride_counted upper lower rest passed counted is step =
      let left : drop 64 rest ≡ drop (passed + 64) lower = ap (drop 64) is ∙ drop-drop 64 passed lower in
      let here = ap (count_before upper) is in
      let next = ap (count_before upper) left in
      omega (arith, counted, step, here, next)

  -- the rest of what lies in order is in order
  pub rest_sorted : (n : ℕ) (lower rest : List X) → is_sorted path_cmp (map see lower) ≡ true → rest ≡ drop n lower → is_sorted path_cmp (map see rest) ≡ true
  rest_sorted n lower rest sorted is = ap (λ l. is_sorted path_cmp (map see l)) is ∙ true_from_T _ (sorted_rest see n lower sorted)

-- items that are appended to others, and one more
pub appended : {C : Type 0} (merged before grown longer : List (Item C)) (laid : Item C) → grown ≡ merged ++ before → longer ≡ grown ++ laid ∷ [] → all_seen longer ≡ (all_seen merged ++ all_seen before) ++ seen laid ∷ []
appended merged before grown longer laid grown-is longer-is =
    ap all_seen (longer-is ∙ ap (λ l. l ++ laid ∷ []) grown-is) ∙ map-append seen (merged ++ before) (laid ∷ []) ∙ ap (λ l. l ++ seen laid ∷ []) (map-append seen merged before)
