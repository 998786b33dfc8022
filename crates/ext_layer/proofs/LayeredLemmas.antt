-- What is visible of trees is a tree.
use Rattle.std.proofs.Common.{◌≡◌, ℕ, ◌<◌, ◌≤◌, Bool, true, false, cond, not, List, [], ◌∷◌, ◌++◌, length, map, take, drop, get_or, ◌+◌, Option, Some, None, is_some, refl, sym, ap, ◌∙◌, subst, arith, append_assoc}
use mathlib.Core.Logic.{inl, inr}
use Rattle.std.proofs.lemmas.Bool.{false≢true, and_parts, and_from, not-true, false_from_ne_true, not_from_false}
use Rattle.std.proofs.lemmas.List.{drop_all, length-map, map-append, take_more}
use Rattle.std.specs.Option.{option_map}
use Rattle.std.specs.Borrow.{Bor}
use Rattle.std.specs.List.{AllByRecursion, filter}
use Rattle.std.specs.FinMap.{find, is_sorted}
use Rattle.ext_text.specs.Path.{path_cmp, is_prefix, parent, is_proper_prefix}
use Rattle.ext_text.proofs.ForCallers.{all_back}
use Rattle.ext_text.proofs.ForCallers.{some_name, prefix_both, prefix_trans, parent_prefix, parent_other}
use Rattle.ext_tree.specs.Tree.{Entries, IsTree, all_shown, lookup, as_shown, is_directory, is_directory_at, is_hide, is_directory_or_root, most_entries}
use Rattle.ext_tree.specs.declared.entry.Entry.{Entry}
use Rattle.ext_tree.specs.declared.entry.Entry.TheVariants.{Dir, Opaque, File, Link, Hide}
use Rattle.ext_layer.specs.Layered.{CutsOff, IsLayered, IsVisible, cuts_below}
use Rattle.ext_layer.specs.declared.item.Item.{Item}
use Rattle.ext_layer.specs.Item.{seen, all_seen}
use Rattle.ext_tree.specs.InsertionPoint.{insertion_point}
use Rattle.ext_layer.specs.Joining.{Joins, Shows, layers_overlay}
use Rattle.ext_layer.specs.Overlay.{Marked, MarkedEntries, Overlay, visible, hidden, absent, first_of_two, some_prefix, cuts_at, overlay_of, overlay_at, marked, visible_in, with_mark, over, count_hidden}
use Rattle.ext_layer.proofs.OverlayAdvance.{advance_calls}
use Rattle.ext_layer.proofs.OverlaySteps.{laid_first}
use Rattle.ext_layer.proofs.JoiningLemmas.{is_sorted-map, is_sorted-filter, no_hide, shown, seen_of, find_marked, lookup_visible, open_above, open_absent, visible_found, found_visible, overlay_from_visible, visible_from_overlay}

parent_above : (p : List (List ℕ)) → (p ≡ [] → ⊥) → is_proper_prefix (parent p) p ≡ true
parent_above p below =
    let some = some_name p below in
    and_from _ _ (parent_prefix p) (not_from_false _ (false_from_ne_true (is_prefix p (parent p)) (λ back. parent_other p some (prefix_both (parent p) p (parent_prefix p) back))))

proper_trans : (r q p : List (List ℕ)) → is_proper_prefix r q ≡ true → is_proper_prefix q p ≡ true → is_proper_prefix r p ≡ true
proper_trans r q p a b =
    let x = and_parts (is_prefix r q) (not (is_prefix q r)) a in
    let y = and_parts (is_prefix q p) (not (is_prefix p q)) b in
    and_from _ _ (prefix_trans r q p x.0 y.0) (not_from_false _ (false_from_ne_true (is_prefix p r) (λ back. false≢true (sym (not-true _ y.1) ∙ prefix_trans p r q back x.0))))

some_of : {X : Type 0} (o : Option X) → is_some o ≡ true → (x : X) × (o ≡ Some x)
some_of None h = absurd (false≢true h)
some_of (Some x) h = (x, refl)

module _ {C : Type 0} where
  sees_directory : Overlay C → Bool
  sees_directory (visible e) = is_directory e
  sees_directory hidden = false
  sees_directory absent = false

  -- what is shown as a directory is one
  directory_shown : (e : Entry C) → is_directory (as_shown e) ≡ is_directory e
  directory_shown (Dir attributes) = refl
  directory_shown (Opaque attributes) = refl
  directory_shown (File attributes content) = refl
  directory_shown (Link owner target) = refl
  directory_shown Hide = refl

  directory_of : (o : Option (Marked C)) (b : Bool) → is_directory_at (seen_of o) ≡ sees_directory (overlay_of o b)
  unfolding sees_directory
  directory_of None true = refl
  directory_of None false = refl
  directory_of (Some m) b = elim (is_hide m.entry) as (λ c. is_directory_at (option_map shown (cond (not c) (Some m) None)) ≡ sees_directory (cond c hidden (visible (as_shown m.entry)))) [ true ↦ refl | false ↦ refl ]

  directory_found : (ms : MarkedEntries C) (q : List (List ℕ)) → is_sorted path_cmp ms ≡ true → sees_directory (overlay_at ms q) ≡ true → is_directory_at (lookup (visible_in ms) q) ≡ true
  directory_found ms q sorted h = ap is_directory_at (lookup_visible ms q sorted) ∙ directory_of (find path_cmp q ms) _ ∙ h

  directory_first : (o : Option (Entry C)) (b : Bool) (w : Overlay C) → is_directory_at o ≡ true → sees_directory (first_of_two (overlay_of (option_map with_mark o) b) w) ≡ true
  unfolding sees_directory
  directory_first None b w h = absurd (false≢true h)
  directory_first (Some (Dir attributes)) b w h = refl
  directory_first (Some (Opaque attributes)) b w h = refl
  directory_first (Some (File attributes content)) b w h = absurd (false≢true h)
  directory_first (Some (Link owner target)) b w h = absurd (false≢true h)
  directory_first (Some Hide) b w h = absurd (false≢true h)

  -- a layer with a directory shows a directory
  directory_here : (es : Entries C) (q : List (List ℕ)) (w : Overlay C) → is_directory_at (lookup es q) ≡ true → sees_directory (first_of_two (overlay_at (marked es) q) w) ≡ true
  directory_here es q w h =
      let cut = some_prefix (λ r. cuts_at (find path_cmp r (marked es))) q in
      ap (λ o. sees_directory (first_of_two (overlay_of o cut) w)) (find_marked es q) ∙ directory_first (lookup es q) cut w h

  open_prefix : (es : Entries C) (q p : List (List ℕ)) → is_proper_prefix q p ≡ true → ¬ CutsOff es p → lookup es q ≡ None → ¬ CutsOff es q
  open_prefix es q p proper open_ none cuts = elim cuts [
    | inl some ↦ false≢true (sym (ap is_some none) ∙ some)
    | inr above ↦ open_ (inr (above.0, proper_trans above.0 q p above.1 proper, above.2))
  ]

  directory_of_open : (e : Entry C) → cuts_below (Some e) ≡ false → is_directory e ≡ true
  directory_of_open (Dir attributes) h = refl
  directory_of_open (Opaque attributes) h = refl
  directory_of_open (File attributes content) h = absurd (false≢true (sym h))
  directory_of_open (Link owner target) h = absurd (false≢true (sym h))
  directory_of_open Hide h = absurd (false≢true (sym h))

  -- below layers that do not cut off a path, a directory above the path is visible as a directory
  directory_layers : (above : List (Entries C)) (layer : Entries C) (below : List (Entries C)) (q p : List (List ℕ)) → AllByRecursion (λ es. ¬ CutsOff es p) above → is_proper_prefix q p ≡ true → is_directory_at (lookup layer q) ≡ true → sees_directory (layers_overlay (above ++ layer ∷ below) q) ≡ true
  directory_layers [] layer below q p open_ proper here = directory_here layer q (layers_overlay below q) here
  directory_layers (a ∷ above) layer below q p open_ proper here =
      let rest = directory_layers above layer below q p open_.1 proper here in
      elim (lookup a q) as (λ o. lookup a q ≡ o → cuts_below o ≡ false → sees_directory (first_of_two (overlay_at (marked a) q) (layers_overlay (above ++ layer ∷ below) q)) ≡ true) [
        | None ↦ λ is _. ap (λ v. sees_directory (first_of_two v (layers_overlay (above ++ layer ∷ below) q))) (open_absent a q (open_prefix a q p proper open_.0 is)) ∙ rest
        | Some e ↦ λ is bare. directory_here a q (layers_overlay (above ++ layer ∷ below) q) (ap is_directory_at is ∙ directory_of_open e bare)
      ] refl (open_above a p q open_.0 proper)

  directory_at : (layer es : Entries C) (q : List (List ℕ)) → is_directory_or_root layer q ≡ true → (is_directory_at (lookup layer q) ≡ true → is_directory_at (lookup es q) ≡ true) → is_directory_or_root es q ≡ true
  directory_at layer es [] h dir = refl
  directory_at layer es (n ∷ q) h dir = dir h

  pub layered_from_joins : (layers : List (Entries C)) (ms : MarkedEntries C) → Joins layers ms → IsLayered layers (visible_in ms)
  layered_from_joins layers ms joins =
      let es = visible_in ms in
      let found : (p : List (List ℕ)) (e : Entry C) → lookup es p ≡ Some e → IsVisible layers p e = λ p e h. visible_from_overlay layers p e (sym (joins.says p) ∙ found_visible ms p e joins.sorted h) in
      let tree_of : (p : List (List ℕ)) (e : Entry C) (v : IsVisible layers p e) → IsTree v.layer = λ p e v. (all_back IsTree v.above (v.layer ∷ v.below) (subst (AllByRecursion IsTree) v.split joins.trees)).0 in
      let root : lookup es [] ≡ None = elim (lookup es []) as (λ o. lookup es [] ≡ o → o ≡ None) [
        | None ↦ λ h. refl
        | Some e ↦ λ h. let v = found [] e h in let none = (tree_of [] e v).root in let stands = v.stands in absurd (cc (none, stands))
      ] refl in
      record {
        tree = record {
          sorted = is_sorted-map (shown {C = C}) (filter (λ m. no_hide m.1) ms) ∙ is_sorted-filter no_hide ms joins.sorted;
          root = root;
          paths = λ p h. let x = some_of (lookup es p) h in let v = found p x.0 x.1 in (tree_of p x.0 v).paths p (ap is_some v.stands);
          parents = λ p h.
              let x = some_of (lookup es p) h in
              let v = found p x.0 x.1 in
              let below_root : p ≡ [] → ⊥ = λ e. false≢true (ap is_some (sym root) ∙ ap (λ q. is_some (lookup es q)) (sym e) ∙ h) in
              directory_at v.layer es (parent p) ((tree_of p x.0 v).parents p (ap is_some v.stands)) (λ is.
              directory_found ms (parent p) joins.sorted (ap sees_directory (joins.says (parent p) ∙ ap (λ l. layers_overlay l (parent p)) v.split) ∙ directory_layers v.above v.layer v.below (parent p) p v.open_ (parent_above p below_root) is));
        };
        visible = found;
        whole = λ p e v. visible_found ms p e joins.sorted (joins.says p ∙ overlay_from_visible layers p e v);
      }

  -- the entries that are visible are the tree of what is visible
  visible_at : (host : Entries C) {layers lists : List (Entries C)} {pairs : Entries C} → Shows (lists ++ host ∷ []) pairs → lists ≡ layers → IsLayered (layers ++ host ∷ []) pairs
  visible_at host {lists = lists} {pairs = pairs} shows same =
      subst (λ l. IsLayered (l ++ host ∷ []) pairs) same (subst (IsLayered (lists ++ host ∷ [])) (sym shows.seen) (layered_from_joins (lists ++ host ∷ []) shows.marks shows.joins))

  pub too_many_at : (host : Entries C) (pairs counted : List (Bor (List (List ℕ) × Entry C))) {layers lists : List (Entries C)} → Shows (lists ++ host ∷ []) (all_shown pairs) → lists ≡ layers → counted ≡ pairs → most_entries < length counted → (es : Entries C) × IsLayered (layers ++ host ∷ []) es × (most_entries < length es)
  too_many_at host pairs counted shows same counted-is over_limit =
      (all_shown pairs, visible_at host shows same, subst (λ n. most_entries < n) (ap length counted-is ∙ sym (length-map pairs (λ r. (r.now.0, as_shown r.now.1)))) over_limit)

  pub within_at : (host : Entries C) (pairs counted : List (Bor (List (List ℕ) × Entry C))) {layers lists : List (Entries C)} → Shows (lists ++ host ∷ []) (all_shown pairs) → lists ≡ layers → counted ≡ pairs → ¬ (most_entries < length counted) → IsLayered (layers ++ host ∷ []) (all_shown pairs) × (length (all_shown pairs) ≤ most_entries)
  within_at host pairs counted shows same counted-is within =
      let at_most : length counted ≤ most_entries = omega arith in
      (visible_at host shows same, subst (λ n. n ≤ most_entries) (ap length counted-is ∙ sym (length-map pairs (λ r. (r.now.0, as_shown r.now.1)))) at_most)

  -- one item more
  visible_append : (ms ns : MarkedEntries C) → visible_in (ms ++ ns) ≡ visible_in ms ++ visible_in ns
  visible_append [] ns = refl
  visible_append (m ∷ ms) ns =
      let rest = visible_append ms ns in
      elim (is_hide m.1.entry) as (λ b. map (λ k. (k.0, as_shown k.1.entry)) (cond (not b) (m ∷ filter (λ k. not (is_hide k.1.entry)) (ms ++ ns)) (filter (λ k. not (is_hide k.1.entry)) (ms ++ ns))) ≡ map (λ k. (k.0, as_shown k.1.entry)) (cond (not b) (m ∷ filter (λ k. not (is_hide k.1.entry)) ms) (filter (λ k. not (is_hide k.1.entry)) ms)) ++ visible_in ns) [
        | true ↦ rest
        | false ↦ ap (λ l. (m.0, as_shown m.1.entry) ∷ l) rest
      ]

  pub pushed : (olds es : Entries C) (i : ℕ) (e : List (List ℕ) × Entry C) (pairs more : Entries C) → i < length es → e ≡ get_or es i e → pairs ≡ olds ++ visible_in (marked (take i es)) → more ≡ pairs ++ visible_in (marked (e ∷ [])) → more ≡ olds ++ visible_in (marked (take (i + 1) es))
  pushed olds es i e pairs more lt e-is is more-is =
      let longer : take (i + 1) es ≡ take i es ++ e ∷ [] = take_more es i e lt ∙ ap (λ x. take i es ++ x ∷ []) (sym e-is) in
      more-is ∙ ap (λ l. l ++ visible_in (marked (e ∷ []))) is ∙ append_assoc olds (visible_in (marked (take i es))) (visible_in (marked (e ∷ [])))
      ∙ ap (λ l. olds ++ l) (sym (visible_append (marked (take i es)) (marked (e ∷ []))) ∙ ap visible_in (sym (map-append (λ (f : List (List ℕ) × Entry C). (f.0, with_mark f.1)) (take i es) (e ∷ []))) ∙ ap (λ l. visible_in (marked l)) (sym longer))

  -- a mark is of no matter to what shows
  unmarked : (laid : Item C) → visible_in (marked (laid.pair.now ∷ [])) ≡ visible_in (seen laid ∷ [])
  unmarked laid =
      let Shown : MarkedEntries C → Entries C = map (λ m. (m.0, as_shown m.1.entry)) in
      elim (is_hide laid.pair.now.1) as (λ b. Shown (cond (not b) ((laid.pair.now.0, with_mark laid.pair.now.1) ∷ []) []) ≡ Shown (cond (not b) (seen laid ∷ []) [])) [ true ↦ refl | false ↦ refl ]

  -- where no upper item is left, what is left below is visible
  pub shown_last : (upper : List (Item C)) (lower pairs : Entries C) (i from : ℕ) {rest new whole : Entries C} → length upper ≤ i → rest ≡ drop from lower → new ≡ pairs ++ visible_in (marked rest)
      → pairs ++ visible_in (over (all_seen (drop i upper)) (marked (drop from lower))) ≡ whole → new ≡ whole
  shown_last upper lower pairs i from none rest-is new-is invariant =
      new-is ∙ ap (λ es. pairs ++ visible_in (marked es)) rest-is
      ∙ ap (λ us. pairs ++ visible_in (over (all_seen us) (marked (drop from lower)))) (sym (drop_all i upper none)) ∙ invariant

  -- what is visible so far and of what is left still make the whole after a step
  pub shown_calls : (upper : List (Item C)) (lower pairs : Entries C) (from : ℕ) (laid : Item C) {rest before after grown longer : Entries C} {i n m : ℕ} {item : Item C} {whole : Entries C}
      → is_sorted path_cmp (all_seen upper) ≡ true → is_sorted path_cmp (marked lower) ≡ true
      → i < length upper → item ≡ get_or upper i item
      → rest ≡ drop from lower → before ≡ take n rest → after ≡ drop n rest
      → grown ≡ pairs ++ visible_in (marked before) → longer ≡ grown ++ visible_in (marked (laid.pair.now ∷ []))
      → n ≡ insertion_point path_cmp (seen item).0 (marked rest)
      → seen laid ≡ laid_first (seen item) (marked after)
      → m ≡ count_hidden (seen item) (marked after)
      → pairs ++ visible_in (over (all_seen (drop i upper)) (marked (drop from lower))) ≡ whole
      → longer ++ visible_in (over (all_seen (drop (i + 1) upper)) (marked (drop (from + (n + m)) lower))) ≡ whole
  shown_calls upper lower pairs from laid {before = before} {i = i} {n = n} {m = m} sorted-upper sorted-lower lt item-is rest-is before-is after-is grown-is longer-is n-is laid-is m-is invariant =
      let left = over (all_seen (drop (i + 1) upper)) (marked (drop (from + (n + m)) lower)) in
      let one : MarkedEntries C = seen laid ∷ [] in
      let stepped : (marked before ++ one) ++ left ≡ over (all_seen (drop i upper)) (marked (drop from lower)) =
      advance_calls (λ (e : List (List ℕ) × Entry C). (e.0, with_mark e.1)) upper lower [] from laid {longer = marked before ++ one} sorted-upper sorted-lower lt item-is rest-is before-is after-is refl n-is laid-is m-is refl in
      let parts : visible_in ((marked before ++ one) ++ left) ≡ (visible_in (marked before) ++ visible_in one) ++ visible_in left =
      visible_append (marked before ++ one) left ∙ ap (λ l. l ++ visible_in left) (visible_append (marked before) one) in
      ap (λ l. l ++ visible_in left) (longer-is ∙ (λ i. grown-is i ++ unmarked laid i) ∙ append_assoc pairs (visible_in (marked before)) (visible_in one))
      ∙ append_assoc pairs (visible_in (marked before) ++ visible_in one) (visible_in left)
      ∙ ap (λ l. pairs ++ l) (sym parts ∙ ap visible_in stepped)
      ∙ invariant
