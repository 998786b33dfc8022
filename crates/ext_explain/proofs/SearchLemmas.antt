-- Searches for an entry: what a comparison with one entry tells of where another stands.
use Rattle.std.proofs.Common.{◌≡◌, ℕ, suc, zero, ◌+◌, ◌<◌, ◌≤◌, true, false, cond, List, [], ◌∷◌, ◌++◌, length, get_or, Option, Some, None, is_some, sym, ap, ◌∙◌, arith, length-append}
use Rattle.std.specs.Prelude.{IsTrue, slice_get}
use Rattle.std.specs.Cmp.{IsTotalOrder}
use Rattle.std.specs.FinMap.{is_sorted}
use Rattle.std.specs.FinMap.Entries.{below_all}
use Rattle.std.specs.Ordering.{eq_by_cmp, is_eq, is_gt, ordering_reverse}
use Rattle.std.specs.declared.cmp.Ordering.{Ordering}
use Rattle.std.specs.declared.cmp.Ordering.TheVariants.{Less, Equal, Greater}
use Rattle.std.proofs.lemmas.Bool.{and_parts, false≢true}
use Rattle.std.proofs.lemmas.Option.{get_or_from_slice_get, same_Some, slice_get_past, slice_get_within}
use Rattle.ext_text.specs.Order.{paths_exact, paths_total}
use Rattle.ext_text.specs.Path.{path_cmp}
use Rattle.ext_text.proofs.ForCallers.{prefix_less}
use Rattle.ext_tree.specs.InsertionPoint.{insertion_point, is_past}
use Rattle.ext_tree.specs.Tree.{Entries, lookup}
use Rattle.ext_tree.specs.declared.entry.Entry.{Entry}
use Rattle.ext_tree.proofs.ForCallers.{find_here, find_there, partitioned, prefix_append}
use Rattle.ext_explain.specs.Search.{StandsFrom, StandsWithin}

module _ {K X : Type 0} (R : K → K → Ordering) where
  -- no more entries than there are stand before a key
  pub point_within : (k : K) (es : List (K × X)) → insertion_point R k es ≤ length es
  point_within k [] = omega arith
  point_within k (e ∷ es) = elim (is_past R k e) as (λ b. cond b (suc (insertion_point R k es)) 0 ≤ suc (length es)) [
    | true ↦ omega (arith, point_within k es)
    | false ↦ omega arith
  ]

  -- of the entries from one that the key is not past none stands before the key
  point_to : (k : K) (es : List (K × X)) (i : ℕ) (e : K × X) → slice_get es i ≡ Some e → is_past R k e ≡ false → insertion_point R k es ≤ i
  point_to k [] i e at open_ = omega arith
  point_to k (f ∷ es) zero e at open_ =
      let here : is_past R k f ≡ false = ap (is_past R k) (same_Some f e at) ∙ open_ in
      omega (arith, ap (λ b. cond b (suc (insertion_point R k es)) 0) here)
  point_to k (f ∷ es) (suc i) e at open_ = elim (is_past R k f) as (λ b. cond b (suc (insertion_point R k es)) 0 ≤ suc i) [
    | true ↦ omega (arith, point_to k es i e at open_)
    | false ↦ omega arith
  ]

  -- and one that the key is past stands before it
  point_from : IsTotalOrder R → (k : K) (es : List (K × X)) (i : ℕ) (e : K × X) → IsTrue (is_sorted R es) → slice_get es i ≡ Some e → is_past R k e ≡ true → i < insertion_point R k es
  point_from o k [] i e sorted at past = absurd (false≢true (ap is_some at))
  point_from o k (f ∷ es) zero e sorted at past =
      let here : is_past R k f ≡ true = ap (is_past R k) (same_Some f e at) ∙ past in
      omega (arith, ap (λ b. cond b (suc (insertion_point R k es)) 0) here)
  point_from o k (f ∷ es) (suc i) e sorted at past =
      let within : suc i < length (f ∷ es) = slice_get_within (f ∷ es) (suc i) e at in
      let there : is_past R k (get_or (f ∷ es) (suc i) e) ≡ true = ap (is_past R k) (get_or_from_slice_get (f ∷ es) (suc i) e e at) ∙ past in
      let here : is_past R k f ≡ true = partitioned R o k (f ∷ es) sorted zero (suc i) e (omega arith) within there in
      let others : IsTrue (is_sorted R es) = (and_parts (below_all R f.0 es) (is_sorted R es) sorted).1 in
      let rest : i < insertion_point R k es = point_from o k es i e others at past in
      omega (arith, rest, ap (λ b. cond b (suc (insertion_point R k es)) 0) here)

-- what a look-up of a path finds at an entry
abbrev found_in : {C : Type 0} → List (List ℕ) → Option (List (List ℕ) × Entry C) → Option (Entry C)
found_in k None = None
found_in k (Some e) = cond (eq_by_cmp path_cmp k e.0) (Some e.1) None

-- how a path stands to an entry's, by how the entry's stands to it
turned : (k p : List (List ℕ)) (r : Ordering) → path_cmp p k ≡ r → path_cmp k p ≡ ordering_reverse r
turned k p r is = paths_total.antisymm k p ∙ ap ordering_reverse is

-- how an entry's path stands to another one, as it was found
pub told : (k p names : List (List ℕ)) (r s : Ordering) → names ≡ p → r ≡ path_cmp names k → r ≡ s → path_cmp p k ≡ s
told k p names r s same cmp is = ap (λ q. path_cmp q k) (sym same) ∙ sym cmp ∙ is

module _ {C : Type 0} (es : Entries C) (sorted : IsTrue (is_sorted path_cmp es)) (k : List (List ℕ)) where
  -- past an entry that stands before the path
  pub search_past : (i : ℕ) (e : List (List ℕ) × Entry C) → slice_get es i ≡ Some e → path_cmp e.0 k ≡ Less → i < insertion_point path_cmp k es
  search_past i e at less = point_from path_cmp paths_total k es i e sorted at (ap is_gt (turned k e.0 Less less))

  not_there : (i : ℕ) (e : List (List ℕ) × Entry C) → slice_get es i ≡ Some e → path_cmp e.0 k ≡ Greater → insertion_point path_cmp k es ≡ i → lookup es k ≡ None
  not_there i e at greater is =
      find_here path_cmp paths_total k es sorted ∙ ap (λ n. found_in k (slice_get es n)) is ∙ ap (found_in k) at
      ∙ ap (λ r. cond (is_eq r) (Some e.1) None) (turned k e.0 Greater greater)

  -- before an entry that stands after it
  pub search_before : (from i : ℕ) (e : List (List ℕ) × Entry C) → slice_get es i ≡ Some e → path_cmp e.0 k ≡ Greater → from ≤ insertion_point path_cmp k es → StandsWithin es k from i
  search_before from i e at greater first = record {
    first = first;
    last = point_to path_cmp k es i e at (ap is_gt (turned k e.0 Greater greater));
    bound = omega (arith, slice_get_within es i e at);
    open_ = not_there i e at greater;
  }

  -- before the end
  pub search_all : (from : ℕ) → from ≤ insertion_point path_cmp k es → StandsWithin es k from (length es)
  search_all from first = record {
    first = first;
    last = point_within path_cmp k es;
    bound = omega arith;
    open_ = λ is.
        find_here path_cmp paths_total k es sorted ∙ ap (λ n. found_in k (slice_get es n)) is
        ∙ ap (found_in k) (slice_get_past es (length es) (omega arith));
  }

  -- at the entry
  pub search_hits : (i : ℕ) (e : List (List ℕ) × Entry C) → slice_get es i ≡ Some e → path_cmp e.0 k ≡ Equal → (e.0 ≡ k) × (lookup es k ≡ Some e.1) × StandsFrom es k (i + 1)
  search_hits i e at equal =
      let same : e.0 ≡ k = paths_exact e.0 k equal in (
        same,
        ap (lookup es) (sym same) ∙ find_there path_cmp paths_total es i e sorted at,
        λ n.
            let below : path_cmp k (k ++ n ∷ []) ≡ Less = prefix_less k (k ++ n ∷ []) (prefix_append k (n ∷ [])) (omega (arith, length-append k (n ∷ []))) in
            let past : is_past path_cmp (k ++ n ∷ []) e ≡ true =
            ap is_gt (turned (k ++ n ∷ []) e.0 Less (ap (λ p. path_cmp p (k ++ n ∷ [])) same ∙ below)) in
            omega (arith, point_from path_cmp paths_total (k ++ n ∷ []) es i e sorted at past),
      )
