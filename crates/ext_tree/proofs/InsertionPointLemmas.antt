-- The insertion point of a key in entries whose keys rise: what a search by halves finds, where a look-up reads and where
-- an entry goes in.
use Rattle.std.proofs.Common.{◌≡◌, ℕ, suc, zero, ◌-◌, ◌<◌, ◌≤◌, true, false, cond, List, [], ◌∷◌, length, get_or, Option, Some, None, is_some, refl, sym, ap, ◌∙◌, subst, arith}
use Rattle.std.specs.Prelude.{IsTrue, slice_get}
use Rattle.std.specs.List.{AllWithin, insert}
use Rattle.std.specs.List.Sorted.{IsPartitionedBy, IsPartitionPoint}
use Rattle.std.specs.Cmp.{IsTotalOrder, tied_itself}
use Rattle.std.specs.Ordering.{is_eq, is_gt, ordering_reverse, eq_by_cmp}
use Rattle.std.specs.declared.cmp.Ordering.{Ordering}
use Rattle.std.specs.declared.cmp.Ordering.TheVariants.{Less, Equal, Greater}
use Rattle.std.specs.FinMap.{find, put, is_sorted}
use Rattle.std.specs.FinMap.Entries.{below_all, by_order}
use Rattle.std.proofs.lemmas.Bool.{and_parts, true≢false, false≢true}
use Rattle.std.proofs.lemmas.Option.{get_or_from_slice_get, slice_get_within}
use Rattle.ext_text.proofs.ForCallers.{is_less, is_greater}
use Rattle.ext_tree.specs.InsertionPoint.{is_past, insertion_point}

-- what a look-up of a key finds at an entry
abbrev pub found_at : {K X : Type 0} → (K → K → Ordering) → K → Option (K × X) → Option X
found_at R k None = None
found_at R k (Some e) = cond (eq_by_cmp R k e.0) (Some e.1) None

-- what is past an entry is past what stands before that entry
past_before : {K : Type 0} {R : K → K → Ordering} → IsTotalOrder R → (k x y : K) → R x y ≡ Less → R k y ≡ Greater → R k x ≡ Greater
past_before o k x y h g = o.antisymm k x ∙ ap ordering_reverse (o.trans x y k h (o.antisymm y k ∙ ap ordering_reverse g))

module _ {K X : Type 0} (R : K → K → Ordering) where
  -- an entry of a list stands above what is below all of the list
  pub below_at : (x : K) (es : List (K × X)) (j : ℕ) (d : K × X) → below_all R x es ≡ true → j < length es → R x (get_or es j d).0 ≡ Less
  below_at x [] j d h lt = absurd (omega arith)
  below_at x (e ∷ es) zero d h lt = is_less _ (and_parts _ _ h).0
  below_at x (e ∷ es) (suc j) d h lt = below_at x es j d (and_parts _ _ h).1 (omega arith)

  -- an insertion point is found once all before it is passed and nothing from it on is
  pub is_insertion_point : (k : K) (es : List (K × X)) (i : ℕ) → i ≤ length es → IsPartitionPoint (λ e. is_past R k e ≡ true) (λ e. is_past R k e ≡ false) es i → i ≡ insertion_point R k es
  is_insertion_point k [] i h at = omega arith
  is_insertion_point k (e ∷ es) zero h at = ap (λ b. cond b (suc (insertion_point R k es)) 0) (sym (at.1 zero e (omega arith) (omega arith)))
  is_insertion_point k (e ∷ es) (suc i) h at =
      let rest = is_insertion_point k es i (omega arith) ((λ j d low high. at.0 (suc j) d (omega arith) (omega arith)), (λ j d low high. at.1 (suc j) d (omega arith) (omega arith))) in
      ap suc rest ∙ ap (λ b. cond b (suc (insertion_point R k es)) 0) (sym (at.0 zero e (omega arith) (omega arith)))

  module _ (o : IsTotalOrder R) where
    -- a list in order is parted by each key
    pub partitioned : (k : K) (es : List (K × X)) → IsTrue (is_sorted R es) → IsPartitionedBy (is_past R k) es
    partitioned k [] h i j d le lt p = absurd (omega arith)
    partitioned k (e ∷ es) h zero zero d le lt p = p
    partitioned k (e ∷ es) h (suc i) zero d le lt p = absurd (omega arith)
    partitioned k (e ∷ es) h zero (suc j) d le lt p =
        ap is_gt (past_before o k e.0 (get_or es j d).0 (below_at e.0 es j d (and_parts _ _ h).0 (omega arith)) (is_greater _ p))
    partitioned k (e ∷ es) h (suc i) (suc j) d le lt p = partitioned k es (and_parts _ _ h).1 i j d (omega arith) (omega arith) p

    -- a key below all of the entries is not found
    unfound : (k x : K) (es : List (K × X)) → R k x ≡ Less → below_all R x es ≡ true → find R k es ≡ None
    unfound k x [] h below = refl
    unfound k x (e ∷ es) h below =
        ap (λ r. cond (is_eq r) (Some e.1) (find R k es)) (o.trans k x e.0 h (is_less _ (and_parts _ _ below).0)) ∙ unfound k x es h (and_parts _ _ below).1

    -- a look-up reads at the insertion point alone
    pub find_here : (k : K) (es : List (K × X)) → IsTrue (is_sorted R es) → find R k es ≡ found_at R k (slice_get es (insertion_point R k es))
    find_here k [] h = refl
    find_here k (e ∷ es) h =
        let rest = find_here k es (and_parts _ _ h).1 in
        elim (R k e.0) as (λ r. R k e.0 ≡ r → cond (is_eq r) (Some e.1) (find R k es) ≡ found_at R k (slice_get (e ∷ es) (cond (is_gt r) (suc (insertion_point R k es)) 0))) [
          | Less ↦ λ p. unfound k e.0 es p (and_parts _ _ h).0 ∙ ap (λ r. cond (is_eq r) (Some e.1) None) (sym p)
          | Equal ↦ λ p. ap (λ r. cond (is_eq r) (Some e.1) None) (sym p)
          | Greater ↦ λ p. rest
        ] refl

    -- the entry goes in at its insertion point
    pub insert_here : (k : K) (v : X) (es : List (K × X)) → find R k es ≡ None → insert es (insertion_point R k es) (k, v) ≡ put R k v es
    insert_here k v [] none = refl
    insert_here k v (e ∷ es) none =
        elim (R k e.0) as (λ r. cond (is_eq r) (Some e.1) (find R k es) ≡ None → insert (e ∷ es) (cond (is_gt r) (suc (insertion_point R k es)) 0) (k, v) ≡ by_order r ((k, v) ∷ e ∷ es) ((e.0, v) ∷ es) (e ∷ put R k v es)) [
          | Less ↦ λ p. refl
          | Equal ↦ λ p. absurd (true≢false (ap is_some p))
          | Greater ↦ λ p. ap (λ rest. e ∷ rest) (insert_here k v es p)
        ] none

    -- each entry is found by its key
    pub find_there : (es : List (K × X)) (i : ℕ) (e : K × X) → IsTrue (is_sorted R es) → slice_get es i ≡ Some e → find R e.0 es ≡ Some e.1
    find_there [] i e h at = absurd (false≢true (ap is_some at))
    find_there (f ∷ es) zero e h at =
        subst (λ x. find R x.0 (f ∷ es) ≡ Some x.1) (get_or_from_slice_get (f ∷ es) zero e f at) (ap (λ r. cond (is_eq r) (Some f.1) (find R f.0 es)) (tied_itself o f.0))
    find_there (f ∷ es) (suc i) e h at =
        let above = subst (λ x. R f.0 x.0 ≡ Less) (get_or_from_slice_get es i e f at) (below_at f.0 es i f (and_parts _ _ h).0 (slice_get_within es i e at)) in
        ap (λ r. cond (is_eq r) (Some f.1) (find R e.0 es)) (o.antisymm e.0 f.0 ∙ ap ordering_reverse above) ∙ find_there es i e (and_parts _ _ h).1 at

    -- what is past the last entry has its insertion point after all
    pub past_last : (k : K) (es : List (K × X)) (e : K × X) → IsTrue (is_sorted R es) → slice_get es (length es - 1) ≡ Some e → is_past R k e ≡ true → insertion_point R k es ≡ length es
    past_last k es e h at past =
        let within = slice_get_within es (length es - 1) e at in
        let passed : AllWithin (λ x. is_past R k x ≡ true) es 0 (length es) = λ i d low high. partitioned k es h i (length es - 1) d (omega arith) within (subst (λ x. is_past R k x ≡ true) (sym (get_or_from_slice_get es (length es - 1) e d at)) past) in
        sym (is_insertion_point k es (length es) (omega arith) (passed, λ i d low high. absurd (omega arith)))

    -- what a look-up gives, by what stands at the insertion point
    pub hit : (k : K) (es : List (K × X)) (i : ℕ) (e : K × X) → IsTrue (is_sorted R es) → i ≡ insertion_point R k es → slice_get es i ≡ Some e → eq_by_cmp R k e.0 ≡ true → Some e.1 ≡ find R k es
    hit k es i e h is at same = sym (find_here k es h ∙ ap (λ n. found_at R k (slice_get es n)) (sym is) ∙ ap (found_at R k) at ∙ ap (λ b. cond b (Some e.1) None) same)

    pub missed : (k : K) (es : List (K × X)) (i : ℕ) (e : K × X) → IsTrue (is_sorted R es) → i ≡ insertion_point R k es → slice_get es i ≡ Some e → eq_by_cmp R k e.0 ≡ false → None ≡ find R k es
    missed k es i e h is at other = sym (find_here k es h ∙ ap (λ n. found_at R k (slice_get es n)) (sym is) ∙ ap (found_at R k) at ∙ ap (λ b. cond b (Some e.1) None) other)

    pub past_end : (k : K) (es : List (K × X)) (i : ℕ) → IsTrue (is_sorted R es) → i ≡ insertion_point R k es → slice_get es i ≡ None → None ≡ find R k es
    past_end k es i h is at = sym (find_here k es h ∙ ap (λ n. found_at R k (slice_get es n)) (sym is) ∙ ap (found_at R k) at)
