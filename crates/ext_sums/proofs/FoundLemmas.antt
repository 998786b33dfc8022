-- What is found of a name among entries that are added at the end, and in entries that are in order.
use Rattle.std.proofs.Common.{◌≡◌, ◌≢◌, Bool, true, false, cond, List, [], ◌∷◌, ◌++◌, Option, Some, None, is_some, refl, sym, ap, subst, ◌∙◌}
use Rattle.std.specs.Prelude.{IsTrue}
use Rattle.std.specs.Option.{option_or}
use Rattle.std.specs.List.{AllByRecursion}
use Rattle.std.specs.Cmp.{IsTotalOrder, tied_itself}
use Rattle.std.specs.Ordering.{is_eq, is_lt, ordering_reverse, eq_by_cmp}
use Rattle.std.specs.declared.cmp.Ordering.{Ordering}
use Rattle.std.specs.declared.cmp.Ordering.TheVariants.{Less, Equal, Greater}
use Rattle.std.specs.FinMap.{find, is_sorted}
use Rattle.std.specs.FinMap.Entries.{below_all}
use Rattle.std.proofs.lemmas.Bool.{and_parts}
use Rattle.std.proofs.lemmas.Option.{none-some, same_Some}
use Rattle.ext_text.proofs.ForCallers.{all_both, all_weaker, is_less}
use Rattle.ext_sums.proofs.EntryLemmas.{both_true}

-- the last of a list
abbrev pub last_of : {X : Type 0} → List X → Option X
last_of [] = None
last_of (x ∷ []) = Some x
last_of (x ∷ y ∷ ys) = last_of (y ∷ ys)

pub last_of-push : {X : Type 0} (xs : List X) (x : X) → last_of (xs ++ x ∷ []) ≡ Some x
last_of-push [] x = refl
last_of-push (y ∷ []) x = refl
last_of-push (y ∷ z ∷ zs) x = last_of-push (z ∷ zs) x

some_cond : {A : Type 0} (b : Bool) (x : A) (found : Option A) → is_some found ≡ true → is_some (cond b (Some x) found) ≡ true
some_cond true x found is = refl
some_cond false x found is = is

module _ {K X : Type 0} (R : K → K → Ordering) where
  -- the first part that has the name decides
  pub find-join : (q : K) (es fs : List (K × X)) → find R q (es ++ fs) ≡ option_or (find R q es) (find R q fs)
  find-join q [] fs = refl
  find-join q (e ∷ es) fs =
      elim (eq_by_cmp R q e.0) as (λ b. cond b (Some e.1) (find R q (es ++ fs)) ≡ option_or (cond b (Some e.1) (find R q es)) (find R q fs)) [
        | true ↦ refl
        | false ↦ find-join q es fs
      ]

  -- what is found stays found
  pub found_stays : (q : K) (es fs : List (K × X)) (d : X) → find R q es ≡ Some d → find R q (es ++ fs) ≡ Some d
  found_stays q es fs d found = find-join q es fs ∙ ap (λ o. option_or o (find R q fs)) found

  -- what is found in the whole is what is found before, where something is
  pub found_before : (q : K) (es fs : List (K × X)) (d : X) → find R q (es ++ fs) ≡ Some d → is_some (find R q es) ≡ true → find R q es ≡ Some d
  found_before q es fs d found =
      elim (find R q es) as (λ o. find R q es ≡ o → is_some o ≡ true → o ≡ Some d) [
        | Some y ↦ λ p some. sym (found_stays q es fs y p) ∙ found
        | None ↦ λ p some. cc
      ] refl

  module _ (o : IsTotalOrder R) where
    -- an entry at the end is found where its name is not found before
    pub found_last : (es : List (K × X)) (k : K) (v : X) → find R k es ≡ None → find R k (es ++ (k, v) ∷ []) ≡ Some v
    found_last es k v none =
        find-join k es ((k, v) ∷ []) ∙ ap (λ f. option_or f (find R k ((k, v) ∷ []))) none ∙ ap (λ r. cond (is_eq r) (Some v) None) (tied_itself o k)

    -- an entry at the end whose name is found before changes nothing
    pub found_again : (es : List (K × X)) (k : K) (v d : X) → find R k es ≡ Some d → (q : K) → find R q (es ++ (k, v) ∷ []) ≡ find R q es
    found_again es k v d found q =
        find-join q es ((k, v) ∷ [])
        ∙ elim (R q k) as (λ r. R q k ≡ r → option_or (find R q es) (cond (is_eq r) (Some v) None) ≡ find R q es) [
          | Less ↦ λ p. no_more (find R q es)
          | Equal ↦ λ p. let here = tied_found q k es p ∙ found in ap (λ f. option_or f (Some v)) here ∙ sym here
          | Greater ↦ λ p. no_more (find R q es)
        ] refl
      where
        no_more : (f : Option X) → option_or f None ≡ f
        no_more None = refl
        no_more (Some x) = refl

        tied_found : (q k : K) (es : List (K × X)) → R q k ≡ Equal → find R q es ≡ find R k es
        tied_found q k [] p = refl
        tied_found q k (e ∷ es) p = ap (λ r. cond (is_eq r) (Some e.1) (find R q es)) (o.congr q k e.0 p) ∙ ap (cond (is_eq (R k e.0)) (Some e.1)) (tied_found q k es p)

    -- each entry's name is found
    pub each_found : (es : List (K × X)) → AllByRecursion (λ e. is_some (find R e.0 es) ≡ true) es
    each_found [] = tt
    each_found (e ∷ es) = (
      ap (λ r. is_some (cond (is_eq r) (Some e.1) (find R e.0 es))) (tied_itself o e.0),
      all_weaker (λ f. is_some (find R f.0 es) ≡ true) (λ f. is_some (find R f.0 (e ∷ es)) ≡ true) (λ f is. some_cond (eq_by_cmp R f.0 e.0) e.1 (find R f.0 es) is) es (each_found es),
    )

    -- the first entries have one digest a name where their digests are those of the whole
    pub one_before : (es fs : List (K × X)) → AllByRecursion (λ e. find R e.0 (es ++ fs) ≡ Some e.1) es → AllByRecursion (λ e. find R e.0 es ≡ Some e.1) es
    one_before es fs all =
        all_weaker (λ e. (find R e.0 (es ++ fs) ≡ Some e.1) × (is_some (find R e.0 es) ≡ true)) (λ e. find R e.0 es ≡ Some e.1) (λ e is. found_before e.0 es fs e.1 is.0 is.1) es
        (all_both (λ e. find R e.0 (es ++ fs) ≡ Some e.1) (λ e. is_some (find R e.0 es) ≡ true) es all (each_found es))

    -- what another digest than the entry's own is found for stands before the entry
    pub differs_before : (k : K) (v d : X) (es fs : List (K × X)) → find R k (es ++ (k, v) ∷ fs) ≡ Some d → d ≢ v → find R k es ≡ Some d
    differs_before k v d es fs found other =
        elim (find R k es) as (λ f. find R k es ≡ f → f ≡ Some d) [
          | Some y ↦ λ p. sym (found_stays k es ((k, v) ∷ fs) y p) ∙ found
          | None ↦ λ p.
              let own : find R k (es ++ (k, v) ∷ fs) ≡ Some v = find-join k es ((k, v) ∷ fs) ∙ ap (λ f. option_or f (find R k ((k, v) ∷ fs))) p ∙ ap (λ r. cond (is_eq r) (Some v) (find R k fs)) (tied_itself o k) in
              absurd (other (same_Some d v (sym found ∙ own)))
        ] refl

    -- what is past each entry is not found
    pub find_above : (k : K) (es : List (K × X)) → AllByRecursion (λ e. R e.0 k ≡ Less) es → find R k es ≡ None
    find_above k [] all = refl
    find_above k (e ∷ es) all = ap (λ r. cond (is_eq r) (Some e.1) (find R k es)) (o.antisymm k e.0 ∙ ap ordering_reverse all.0) ∙ find_above k es all.1

    below_push : (x k : K) (v : X) (es : List (K × X)) → below_all R x es ≡ true → R x k ≡ Less → below_all R x (es ++ (k, v) ∷ []) ≡ true
    below_push x k v [] h less = both_true _ _ (ap is_lt less) refl
    below_push x k v (e ∷ es) h less = let parts = and_parts _ _ h in both_true _ _ parts.0 (below_push x k v es parts.1 less)

    -- entries stay in order where one past each is added
    pub sorted_push : (k : K) (v : X) (es : List (K × X)) → IsTrue (is_sorted R es) → AllByRecursion (λ e. R e.0 k ≡ Less) es → IsTrue (is_sorted R (es ++ (k, v) ∷ []))
    sorted_push k v [] h all = refl
    sorted_push k v (e ∷ es) h all = let parts = and_parts _ _ h in both_true _ _ (below_push e.0 k v es parts.0 all.0) (sorted_push k v es parts.1 all.1)

    -- what is past the last entry is past each
    pub below_last : (k : K) (l : K × X) (es : List (K × X)) → IsTrue (is_sorted R es) → last_of es ≡ Some l → R l.0 k ≡ Less → AllByRecursion (λ e. R e.0 k ≡ Less) es
    below_last k l [] h is less = tt
    below_last k l (e ∷ []) h is less = (subst (λ x. R x.0 k ≡ Less) (sym (same_Some e l is)) less, tt)
    below_last k l (e ∷ f ∷ es) h is less =
        let parts = and_parts _ _ h in
        let rest = below_last k l (f ∷ es) parts.1 is less in
        (o.trans e.0 f.0 k (is_less _ (and_parts _ _ parts.0).0) rest.0, rest)

    last_above : (x : K) (l : K × X) (es : List (K × X)) → below_all R x es ≡ true → last_of es ≡ Some l → R x l.0 ≡ Less
    last_above x l [] h is = absurd (none-some l is)
    last_above x l (e ∷ []) h is = subst (λ y. R x y.0 ≡ Less) (same_Some e l is) (is_less _ (and_parts _ _ h).0)
    last_above x l (e ∷ f ∷ es) h is = last_above x l (f ∷ es) (and_parts _ _ h).1 is

    -- the last entry is found
    pub find_last : (l : K × X) (es : List (K × X)) → IsTrue (is_sorted R es) → last_of es ≡ Some l → find R l.0 es ≡ Some l.1
    find_last l [] h is = absurd (none-some l is)
    find_last l (e ∷ []) h is = subst (λ y. find R y.0 (e ∷ []) ≡ Some y.1) (same_Some e l is) (ap (λ r. cond (is_eq r) (Some e.1) None) (tied_itself o e.0))
    find_last l (e ∷ f ∷ es) h is =
        let parts = and_parts _ _ h in
        ap (λ r. cond (is_eq r) (Some e.1) (find R l.0 (f ∷ es))) (o.antisymm l.0 e.0 ∙ ap ordering_reverse (last_above e.0 l (f ∷ es) parts.0 is)) ∙ find_last l (f ∷ es) parts.1 is
