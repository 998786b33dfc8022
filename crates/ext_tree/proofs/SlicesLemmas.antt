-- Entries in path order that pass a test stand one after another: what a search by halves finds, and the tests of slices.
use Rattle.std.proofs.Common.{◌≡◌, ℕ, suc, zero, ◌≤◌, Bool, true, false, cond, not, ◌&&◌, List, [], ◌∷◌, ◌++◌, length, take, drop, get_or, Some, None, is_some, refl, sym, ap, ◌∙◌, subst, arith}
use Rattle.std.specs.Prelude.{IsTrue, nat_eq, slice_get}
use Rattle.std.specs.Option.{unwrap_or}
use Rattle.std.specs.List.{AllWithin, AllByRecursion, filter, starts_with}
use Rattle.std.specs.List.Sorted.{IsPartitionedBy, IsPartitionPoint}
use Rattle.std.specs.Cmp.{tied_itself, nat_cmp_total}
use Rattle.std.specs.Ordering.{is_lt, is_eq, is_gt, nat_cmp, ordering_then, ordering_reverse, eq_by_cmp}
use Rattle.std.specs.declared.cmp.Ordering.{Ordering}
use Rattle.std.specs.declared.cmp.Ordering.TheVariants.{Less, Equal, Greater}
use Rattle.std.specs.FinMap.{find, is_sorted, nat_cmp-IsAntisymmetric}
use Rattle.std.specs.FinMap.Entries.{where_key, below_all, find-where_key, is_sorted-where_key}
use Rattle.std.proofs.lemmas.Float.{T_from_true}
use Rattle.std.proofs.lemmas.Bool.{and_parts, and_from, true≢false, false≢true, not-true, false_from_ne_true, eqb-true, eq-eqb}
use Rattle.ext_lines.specs.ByteOrder.{bytes_cmp, bytes_exact}
use Rattle.ext_text.specs.Path.{path_cmp, is_prefix, is_proper_prefix}
use Rattle.ext_text.specs.Order.{paths_total, paths_exact}
use Rattle.ext_text.proofs.ForCallers.{true_from_T, is_less, is_equal, same_name, tied_name, convex}
use Rattle.ext_tree.specs.Slices.{is_after, is_before_name, is_named}
use Rattle.ext_tree.specs.Tree.{Entries, lookup}
use Rattle.ext_tree.proofs.InsertionPointLemmas.{below_at}

pub filter_none : {X : Type 0} (p : X → Bool) (xs : List X) → AllWithin (λ x. p x ≡ false) xs 0 (length xs) → (filter p xs ≡ []) × (filter (λ x. not (p x)) xs ≡ xs)
filter_none p [] none = (refl, refl)
filter_none p (x ∷ xs) none =
    let here = none zero x (omega arith) (omega arith) in
    let rest = filter_none p xs (λ i d low high. none (suc i) d (omega arith) (omega arith)) in (
      (λ i. cond (here i) (x ∷ filter p xs) (filter p xs)) ∙ rest.0,
      (λ i. cond (not (here i)) (x ∷ filter (λ x. not (p x)) xs) (filter (λ x. not (p x)) xs)) ∙ ap (λ ys. x ∷ ys) rest.1,
    )

-- what passes stands before a partition point, what does not from it on
pub filter_point : {X : Type 0} (p : X → Bool) (xs : List X) (i : ℕ) → i ≤ length xs → IsPartitionPoint (λ x. p x ≡ true) (λ x. p x ≡ false) xs i → (take i xs ≡ filter p xs) × (drop i xs ≡ filter (λ x. not (p x)) xs)
filter_point p xs zero within at =
    let none = filter_none p xs at.1 in
    (sym none.0, sym none.1)
filter_point p [] (suc i) within at = absurd (omega arith)
filter_point p (x ∷ xs) (suc i) within at =
    let here = at.0 zero x (omega arith) (omega arith) in
    let rest = filter_point p xs i (omega arith) ((λ j d low high. at.0 (suc j) d (omega arith) (omega arith)), (λ j d low high. at.1 (suc j) d (omega arith) (omega arith))) in (
      ap (λ ys. x ∷ ys) rest.0 ∙ (λ i. cond (sym here i) (x ∷ filter p xs) (filter p xs)),
      rest.1 ∙ (λ i. cond (not (sym here i)) (x ∷ filter (λ x. not (p x)) xs) (filter (λ x. not (p x)) xs)),
    )

-- a filter after one that keeps all that it keeps
pub filter_keeps : {X : Type 0} (p q : X → Bool) → ((x : X) → p x ≡ true → q x ≡ true) → (xs : List X) → filter p (filter q xs) ≡ filter p xs
filter_keeps p q keeps [] = refl
filter_keeps p q keeps (x ∷ xs) =
    let rest = filter_keeps p q keeps xs in
    elim (q x) as (λ b. q x ≡ b → filter p (cond b (x ∷ filter q xs) (filter q xs)) ≡ cond (p x) (x ∷ filter p xs) (filter p xs)) [
      | true ↦ λ _ i. cond (p x) (x ∷ rest i) (rest i)
      | false ↦ λ out. rest ∙ (λ i. cond (sym (dropped out) i) (x ∷ filter p xs) (filter p xs))
    ] refl
  where
    dropped : q x ≡ false → p x ≡ false
    dropped out = false_from_ne_true (p x) (λ in_. false≢true (sym out ∙ keeps x in_))

-- a test of an entry's path
abbrev pub at_path : {X : Type 0} → (List (List ℕ) → Bool) → List (List ℕ) × X → Bool
at_path P e = P e.0

module _ {K X : Type 0} (R : K → K → Ordering) where
  -- a test that what comes before passes too, where a second test holds of all
  pub rising : (Q P : K → Bool) → ((x y : K) → R x y ≡ Less → Q x ≡ true → P y ≡ true → P x ≡ true) → (es : List (K × X)) → IsTrue (is_sorted R es) → AllByRecursion (λ e. Q e.0 ≡ true) es → IsPartitionedBy (λ e. P e.0) es
  rising Q P down [] h all i j d le lt pass = absurd (omega arith)
  rising Q P down (e ∷ es) h all zero zero d le lt pass = pass
  rising Q P down (e ∷ es) h all (suc i) zero d le lt pass = absurd (omega arith)
  rising Q P down (e ∷ es) h all zero (suc j) d le lt pass =
      down e.0 (get_or es j d).0 (below_at R e.0 es j d (and_parts _ _ h).0 (omega arith)) all.0 pass
  rising Q P down (e ∷ es) h all (suc i) (suc j) d le lt pass = rising Q P down es (and_parts _ _ h).1 all.1 i j d (omega arith) (omega arith) pass

  pub all_pass : (es : List (K × X)) → AllByRecursion (λ e. true ≡ true) es
  all_pass [] = tt
  all_pass (e ∷ es) = (refl, all_pass es)

  -- what a filter by keys keeps
  pub where_all : (Q : K → Bool) (es : List (K × X)) → AllByRecursion (λ e. Q e.0 ≡ true) (where_key R Q es)
  where_all Q [] = tt
  where_all Q (e ∷ es) =
      elim (Q e.0) as (λ b. Q e.0 ≡ b → AllByRecursion (λ e. Q e.0 ≡ true) (cond b (e ∷ where_key R Q es) (where_key R Q es))) [
        | true ↦ λ in_. (in_, where_all Q es)
        | false ↦ λ _. where_all Q es
      ] refl

-- a look-up among the entries that pass a test of their paths
pub lookup_where : {C : Type 0} (P : List (List ℕ) → Bool) (k : List (List ℕ)) (es : Entries C) → lookup (where_key path_cmp P es) k ≡ cond (P k) (lookup es k) None
lookup_where P k es = find-where_key path_cmp P k (λ x tied. ap P (sym (paths_exact k x tied))) es

-- what comes before a name
pub before_down : (k x y : List (List ℕ)) → path_cmp x y ≡ Less → is_lt (path_cmp y k) ≡ true → is_lt (path_cmp x k) ≡ true
before_down k x y less before = ap is_lt (paths_total.trans x y k less (is_less _ before))

-- what does not come after a path and all below it
pub after_up : (k x y : List (List ℕ)) → path_cmp x y ≡ Less → is_after k x ≡ true → is_after k y ≡ true
after_up k x y less after =
    let parts = and_parts (is_lt (path_cmp k x)) (not (is_prefix k x)) after in
    and_from _ _ (ap is_lt (paths_total.trans k x y (is_less _ parts.0) less))
    (elim (is_prefix k y) as (λ b. is_prefix k y ≡ b → not b ≡ true) [
      | true ↦ λ prefix. absurd (true≢false (sym (convex k x y (ap is_gt (is_less _ parts.0)) (ap is_gt less) prefix) ∙ not-true (is_prefix k x) parts.1))
      | false ↦ λ _. refl
    ] refl)

pub after_down : (k x y : List (List ℕ)) → path_cmp x y ≡ Less → not (is_after k y) ≡ true → not (is_after k x) ≡ true
after_down k x y less out =
    elim (is_after k x) as (λ b. is_after k x ≡ b → not b ≡ true) [
      | true ↦ λ after. absurd (true≢false (sym (after_up k x y less after) ∙ not-true (is_after k y) out))
      | false ↦ λ _. refl
    ] refl

no_lt : (r s : Ordering) → is_lt (ordering_then r s) ≡ false → is_lt r ≡ false
no_lt Less s from = from
no_lt Equal s from = refl
no_lt Greater s from = refl

no_gt : (r s : Ordering) → is_gt (ordering_then r s) ≡ false → is_gt r ≡ false
no_gt Less s to = refl
no_gt Equal s to = refl
no_gt Greater s to = to

neither : (r : Ordering) → is_lt r ≡ false → is_gt r ≡ false → r ≡ Equal
neither Less from to = absurd (true≢false from)
neither Equal from to = refl
neither Greater from to = absurd (true≢false to)

same_byte : (x y : ℕ) → x ≡ y → nat_cmp x y ≡ Equal
same_byte x y same = ap (nat_cmp x) (sym same) ∙ tied_itself nat_cmp_total x

tied_back : (n m : List ℕ) → eq_by_cmp bytes_cmp n m ≡ true → bytes_cmp m n ≡ Equal
tied_back n m tied = is_equal _ (tied_name m n (sym (same_name n m tied)))

-- a text that begins with bytes does not come before them
begins_from : (start n : List ℕ) → starts_with nat_eq n start ≡ true → is_lt (bytes_cmp n start) ≡ false
begins_from [] [] begins = refl
begins_from [] (b ∷ n) begins = refl
begins_from (a ∷ start) [] begins = absurd (false≢true begins)
begins_from (a ∷ start) (b ∷ n) begins =
    let parts = and_parts (nat_eq a b) (starts_with nat_eq n start) begins in
    ap (λ r. is_lt (ordering_then r (bytes_cmp n start))) (same_byte b a (sym (eqb-true a b parts.0))) ∙ begins_from start n parts.1

-- and what stands between the bytes and such a text begins with them
begins_between : (start m n : List ℕ) → is_lt (bytes_cmp m start) ≡ false → is_gt (bytes_cmp m n) ≡ false → starts_with nat_eq n start ≡ true → starts_with nat_eq m start ≡ true
begins_between [] m n from to begins = refl
begins_between (a ∷ start) [] n from to begins = absurd (true≢false from)
begins_between (a ∷ start) (c ∷ m) [] from to begins = absurd (false≢true begins)
begins_between (a ∷ start) (c ∷ m) (b ∷ n) from to begins =
    let parts = and_parts (nat_eq a b) (starts_with nat_eq n start) begins in
    let ends : a ≡ b = eqb-true a b parts.0 in
    let low : is_lt (nat_cmp c a) ≡ false = no_lt (nat_cmp c a) (bytes_cmp m start) from in
    let high : is_gt (nat_cmp c a) ≡ false = ap (λ x. is_gt (nat_cmp c x)) ends ∙ no_gt (nat_cmp c b) (bytes_cmp m n) to in
    let tied : nat_cmp c a ≡ Equal = neither _ low high in
    and_from _ _ (eq-eqb a c (sym (nat_cmp-IsAntisymmetric c a tied)))
    (begins_between start m n
    (ap (λ r. is_lt (ordering_then r (bytes_cmp m start))) (sym tied) ∙ from)
    (ap (λ r. is_gt (ordering_then r (bytes_cmp m n))) (sym tied ∙ ap (nat_cmp c) ends) ∙ to)
    parts.1)

then_root : (r : Ordering) (q : List (List ℕ)) → is_lt r ≡ false → is_lt (ordering_then r (path_cmp q [])) ≡ false
then_root Less q from = from
then_root Equal [] from = refl
then_root Equal (n ∷ q) from = refl
then_root Greater q from = refl

-- what is named does not come before the name
pub named_from : (directory : List (List ℕ)) (start : List ℕ) (q : List (List ℕ)) → is_named directory start q ≡ true → is_before_name directory start q ≡ false
named_from [] start [] named = absurd (false≢true named)
named_from [] start (n ∷ q) named = then_root (bytes_cmp n start) q (begins_from start n named)
named_from (d ∷ directory) start [] named = absurd (false≢true named)
named_from (d ∷ directory) start (n ∷ q) named =
    let parts = and_parts (eq_by_cmp bytes_cmp d n) (is_named directory start q) named in
    ap (λ r. is_lt (ordering_then r (path_cmp q (directory ++ start ∷ [])))) (tied_back d n parts.0) ∙ named_from directory start q parts.1

-- and what stands between the name and what is named is named
pub named_between : (directory : List (List ℕ)) (start : List ℕ) (r q : List (List ℕ)) → is_before_name directory start r ≡ false → is_gt (path_cmp r q) ≡ false → is_named directory start q ≡ true → is_named directory start r ≡ true
named_between [] start [] q from to named = absurd (true≢false from)
named_between [] start (m ∷ r) [] from to named = absurd (false≢true named)
named_between [] start (m ∷ r) (n ∷ q) from to named =
    begins_between start m n (no_lt (bytes_cmp m start) (path_cmp r []) from) (no_gt (bytes_cmp m n) (path_cmp r q) to) named
named_between (d ∷ directory) start [] q from to named = absurd (true≢false from)
named_between (d ∷ directory) start (m ∷ r) [] from to named = absurd (false≢true named)
named_between (d ∷ directory) start (m ∷ r) (n ∷ q) from to named =
    let parts = and_parts (eq_by_cmp bytes_cmp d n) (is_named directory start q) named in
    let ends : d ≡ n = same_name d n parts.0 in
    let low : is_lt (bytes_cmp m d) ≡ false = no_lt (bytes_cmp m d) (path_cmp r (directory ++ start ∷ [])) from in
    let high : is_gt (bytes_cmp m d) ≡ false = ap (λ x. is_gt (bytes_cmp m x)) ends ∙ no_gt (bytes_cmp m n) (path_cmp r q) to in
    let tied : bytes_cmp m d ≡ Equal = neither _ low high in
    and_from _ _ (tied_name d m (sym (bytes_exact m d tied)))
    (named_between directory start r q
    (ap (λ x. is_lt (ordering_then x (path_cmp r (directory ++ start ∷ [])))) (sym tied) ∙ from)
    (ap (λ x. is_gt (ordering_then x (path_cmp r q))) (sym tied ∙ ap (bytes_cmp m) ends) ∙ to)
    parts.1)

pub named_down : (directory : List (List ℕ)) (start : List ℕ) (x y : List (List ℕ)) → path_cmp x y ≡ Less → not (is_before_name directory start x) ≡ true → is_named directory start y ≡ true → is_named directory start x ≡ true
named_down directory start x y less from named = named_between directory start x y (not-true (is_before_name directory start x) from) (ap is_gt less) named

pub named_kept : (directory : List (List ℕ)) (start : List ℕ) (q : List (List ℕ)) → is_named directory start q ≡ true → not (is_before_name directory start q) ≡ true
named_kept directory start q named = ap not (named_from directory start q named)

-- with no bytes all that is below the directory is named
pub named_below : (directory q : List (List ℕ)) → is_named directory [] q ≡ is_proper_prefix directory q
named_below [] [] = refl
named_below [] (n ∷ q) = refl
named_below (d ∷ directory) [] = refl
named_below (d ∷ directory) (n ∷ q) =
    elim (eq_by_cmp bytes_cmp d n) as (λ b. eq_by_cmp bytes_cmp d n ≡ b → (b && is_named directory [] q) ≡ ((b && is_prefix directory q) && not (eq_by_cmp bytes_cmp n d && is_prefix q directory))) [
      | true ↦ λ tied. named_below directory q ∙ ap (λ b. is_prefix directory q && not (b && is_prefix q directory)) (sym (tied_name n d (sym (same_name d n tied))))
      | false ↦ λ _. refl
    ] refl

-- a look-up is one among what does not come before the path
pub find_from : {X : Type 0} (k : List (List ℕ)) (es : List (List (List ℕ) × X)) → find path_cmp k (where_key path_cmp (λ q. not (is_lt (path_cmp q k))) es) ≡ find path_cmp k es
find_from k es =
    find-where_key path_cmp (λ q. not (is_lt (path_cmp q k))) k (λ x tied. ap (λ y. not (is_lt (path_cmp y k))) (sym (paths_exact k x tied))) es
    ∙ ap (λ r. cond (not (is_lt r)) (find path_cmp k es) None) (tied_itself paths_total k)

later : (r : Ordering) → is_lt r ≡ false → is_eq r ≡ false → ordering_reverse r ≡ Less
later Less from other = absurd (true≢false from)
later Equal from other = absurd (true≢false other)
later Greater from other = refl

-- nothing is found where the first of what does not come before comes after
pub find_missed : {X : Type 0} (k : List (List ℕ)) (e : List (List ℕ) × X) (es : List (List (List ℕ) × X)) → is_sorted path_cmp (e ∷ es) ≡ true → is_lt (path_cmp e.0 k) ≡ false → is_eq (path_cmp e.0 k) ≡ false → find path_cmp k (e ∷ es) ≡ None
find_missed {X = X} k e es sorted from other =
    let less : path_cmp k e.0 ≡ Less = paths_total.antisymm k e.0 ∙ later _ from other in
    ap (λ r. cond (is_eq r) (Some e.1) (find path_cmp k es)) less ∙ none es (and_parts (below_all path_cmp e.0 es) (is_sorted path_cmp es) sorted).0 less
  where
    none : (fs : List (List (List ℕ) × X)) → below_all path_cmp e.0 fs ≡ true → path_cmp k e.0 ≡ Less → find path_cmp k fs ≡ None
    none [] below less = refl
    none (f ∷ fs) below less =
        let parts = and_parts (is_lt (path_cmp e.0 f.0)) (below_all path_cmp e.0 fs) below in
        ap (λ r. cond (is_eq r) (Some f.1) (find path_cmp k fs)) (paths_total.trans k e.0 f.0 less (is_less _ parts.0)) ∙ none fs parts.1 less

-- what stands first from a path on, where it is at that path
pub child_hit : {X : Type 0} (k : List (List ℕ)) (es rest : List (List (List ℕ) × X)) (e : List (List ℕ) × X) → rest ≡ where_key path_cmp (λ q. not (is_lt (path_cmp q k))) es → slice_get rest 0 ≡ Some e → is_eq (path_cmp e.0 k) ≡ true → (e.0 ≡ k) × (find path_cmp k es ≡ Some e.1)
child_hit k es [] e is first tied = absurd (false≢true (ap is_some first))
child_hit k es (f ∷ more) e is first tied =
    let same : e.0 ≡ k = paths_exact e.0 k (is_equal _ tied) in
    let here : f ≡ e = ap (λ o. unwrap_or o f) first in
    (same, sym (find_from k es) ∙ ap (find path_cmp k) (sym is) ∙ ap (λ x. find path_cmp k (x ∷ more)) here ∙ ap (λ r. cond (is_eq r) (Some e.1) (find path_cmp k more)) (ap (path_cmp k) same ∙ tied_itself paths_total k))

-- and where it is not, nothing stands there
pub child_missed : {X : Type 0} (k : List (List ℕ)) (es rest : List (List (List ℕ) × X)) (e : List (List ℕ) × X) → is_sorted path_cmp es ≡ true → rest ≡ where_key path_cmp (λ q. not (is_lt (path_cmp q k))) es → slice_get rest 0 ≡ Some e → is_eq (path_cmp e.0 k) ≡ false → find path_cmp k es ≡ None
child_missed k es [] e sorted is first other = absurd (false≢true (ap is_some first))
child_missed k es (f ∷ more) e sorted is first other =
    let here : f ≡ e = ap (λ o. unwrap_or o f) first in
    let kept = sym is ∙ ap (λ x. x ∷ more) here in
    let all = subst (AllByRecursion (λ e. not (is_lt (path_cmp e.0 k)) ≡ true)) kept (where_all path_cmp (λ q. not (is_lt (path_cmp q k))) es) in
    sym (find_from k es) ∙ ap (find path_cmp k) kept
    ∙ find_missed k e more (subst (λ fs. is_sorted path_cmp fs ≡ true) kept (true_from_T _ (is_sorted-where_key path_cmp (λ q. not (is_lt (path_cmp q k))) es (T_from_true _ sorted)))) (not-true (is_lt (path_cmp e.0 k)) all.0) other

pub child_none : {X : Type 0} (k : List (List ℕ)) (es rest : List (List (List ℕ) × X)) → rest ≡ where_key path_cmp (λ q. not (is_lt (path_cmp q k))) es → slice_get rest 0 ≡ None → find path_cmp k es ≡ None
child_none k es [] is none = sym (find_from k es) ∙ ap (find path_cmp k) (sym is)
child_none k es (e ∷ rest) is none = absurd (false≢true (sym (ap is_some none)))

-- a slice of entries in order is in order
pub sorted_where : {X : Type 0} (P : List (List ℕ) → Bool) (es slice : List (List (List ℕ) × X)) → IsTrue (is_sorted path_cmp es) → slice ≡ where_key path_cmp P es → IsTrue (is_sorted path_cmp slice)
sorted_where P es slice sorted is = subst (λ fs. is_sorted path_cmp fs ≡ true) (sym is) (true_from_T _ (is_sorted-where_key path_cmp P es (T_from_true _ sorted)))

-- to a path that does not begin with a directory, what is below this stands as it does
pub cmp_apart : (d p q : List (List ℕ)) → is_prefix d p ≡ false → path_cmp p (d ++ q) ≡ path_cmp p d
cmp_apart [] p q apart = absurd (true≢false apart)
cmp_apart (n ∷ d) [] q apart = refl
cmp_apart (n ∷ d) (m ∷ p) q apart =
    elim (bytes_cmp m n) as (λ o. bytes_cmp m n ≡ o → ordering_then o (path_cmp p (d ++ q)) ≡ ordering_then o (path_cmp p d)) [
      | Less ↦ λ _. refl
      | Greater ↦ λ _. refl
      | Equal ↦ λ tied. cmp_apart d p q (ap (λ t. t && is_prefix d p) (sym (tied_name n m (sym (bytes_exact m n tied)))) ∙ apart)
    ] refl

-- names that do not begin with the directory's are no names of it
pub named_apart : (d : List (List ℕ)) (start : List ℕ) (p : List (List ℕ)) → is_prefix d p ≡ false → is_named d start p ≡ false
named_apart [] start p apart = absurd (true≢false apart)
named_apart (n ∷ d) start [] apart = refl
named_apart (n ∷ d) start (m ∷ p) apart =
    elim (eq_by_cmp bytes_cmp n m) as (λ b. (b && is_prefix d p) ≡ false → (b && is_named d start p) ≡ false) [
      | true ↦ λ out. named_apart d start p out
      | false ↦ λ _. refl
    ] apart

-- and of those that do, what follows decides
pub named_rest : (d : List (List ℕ)) (start : List ℕ) (rest : List (List ℕ)) → is_named d start (d ++ rest) ≡ is_named [] start rest
named_rest [] start rest = refl
named_rest (n ∷ d) start rest = ap (λ t. t && is_named d start (d ++ rest)) (tied_name n n refl) ∙ named_rest d start rest

-- all paths but itself stand past the root
pub past_root : (p : List (List ℕ)) → (p ≡ [] → ⊥) → Greater ≡ path_cmp p []
past_root [] some = absurd (some refl)
past_root (n ∷ p) some = refl
