-- The names of a directory, one after the other: look-ups in what is left.
use Rattle.std.proofs.Common.{◌≡◌, ℕ, ◌<◌, ◌≤◌, Bool, true, false, cond, not, ◌&&◌, List, [], ◌∷◌, ◌++◌, length, get_or, Some, None, refl, sym, ap, ◌∙◌, subst, arith}
use Rattle.std.specs.Prelude.{IsTrue, ◌⊎◌, nat_eq}
use mathlib.Core.Logic.{inl, inr}
use Rattle.std.specs.List.{AllByRecursion, starts_with}
use Rattle.std.specs.Ordering.{eq_by_cmp, is_eq, is_lt, ordering_reverse}
use Rattle.std.specs.declared.cmp.Ordering.{Ordering}
use Rattle.std.specs.declared.cmp.Ordering.TheVariants.{Less, Equal, Greater}
use Rattle.std.specs.FinMap.{is_sorted}
use Rattle.std.specs.FinMap.Entries.{where_key, below_all}
use Rattle.std.proofs.lemmas.Bool.{and_parts, and_from, false≢true}
use Rattle.ext_lines.specs.ByteOrder.{bytes_cmp, bytes_total}
use Rattle.ext_text.specs.Path.{path_cmp, is_prefix, is_proper_prefix}
use Rattle.ext_text.specs.Order.{paths_total}
use Rattle.ext_text.proofs.ForCallers.{is_less, names_tied, same_name}
use Rattle.ext_tree.specs.declared.entry.Entry.{Entry}
use Rattle.ext_tree.specs.Slices.{is_named}
use Rattle.ext_tree.specs.Tree.{Entries, lookup}
use Rattle.ext_tree.proofs.ForCallers.{below_append, lookup_where, where_all}
use Rattle.ext_walk.specs.Row.{IsRow, has_name}

-- what stands below is what is named, too
pub named_proper : (directory : List (List ℕ)) (start : List ℕ) (q : List (List ℕ)) → is_named directory start q ≡ true → is_proper_prefix directory q ≡ true
named_proper [] start [] named = absurd (false≢true named)
named_proper [] start (n ∷ q) named = refl
named_proper (d ∷ directory) start [] named = absurd (false≢true named)
named_proper (d ∷ directory) start (n ∷ q) named =
    let parts = and_parts (eq_by_cmp bytes_cmp d n) (is_named directory start q) named in
    let rest = and_parts (is_prefix directory q) (not (is_prefix q directory)) (named_proper directory start q parts.1) in
    let name : d ≡ n = same_name d n parts.0 in
    and_from _ _ (and_from _ _ parts.0 rest.0)
    (ap not (ap (λ b. b && is_prefix q directory) (ap is_eq (ap (λ m. bytes_cmp n m) name ∙ names_tied n))) ∙ rest.1)

all_proper : {C : Type 0} (directory : List (List ℕ)) (start : List ℕ) (es : Entries C) → AllByRecursion (λ e. is_named directory start e.0 ≡ true) es → AllByRecursion (λ e. is_proper_prefix directory e.0 ≡ true) es
all_proper directory start [] all = tt
all_proper directory start (e ∷ es) all = (named_proper directory start e.0 all.0, all_proper directory start es all.1)

-- which name is at or below the names that begin with some bytes
named_below : (directory : List (List ℕ)) (start n : List ℕ) (q : List (List ℕ)) → is_named directory start (directory ++ n ∷ q) ≡ starts_with nat_eq n start
named_below [] start n q = refl
named_below (d ∷ directory) start n q = ap (λ r. is_eq r && is_named directory start (directory ++ n ∷ q)) (names_tied d) ∙ named_below directory start n q

pub named_child : (directory : List (List ℕ)) (start n : List ℕ) → is_named directory start (directory ++ n ∷ []) ≡ starts_with nat_eq n start
named_child directory start n = named_below directory start n []

-- entries of a tree that pass a test of their names alone
whole_where : {C : Type 0} (P : List (List ℕ) → Bool) (directory : List (List ℕ)) (n : List ℕ) (es rest : Entries C) (b : Bool) → rest ≡ where_key path_cmp P es → ((q : List (List ℕ)) → P (directory ++ n ∷ q) ≡ b) → ((q : List (List ℕ)) → lookup rest (directory ++ n ∷ q) ≡ lookup es (directory ++ n ∷ q)) ⊎ ((q : List (List ℕ)) → lookup rest (directory ++ n ∷ q) ≡ None)
whole_where P directory n es rest true is all = inl (λ q. ap (λ fs. lookup fs (directory ++ n ∷ q)) is ∙ lookup_where P (directory ++ n ∷ q) es ∙ ap (λ b. cond b (lookup es (directory ++ n ∷ q)) None) (all q))
whole_where P directory n es rest false is all = inr (λ q. ap (λ fs. lookup fs (directory ++ n ∷ q)) is ∙ lookup_where P (directory ++ n ∷ q) es ∙ ap (λ b. cond b (lookup es (directory ++ n ∷ q)) None) (all q))

pub row_of_named : {C : Type 0} (directory : List (List ℕ)) (start : List ℕ) (es rest : Entries C) → IsTrue (is_sorted path_cmp rest) → rest ≡ where_key path_cmp (is_named directory start) es → IsRow es directory rest
row_of_named directory start es rest sorted is = record {
  sorted = sorted;
  below = all_proper directory start rest (subst (AllByRecursion (λ e. is_named directory start e.0 ≡ true)) (sym is) (where_all path_cmp (is_named directory start) es));
  whole = λ n. whole_where (is_named directory start) directory n es rest (starts_with nat_eq n start) is (named_below directory start n);
}

pub row_of_below : {C : Type 0} (directory : List (List ℕ)) (es rest : Entries C) → IsTrue (is_sorted path_cmp rest) → rest ≡ where_key path_cmp (is_proper_prefix directory) es → IsRow es directory rest
row_of_below directory es rest sorted is = record {
  sorted = sorted;
  below = subst (AllByRecursion (λ e. is_proper_prefix directory e.0 ≡ true)) (sym is) (where_all path_cmp (is_proper_prefix directory) es);
  whole = λ n. whole_where (is_proper_prefix directory) directory n es rest true is (below_append directory n);
}

-- what stands below a directory has more names
below_rest : (d n : List ℕ) (directory p : List (List ℕ)) → is_proper_prefix (d ∷ directory) (n ∷ p) ≡ true → is_proper_prefix directory p ≡ true
below_rest d n directory p below =
    let parts = and_parts (is_prefix (d ∷ directory) (n ∷ p)) (not (is_prefix (n ∷ p) (d ∷ directory))) below in
    let both = and_parts (eq_by_cmp bytes_cmp d n) (is_prefix directory p) parts.0 in
    let name : d ≡ n = same_name d n both.0 in
    and_from _ _ both.1 (sym (ap not (ap (λ b. b && is_prefix p directory) (ap is_eq (ap (λ m. bytes_cmp n m) name ∙ names_tied n)))) ∙ parts.1)

pub deeper : (directory p : List (List ℕ)) → is_proper_prefix directory p ≡ true → length directory < length p
deeper [] [] below = absurd (false≢true below)
deeper [] (n ∷ p) below = omega arith
deeper (d ∷ directory) [] below = absurd (false≢true below)
deeper (d ∷ directory) (n ∷ p) below =
    let rest = deeper directory p (below_rest d n directory p below) in
    omega arith

-- a key before the first of entries in order is not among them
none_before : {C : Type 0} (k p : List (List ℕ)) (fs : Entries C) → path_cmp k p ≡ Less → below_all path_cmp p fs ≡ true → lookup fs k ≡ None
none_before k p [] less below = refl
none_before k p (f ∷ fs) less below =
    let parts = and_parts (is_lt (path_cmp p f.0)) (below_all path_cmp p fs) below in
    ap (λ r. cond (is_eq r) (Some f.1) (lookup fs k)) (paths_total.trans k p f.0 less (is_less _ parts.0)) ∙ none_before k p fs less parts.1

pub none_first : {C : Type 0} (k : List (List ℕ)) (e : List (List ℕ) × Entry C) (es : Entries C) → path_cmp k e.0 ≡ Less → is_sorted path_cmp (e ∷ es) ≡ true → lookup (e ∷ es) k ≡ None
none_first k e es less sorted =
    ap (λ r. cond (is_eq r) (Some e.1) (lookup es k)) less ∙ none_before k e.0 es less (and_parts (below_all path_cmp e.0 es) (is_sorted path_cmp es) sorted).0

-- the path of what stands below a directory: the directory, a name, and the rest
pub at_depth : (directory p : List (List ℕ)) (name : List ℕ) → is_proper_prefix directory p ≡ true → name ≡ get_or p (length directory) name → (q : List (List ℕ)) × (p ≡ directory ++ name ∷ q)
at_depth [] [] name below is = absurd (false≢true below)
at_depth [] (n ∷ p) name below is = (p, ap (λ m. m ∷ p) (sym is))
at_depth (d ∷ directory) [] name below is = absurd (false≢true below)
at_depth (d ∷ directory) (n ∷ p) name below is =
    let parts = and_parts (is_prefix (d ∷ directory) (n ∷ p)) (not (is_prefix (n ∷ p) (d ∷ directory))) below in
    let both = and_parts (eq_by_cmp bytes_cmp d n) (is_prefix directory p) parts.0 in
    let first : n ≡ d = sym (same_name d n both.0) in
    let rest = at_depth directory p name (below_rest d n directory p below) is in
    (rest.0, λ i. first i ∷ rest.1 i)

pub first_below : {C : Type 0} (es : Entries C) (directory : List (List ℕ)) (rest : Entries C) (e : List (List ℕ) × Entry C) → 1 ≤ length rest → e ≡ get_or rest 0 e → IsRow es directory rest → is_proper_prefix directory e.0 ≡ true
first_below es directory [] e some is row = absurd (omega arith)
first_below es directory (f ∷ rest) e some is row = ap (λ x. is_proper_prefix directory x.0) is ∙ row.below.0

pub has_same : {C : Type 0} (directory : List (List ℕ)) (name n : List ℕ) (q : List (List ℕ)) (x : C) → has_name (length directory) name (directory ++ n ∷ q, x) ≡ eq_by_cmp bytes_cmp n name
has_same [] name n q x = refl
has_same (d ∷ directory) name n q x = has_same directory name n q x

reversed : (r : Ordering) → is_eq (ordering_reverse r) ≡ is_eq r && true
reversed Less = refl
reversed Equal = refl
reversed Greater = refl

-- they stand at the name or below it
pub has_prefix : {C : Type 0} (directory : List (List ℕ)) (name : List ℕ) (e : List (List ℕ) × C) → is_proper_prefix directory e.0 ≡ true → has_name (length directory) name e ≡ is_prefix (directory ++ name ∷ []) e.0
has_prefix {C = C} directory name e below = go directory e.0 below
  where
    go : (directory p : List (List ℕ)) → is_proper_prefix directory p ≡ true → has_name (length directory) name (p, e.1) ≡ is_prefix (directory ++ name ∷ []) p
    go [] [] below = absurd (false≢true below)
    go [] (n ∷ p) below = ap is_eq (bytes_total.antisymm n name) ∙ reversed (bytes_cmp name n)
    go (d ∷ directory) [] below = absurd (false≢true below)
    go (d ∷ directory) (n ∷ p) below =
        let parts = and_parts (is_prefix (d ∷ directory) (n ∷ p)) (not (is_prefix (n ∷ p) (d ∷ directory))) below in
        let both = and_parts (eq_by_cmp bytes_cmp d n) (is_prefix directory p) parts.0 in
        go directory p (below_rest d n directory p below) ∙ ap (λ b. b && is_prefix (directory ++ name ∷ []) p) (sym both.0)
