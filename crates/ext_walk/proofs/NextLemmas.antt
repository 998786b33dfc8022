-- The next name of a directory: it is where the first of the entries stands, and these are all that the tree has there.
use Rattle.std.proofs.Math.Seq.{take-length}
use Rattle.std.proofs.Common.{◌≡◌, ℕ, suc, zero, ◌-◌, ◌<◌, ◌≤◌, Bool, true, false, cond, not, ◌&&◌, List, [], ◌∷◌, ◌++◌, length, take, drop, get_or, Some, None, is_some, refl, sym, ap, ◌∙◌, subst, arith, length-append}
use Rattle.std.specs.Prelude.{◌⊎◌, nat_lt}
use mathlib.Core.Logic.{inl, inr}
use Rattle.std.specs.List.{AllByRecursion, AllWithin}
use Rattle.std.specs.List.Sorted.{IsPartitionedBy, IsPartitionPoint}
use Rattle.std.specs.Cmp.{tied_itself}
use Rattle.std.specs.Ordering.{eq_by_cmp, is_eq, is_gt, is_lt, ordering_then}
use Rattle.std.specs.declared.cmp.Ordering.TheVariants.{Less, Equal}
use Rattle.std.specs.FinMap.{is_sorted}
use Rattle.std.specs.FinMap.Entries.{where_key, below_all, is_sorted-where_key, same_entries}
use Rattle.std.proofs.lemmas.Bool.{and_parts, and_from, false≢true, false_from_ne_true, ltb-false, ltb-true}
use Rattle.std.proofs.lemmas.Float.{T_from_true}
use Rattle.std.proofs.lemmas.List.{append_assoc, get_or-take, get_or_default, length-take-le, take-append-drop}
use Rattle.ext_lines.specs.ByteOrder.{bytes_cmp}
use Rattle.ext_text.specs.Name.{IsName}
use Rattle.ext_text.specs.Path.{path_cmp, is_prefix, is_proper_prefix}
use Rattle.ext_text.specs.Order.{paths_exact, paths_total}
use Rattle.ext_text.proofs.ForCallers.{all_back, all_prefix, convex, is_less, names_tied, prefix_both, prefix_self, same_name, true_from_T}
use Rattle.ext_tree.specs.declared.entry.Entry.{Entry}
use Rattle.ext_tree.specs.Tree.{Entries, IsTree, lookup, is_directory_or_root}
use Rattle.ext_tree.proofs.ForCallers.{below_append, below_at, cmp_prefix, directory_some, lookup_where, prefix_append, prefix_split, prefixes}
use Rattle.ext_walk.specs.Row.{IsNext, IsRow, Passes, has_name}
use Rattle.ext_walk.specs.declared.row.Next.{Next}
use Rattle.ext_walk.proofs.RowLemmas.{at_depth, has_prefix, has_same, none_first}

all_false : {X : Type 0} (Q : X → Bool) (xs : List X) → AllWithin (λ x. Q x ≡ false) xs 0 (length xs) → AllByRecursion (λ x. Q x ≡ false) xs
all_false Q [] none = tt
all_false Q (x ∷ xs) none = (none zero x (omega arith) (omega arith), all_false Q xs (λ i d low high. none (suc i) d (omega arith) (omega arith)))

-- what is before a partition point passes, what is from it on does not
pub point_parts : {X : Type 0} (Q : X → Bool) (xs : List X) (i : ℕ) → i ≤ length xs → IsPartitionPoint (λ x. Q x ≡ true) (λ x. Q x ≡ false) xs i → AllByRecursion (λ x. Q x ≡ true) (take i xs) × AllByRecursion (λ x. Q x ≡ false) (drop i xs)
point_parts Q xs zero within at = (tt, all_false Q xs at.1)
point_parts Q [] (suc i) within at = absurd (omega arith)
point_parts Q (x ∷ xs) (suc i) within at =
    let rest = point_parts Q xs i (omega arith) ((λ j d low high. at.0 (suc j) d (omega arith) (omega arith)), (λ j d low high. at.1 (suc j) d (omega arith) (omega arith))) in
    ((at.0 zero x (omega arith) (omega arith), rest.0), rest.1)

-- the front of what a test splits is split
pub first_partitioned : {X : Type 0} (Q : X → Bool) (xs : List X) (n : ℕ) → n ≤ length xs → IsPartitionedBy Q xs → IsPartitionedBy Q (take n xs)
first_partitioned Q xs n within split i j d le lt pass =
    let few : length (take n xs) ≡ n = length-take-le n xs within in
    ap Q (get_or-take n xs i d (omega arith)) ∙ split i j d le (omega arith) (ap Q (sym (get_or-take n xs j d (omega arith))) ∙ pass)

-- a partition point of the front is one of the whole, where nothing past the front passes
pub point_of_first : {X : Type 0} (Q : X → Bool) (xs : List X) (n i : ℕ) → n ≤ length xs → i ≤ n → IsPartitionPoint (λ x. Q x ≡ true) (λ x. Q x ≡ false) (take n xs) i → AllWithin (λ x. Q x ≡ false) xs n (length xs) → IsPartitionPoint (λ x. Q x ≡ true) (λ x. Q x ≡ false) xs i
point_of_first Q xs n i within few at past =
    let count : length (take n xs) ≡ n = length-take-le n xs within in (
      λ k d low high. ap Q (sym (get_or-take n xs k d (omega arith))) ∙ at.0 k d low high,
      λ k d low high. elim (nat_lt k n) as (λ b. nat_lt k n ≡ b → Q (get_or xs k d) ≡ false) [
        | true ↦ λ less. let front : k < n = ltb-true k n less in ap Q (sym (get_or-take n xs k d front)) ∙ at.1 k d low (omega arith)
        | false ↦ λ other. past k d (ltb-false k n other) high
      ] refl,
    )

-- past one that does not pass none does
pub none_past : {X : Type 0} (Q : X → Bool) (xs : List X) (n : ℕ) (x : X) → n < length xs → x ≡ get_or xs n x → Q x ≡ false → IsPartitionedBy Q xs → AllWithin (λ x. Q x ≡ false) xs n (length xs)
none_past Q xs n x within is out split k d low high =
    false_from_ne_true (Q (get_or xs k d)) (λ pass. false≢true (sym out ∙ ap Q is ∙ split n k x low high (ap Q (get_or_default xs k x d high) ∙ pass)))

all_at : {X : Type 0} (P : X → Type 0) (xs : List X) (i : ℕ) (d : X) → AllByRecursion P xs → i < length xs → P (get_or xs i d)
all_at P [] i d all within = absurd (omega arith)
all_at P (x ∷ xs) zero d all within = all.0
all_at P (x ∷ xs) (suc i) d all within = all_at P xs i d all.1 (omega arith)

module _ {C : Type 0} (Q : List (List ℕ) → Bool) where
  where_in : (xs : Entries C) → AllByRecursion (λ e. Q e.0 ≡ true) xs → where_key path_cmp Q xs ≡ xs
  where_in [] all = refl
  where_in (x ∷ xs) all = ap (λ b. cond b (x ∷ where_key path_cmp Q xs) (where_key path_cmp Q xs)) all.0 ∙ ap (λ zs. x ∷ zs) (where_in xs all.1)

  where_out : (xs ys : Entries C) → AllByRecursion (λ e. Q e.0 ≡ false) xs → where_key path_cmp Q (xs ++ ys) ≡ where_key path_cmp Q ys
  where_out [] ys none = refl
  where_out (x ∷ xs) ys none = ap (λ b. cond b (x ∷ where_key path_cmp Q (xs ++ ys)) (where_key path_cmp Q (xs ++ ys))) none.0 ∙ where_out xs ys none.1

  where_first : (xs ys : Entries C) → AllByRecursion (λ e. Q e.0 ≡ true) xs → AllByRecursion (λ e. Q e.0 ≡ false) ys → where_key path_cmp Q (xs ++ ys) ≡ xs
  where_first [] [] all none = refl
  where_first [] (y ∷ ys) all none = ap (λ b. cond b (y ∷ where_key path_cmp Q ys) (where_key path_cmp Q ys)) none.0 ∙ where_first [] ys all none.1
  where_first (x ∷ xs) ys all none = ap (λ b. cond b (x ∷ where_key path_cmp Q (xs ++ ys)) (where_key path_cmp Q (xs ++ ys))) all.0 ∙ ap (λ zs. x ∷ zs) (where_first xs ys all.1 none)

all_not : {C : Type 0} (P : List (List ℕ) → Bool) (b : Bool) (es : Entries C) → AllByRecursion (λ e. P e.0 ≡ b) es → AllByRecursion (λ e. not (P e.0) ≡ not b) es
all_not P b [] all = tt
all_not P b (e ∷ es) all = (ap not all.0, all_not P b es all.1)

module _ {C : Type 0} (es : Entries C) (tree : IsTree es) (directory : List (List ℕ)) (name : List ℕ) (x : Entry C) (others : Entries C) where
  here : (q : List (List ℕ)) → lookup ((directory ++ name ∷ q, x) ∷ others) (directory ++ name ∷ q) ≡ Some x
  here q = ap (λ r. cond (is_eq r) (Some x) (lookup others (directory ++ name ∷ q))) (tied_itself paths_total (directory ++ name ∷ q))

  -- all that the tree has at the name is left
  all_left : (q : List (List ℕ)) → IsRow es directory ((directory ++ name ∷ q, x) ∷ others) → (r : List (List ℕ)) → lookup ((directory ++ name ∷ q, x) ∷ others) (directory ++ name ∷ r) ≡ lookup es (directory ++ name ∷ r)
  all_left q row = by_case (row.whole name)
    where
      by_case : ((r : List (List ℕ)) → lookup ((directory ++ name ∷ q, x) ∷ others) (directory ++ name ∷ r) ≡ lookup es (directory ++ name ∷ r)) ⊎ ((r : List (List ℕ)) → lookup ((directory ++ name ∷ q, x) ∷ others) (directory ++ name ∷ r) ≡ None) → (r : List (List ℕ)) → lookup ((directory ++ name ∷ q, x) ∷ others) (directory ++ name ∷ r) ≡ lookup es (directory ++ name ∷ r)
      by_case (inl all) = all
      by_case (inr none) = absurd (false≢true (sym (ap is_some (none q)) ∙ ap is_some (here q)))

  -- it stands at the name itself: where something stands below the name, a directory stands at it
  first_path : (q : List (List ℕ)) → IsRow es directory ((directory ++ name ∷ q, x) ∷ others) → q ≡ []
  first_path [] row = refl
  first_path (m ∷ q) row =
      let all = all_left (m ∷ q) row in
      let there : is_some (lookup es (directory ++ name ∷ m ∷ q)) ≡ true = ap is_some (sym (all (m ∷ q)) ∙ here (m ∷ q)) in
      let prefix : is_prefix (directory ++ name ∷ []) (directory ++ name ∷ m ∷ q) ≡ true = ap (is_prefix (directory ++ name ∷ [])) (sym (append_assoc directory (name ∷ []) (m ∷ q))) ∙ prefix_append (directory ++ name ∷ []) (m ∷ q) in
      let above : is_directory_or_root es (directory ++ name ∷ []) ≡ true = prefixes es tree (directory ++ name ∷ []) (directory ++ name ∷ m ∷ q) there prefix (omega (arith, length-append directory (name ∷ []), length-append directory (name ∷ m ∷ q))) in
      let less : path_cmp (directory ++ name ∷ []) (directory ++ name ∷ m ∷ q) ≡ Less = cmp_prefix directory (name ∷ []) (name ∷ m ∷ q) ∙ ap (λ r. ordering_then r Less) (names_tied name) in
      absurd (false≢true (sym (ap is_some (none_first (directory ++ name ∷ []) (directory ++ name ∷ m ∷ q, x) others less row.sorted)) ∙ ap is_some (all []) ∙ directory_some es (directory ++ name ∷ []) (omega (arith, length-append directory (name ∷ []))) above))

-- the same as the code has it
pub first_at : {C : Type 0} (es : Entries C) → IsTree es → (directory : List (List ℕ)) (rest : Entries C) (e : List (List ℕ) × Entry C) (names : List (List ℕ)) (name : List ℕ) → 1 ≤ length rest → e ≡ get_or rest 0 e → IsRow es directory rest → names ≡ e.0 → name ≡ get_or names (length directory) name → (e.0 ≡ directory ++ name ∷ []) × (rest ≡ (directory ++ name ∷ [], e.1) ∷ drop 1 rest)
first_at es tree directory [] e names name some first row is at = absurd (omega arith)
first_at {C = C} es tree directory ((p, x) ∷ others) e names name some first row is at =
    let same : names ≡ p = is ∙ ap (λ y. y.0) first in
    let parts = at_depth directory p name row.below.0 (at ∙ ap (λ r. get_or r (length directory) name) same) in
    let root = first_path es tree directory name x others parts.0 (subst (λ r. IsRow es directory ((r, x) ∷ others)) parts.1 row) in
    let own : p ≡ directory ++ name ∷ [] = parts.1 ∙ ap (λ q. directory ++ name ∷ q) root in
    (ap (λ y. y.0) first ∙ own, λ i. (own i, ap (λ y. y.1) (sym first) i) ∷ others)

-- what comes after a path in entries in order
all_past : {C : Type 0} (p : List (List ℕ)) (es : Entries C) → below_all path_cmp p es ≡ true → AllByRecursion (λ e. path_cmp p e.0 ≡ Less) es
all_past p [] below = tt
all_past p (e ∷ es) below =
    let parts = and_parts (is_lt (path_cmp p e.0)) (below_all path_cmp p es) below in
    (is_less (path_cmp p e.0) parts.0, all_past p es parts.1)

module _ {C : Type 0} (directory : List (List ℕ)) (name : List ℕ) where
  -- they stand one after another from the front on
  pub named_first : (es : Entries C) → is_sorted path_cmp es ≡ true → AllByRecursion (λ e. is_proper_prefix directory e.0 ≡ true) es → AllByRecursion (λ e. path_cmp (directory ++ name ∷ []) e.0 ≡ Less) es → IsPartitionedBy (has_name (length directory) name) es
  named_first [] sorted below past i j d le lt has = absurd (omega arith)
  named_first (e ∷ es) sorted below past zero zero d le lt has = has
  named_first (e ∷ es) sorted below past (suc i) zero d le lt has = absurd (omega arith)
  named_first (e ∷ es) sorted below past zero (suc j) d le lt has =
      let within : j < length es = omega arith in
      let less = below_at path_cmp e.0 es j d (and_parts (below_all path_cmp e.0 es) (is_sorted path_cmp es) sorted).0 within in
      let proper = all_at (λ y. is_proper_prefix directory y.0 ≡ true) es j d below.1 within in
      has_prefix directory name e below.0
      ∙ convex (directory ++ name ∷ []) e.0 (get_or es j d).0 (ap is_gt past.0) (ap is_gt less) (sym (has_prefix directory name (get_or es j d) proper) ∙ has)
  named_first (e ∷ es) sorted below past (suc i) (suc j) d le lt has =
      named_first es (and_parts (below_all path_cmp e.0 es) (is_sorted path_cmp es) sorted).1 below.1 past.1 i j d (omega arith) (omega arith) has

  -- as prefixes
  at_or_below : (b : Bool) (es : Entries C) → AllByRecursion (λ e. is_proper_prefix directory e.0 ≡ true) es → AllByRecursion (λ e. has_name (length directory) name e ≡ b) es → AllByRecursion (λ e. is_prefix (directory ++ name ∷ []) e.0 ≡ b) es
  at_or_below b [] below has = tt
  at_or_below b (e ∷ es) below has = (sym (has_prefix directory name e below.0) ∙ has.0, at_or_below b es below.1 has.1)

not_below_itself : (p : List (List ℕ)) → is_proper_prefix p p ≡ false
not_below_itself p = λ i. prefix_self p i && not (prefix_self p i)

all_proper : {C : Type 0} (p : List (List ℕ)) (es : Entries C) → AllByRecursion (λ e. is_prefix p e.0 ≡ true) es → AllByRecursion (λ e. path_cmp p e.0 ≡ Less) es → AllByRecursion (λ e. is_proper_prefix p e.0 ≡ true) es
all_proper p [] at past = tt
all_proper p (e ∷ es) at past = (
  and_from (is_prefix p e.0) (not (is_prefix e.0 p)) at.0 (elim (is_prefix e.0 p) as (λ b. is_prefix e.0 p ≡ b → not b ≡ true) [
    | true ↦ λ back. absurd (no_less (sym past.0 ∙ ap (path_cmp p) (sym (prefix_both p e.0 at.0 back)) ∙ tied_itself paths_total p))
    | false ↦ λ _. refl
  ] refl),
  all_proper p es at.1 past.1,
)
  where
    no_less : Less ≡ Equal → ⊥
    no_less same = cc same

none_proper : {C : Type 0} (p : List (List ℕ)) (es : Entries C) → AllByRecursion (λ e. is_prefix p e.0 ≡ false) es → AllByRecursion (λ e. is_proper_prefix p e.0 ≡ false) es
none_proper p [] past = tt
none_proper p (e ∷ es) past = (ap (λ b. b && not (is_prefix e.0 p)) past.0, none_proper p es past.1)

module _ {C : Type 0} (es : Entries C) (tree : IsTree es) (directory : List (List ℕ)) (name : List ℕ) (x : Entry C) (inside more : Entries C)
    (row : IsRow es directory ((directory ++ name ∷ [], x) ∷ (inside ++ more)))
    (at : AllByRecursion (λ e. is_prefix (directory ++ name ∷ []) e.0 ≡ true) inside)
    (past : AllByRecursion (λ e. is_prefix (directory ++ name ∷ []) e.0 ≡ false) more) where
  all_here : (r : List (List ℕ)) → lookup ((directory ++ name ∷ [], x) ∷ (inside ++ more)) (directory ++ name ∷ r) ≡ lookup es (directory ++ name ∷ r)
  all_here = all_left es tree directory name x (inside ++ more) [] row

  there : lookup es (directory ++ name ∷ []) ≡ Some x
  there = sym (all_here []) ∙ here es tree directory name x (inside ++ more) []

  sorted_others : (below_all path_cmp (directory ++ name ∷ []) (inside ++ more) ≡ true) × (is_sorted path_cmp (inside ++ more) ≡ true)
  sorted_others = and_parts (below_all path_cmp (directory ++ name ∷ []) (inside ++ more)) (is_sorted path_cmp (inside ++ more)) row.sorted

  -- below the name

  inside_of_rest : where_key path_cmp (is_proper_prefix (directory ++ name ∷ [])) ((directory ++ name ∷ [], x) ∷ (inside ++ more)) ≡ inside
  inside_of_rest =
      ap (λ b. cond b ((directory ++ name ∷ [], x) ∷ where_key path_cmp (is_proper_prefix (directory ++ name ∷ [])) (inside ++ more)) (where_key path_cmp (is_proper_prefix (directory ++ name ∷ [])) (inside ++ more))) (not_below_itself (directory ++ name ∷ []))
      ∙ where_first (is_proper_prefix (directory ++ name ∷ [])) inside more
      (all_proper (directory ++ name ∷ []) inside at (all_prefix (λ e. path_cmp (directory ++ name ∷ []) e.0 ≡ Less) inside more (all_past (directory ++ name ∷ []) (inside ++ more) sorted_others.0)))
      (none_proper (directory ++ name ∷ []) more past)

  same_below : (k : List (List ℕ)) → lookup (where_key path_cmp (is_proper_prefix (directory ++ name ∷ [])) ((directory ++ name ∷ [], x) ∷ (inside ++ more))) k ≡ lookup (where_key path_cmp (is_proper_prefix (directory ++ name ∷ [])) es) k
  same_below k =
      lookup_where (is_proper_prefix (directory ++ name ∷ [])) k ((directory ++ name ∷ [], x) ∷ (inside ++ more))
      ∙ elim (is_proper_prefix (directory ++ name ∷ []) k) as (λ b. is_proper_prefix (directory ++ name ∷ []) k ≡ b → cond b (lookup ((directory ++ name ∷ [], x) ∷ (inside ++ more)) k) None ≡ cond b (lookup es k) None) [
        | true ↦ λ below. by_rest below
        | false ↦ λ _. refl
      ] refl
      ∙ sym (lookup_where (is_proper_prefix (directory ++ name ∷ [])) k es)
    where
      by_rest : is_proper_prefix (directory ++ name ∷ []) k ≡ true → lookup ((directory ++ name ∷ [], x) ∷ (inside ++ more)) k ≡ lookup es k
      by_rest below =
          let split : k ≡ directory ++ name ∷ drop (length (directory ++ name ∷ [])) k = prefix_split (directory ++ name ∷ []) k (and_parts (is_prefix (directory ++ name ∷ []) k) (not (is_prefix k (directory ++ name ∷ []))) below).0 ∙ append_assoc directory (name ∷ []) (drop (length (directory ++ name ∷ [])) k) in
          ap (lookup ((directory ++ name ∷ [], x) ∷ (inside ++ more))) split ∙ all_here (drop (length (directory ++ name ∷ [])) k) ∙ ap (lookup es) (sym split)

  inside_whole : inside ≡ where_key path_cmp (is_proper_prefix (directory ++ name ∷ [])) es
  inside_whole =
      sym inside_of_rest
      ∙ same_entries path_cmp paths_total paths_exact _ _
      (is_sorted-where_key path_cmp (is_proper_prefix (directory ++ name ∷ [])) ((directory ++ name ∷ [], x) ∷ (inside ++ more)) (T_from_true _ row.sorted))
      (is_sorted-where_key path_cmp (is_proper_prefix (directory ++ name ∷ [])) es (T_from_true _ tree.sorted))
      same_below

  -- past the name

  more_of_rest : where_key path_cmp (λ k. not (is_prefix (directory ++ name ∷ []) k)) ((directory ++ name ∷ [], x) ∷ (inside ++ more)) ≡ more
  more_of_rest =
      ap (λ b. cond (not b) ((directory ++ name ∷ [], x) ∷ where_key path_cmp (λ k. not (is_prefix (directory ++ name ∷ []) k)) (inside ++ more)) (where_key path_cmp (λ k. not (is_prefix (directory ++ name ∷ []) k)) (inside ++ more))) (prefix_self (directory ++ name ∷ []))
      ∙ where_out (λ k. not (is_prefix (directory ++ name ∷ []) k)) inside more (all_not (is_prefix (directory ++ name ∷ [])) true inside at)
      ∙ where_in (λ k. not (is_prefix (directory ++ name ∷ []) k)) more (all_not (is_prefix (directory ++ name ∷ [])) false more past)

  left_at : (n : List ℕ) (q : List (List ℕ)) → lookup more (directory ++ n ∷ q) ≡ cond (not (eq_by_cmp bytes_cmp n name)) (lookup ((directory ++ name ∷ [], x) ∷ (inside ++ more)) (directory ++ n ∷ q)) None
  left_at n q =
      ap (λ fs. lookup fs (directory ++ n ∷ q)) (sym more_of_rest)
      ∙ lookup_where (λ k. not (is_prefix (directory ++ name ∷ []) k)) (directory ++ n ∷ q) ((directory ++ name ∷ [], x) ∷ (inside ++ more))
      ∙ ap (λ b. cond (not b) (lookup ((directory ++ name ∷ [], x) ∷ (inside ++ more)) (directory ++ n ∷ q)) None)
      (sym (has_prefix directory name (directory ++ n ∷ q, x) (below_append directory n q)) ∙ has_same directory name n q x)

  left_whole : (n : List ℕ) → ((q : List (List ℕ)) → lookup more (directory ++ n ∷ q) ≡ lookup es (directory ++ n ∷ q)) ⊎ ((q : List (List ℕ)) → lookup more (directory ++ n ∷ q) ≡ None)
  left_whole n = by_name (eq_by_cmp bytes_cmp n name) refl
    where
      by_row : eq_by_cmp bytes_cmp n name ≡ false → ((q : List (List ℕ)) → lookup ((directory ++ name ∷ [], x) ∷ (inside ++ more)) (directory ++ n ∷ q) ≡ lookup es (directory ++ n ∷ q)) ⊎ ((q : List (List ℕ)) → lookup ((directory ++ name ∷ [], x) ∷ (inside ++ more)) (directory ++ n ∷ q) ≡ None) → ((q : List (List ℕ)) → lookup more (directory ++ n ∷ q) ≡ lookup es (directory ++ n ∷ q)) ⊎ ((q : List (List ℕ)) → lookup more (directory ++ n ∷ q) ≡ None)
      by_row other (inl all) = inl (λ q. left_at n q ∙ ap (λ b. cond (not b) (lookup ((directory ++ name ∷ [], x) ∷ (inside ++ more)) (directory ++ n ∷ q)) None) other ∙ all q)
      by_row other (inr none) = inr (λ q. left_at n q ∙ ap (λ b. cond (not b) (lookup ((directory ++ name ∷ [], x) ∷ (inside ++ more)) (directory ++ n ∷ q)) None) other ∙ none q)

      by_name : (b : Bool) → eq_by_cmp bytes_cmp n name ≡ b → ((q : List (List ℕ)) → lookup more (directory ++ n ∷ q) ≡ lookup es (directory ++ n ∷ q)) ⊎ ((q : List (List ℕ)) → lookup more (directory ++ n ∷ q) ≡ None)
      by_name true same = inr (λ q. left_at n q ∙ ap (λ b. cond (not b) (lookup ((directory ++ name ∷ [], x) ∷ (inside ++ more)) (directory ++ n ∷ q)) None) same)
      by_name false other = by_row other (row.whole n)

  left_row : IsRow es directory more
  left_row = record {
    sorted = subst (λ fs. is_sorted path_cmp fs ≡ true) more_of_rest (true_from_T _ (is_sorted-where_key path_cmp (λ k. not (is_prefix (directory ++ name ∷ []) k)) ((directory ++ name ∷ [], x) ∷ (inside ++ more)) (T_from_true _ row.sorted)));
    below = all_back (λ e. is_proper_prefix directory e.0 ≡ true) inside more row.below.1;
    whole = left_whole;
  }

  passes : Passes directory ((directory ++ name ∷ [], x) ∷ (inside ++ more)) name more
  passes = record {
    shorter = omega (arith, length-append inside more);
    none_before = λ n less. none_first (directory ++ n ∷ []) (directory ++ name ∷ [], x) (inside ++ more) (cmp_prefix directory (n ∷ []) (name ∷ []) ∙ ap (λ r. ordering_then r Equal) less) row.sorted;
    passed = λ n none. by_name n none (eq_by_cmp bytes_cmp n name) refl;
  }
    where
      by_name : (n : List ℕ) → lookup more (directory ++ n ∷ []) ≡ None → (b : Bool) → eq_by_cmp bytes_cmp n name ≡ b → (lookup ((directory ++ name ∷ [], x) ∷ (inside ++ more)) (directory ++ n ∷ []) ≡ None) ⊎ (n ≡ name)
      by_name n none true same = inr (same_name n name same)
      by_name n none false other = inl (sym (left_at n [] ∙ ap (λ b. cond (not b) (lookup ((directory ++ name ∷ [], x) ∷ (inside ++ more)) (directory ++ n ∷ [])) None) other) ∙ none)

  pub is_next : (next : Next C) → next.name.now ≡ name → next.entry.now ≡ (directory ++ name ∷ [], x) → next.inside.now ≡ inside → next.more.now ≡ more → IsNext es directory ((directory ++ name ∷ [], x) ∷ (inside ++ more)) next
  is_next next named entry in_ left = record {
    path = ap (λ e. e.0) entry ∙ ap (λ n. directory ++ n ∷ []) (sym named);
    stands = record {
      there = ap (λ e. lookup es e.0) entry ∙ there ∙ ap (λ e. Some e.1) (sym entry);
      inside = in_ ∙ inside_whole ∙ ap (λ e. where_key path_cmp (is_proper_prefix e.0) es) (sym entry);
      name = subst IsName (sym named) (all_back IsName directory (name ∷ []) (tree.paths (directory ++ name ∷ []) (ap is_some there)).each).0;
    };
    passes = subst (λ n. Passes directory ((directory ++ name ∷ [], x) ∷ (inside ++ more)) n next.more.now) (sym named) (subst (Passes directory ((directory ++ name ∷ [], x) ∷ (inside ++ more)) name) (sym left) passes);
    row = subst (IsRow es directory) (sym left) left_row;
  }

-- the same as the code has it
pub next_here : {C : Type 0} (es : Entries C) → IsTree es → (directory : List (List ℕ)) (rest others : Entries C) (e : List (List ℕ) × Entry C) (names : List (List ℕ)) (name : List ℕ) (count : ℕ) → 1 ≤ length rest → e ≡ get_or rest 0 e → IsRow es directory rest → names ≡ e.0 → name ≡ get_or names (length directory) name → others ≡ drop 1 rest → count ≤ length others → (IsPartitionedBy (has_name (length directory) name) others → IsPartitionPoint (λ y. has_name (length directory) name y ≡ true) (λ y. has_name (length directory) name y ≡ false) others count) → (next : Next C) → next.name.now ≡ name → next.entry.now ≡ e → next.inside.now ≡ take count others → next.more.now ≡ drop count others → IsNext es directory rest next
next_here {C = C} es tree directory rest others e names name count some first row is at are within point next named entry in_ left =
    subst (λ fs. IsNext es directory fs next) (ap (λ fs. (directory ++ name ∷ [], e.1) ∷ fs) (take-append-drop count others ∙ are) ∙ sym here.1)
    (is_next es tree directory name e.1 (take count others) (drop count others)
    (subst (λ fs. IsRow es directory ((directory ++ name ∷ [], e.1) ∷ fs)) (sym (take-append-drop count others)) own_row)
    (at_or_below directory name true (take count others) (all_prefix (λ y. is_proper_prefix directory y.0 ≡ true) (take count others) (drop count others) all) parts.0)
    (at_or_below directory name false (drop count others) (all_back (λ y. is_proper_prefix directory y.0 ≡ true) (take count others) (drop count others) all) parts.1)
    next named (entry ∙ (λ i. (here.0 i, e.1))) in_ left)
  where
    here : (e.0 ≡ directory ++ name ∷ []) × (rest ≡ (directory ++ name ∷ [], e.1) ∷ drop 1 rest)
    here = first_at es tree directory rest e names name some first row is at

    own_row : IsRow es directory ((directory ++ name ∷ [], e.1) ∷ others)
    own_row = subst (IsRow es directory) (here.1 ∙ ap (λ fs. (directory ++ name ∷ [], e.1) ∷ fs) (sym are)) row

    sorted : (below_all path_cmp (directory ++ name ∷ []) others ≡ true) × (is_sorted path_cmp others ≡ true)
    sorted = and_parts (below_all path_cmp (directory ++ name ∷ []) others) (is_sorted path_cmp others) own_row.sorted

    parts : AllByRecursion (λ y. has_name (length directory) name y ≡ true) (take count others) × AllByRecursion (λ y. has_name (length directory) name y ≡ false) (drop count others)
    parts = point_parts (has_name (length directory) name) others count within (point (named_first directory name others sorted.1 own_row.below.1 (all_past (directory ++ name ∷ []) others sorted.0)))

    all : AllByRecursion (λ y. is_proper_prefix directory y.0 ≡ true) (take count others ++ drop count others)
    all = subst (AllByRecursion (λ y. is_proper_prefix directory y.0 ≡ true)) (sym (take-append-drop count others)) own_row.below.1

-- all entries but the first
pub others_are : {X : Type 0} (xs : List X) → take (length xs - 1) (drop 1 xs) ≡ drop 1 xs
others_are [] = refl
others_are (x ∷ xs) = let count : length (x ∷ xs) - 1 ≡ length xs = omega arith in ap (λ n. take n xs) count ∙ take-length xs
