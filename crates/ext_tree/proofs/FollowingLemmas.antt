-- Which path may follow the last entry of a tree.
use Rattle.std.proofs.Common.{◌≡◌, ◌≢◌, ℕ, suc, ◌+◌, ◌-◌, ◌<◌, ◌≤◌, Bool, true, false, cond, ◌||◌, List, [], ◌∷◌, ◌++◌, length, take, Option, Some, None, is_some, refl, sym, ap, ◌∙◌, subst, arith, get_or, take_all}
use Rattle.std.specs.Prelude.{nat_lt, nat_eq, ◌⊎◌, ◌↔◌, IsTrue}
use Rattle.std.proofs.Math.Seq.{take-suc}
use mathlib.Core.Logic.{inl, inr}
use Rattle.std.proofs.lemmas.Bool.{false≢true, true≢false, and_parts, and_from, or_cases, cases_lt, lt-ltb, ltb-true, eqb-true, eq-eqb}
use Rattle.std.proofs.lemmas.Float.{T_from_true}
use Rattle.std.specs.declared.cmp.Ordering.{Ordering}
use Rattle.std.specs.declared.cmp.Ordering.TheVariants.{Less}
use Rattle.std.specs.Ordering.{is_lt, is_gt, is_eq, ordering_reverse, eq_by_cmp}
use Rattle.std.specs.Cmp.{tied_itself}
use Rattle.std.specs.List.{AllByRecursion}
use Rattle.std.specs.FinMap.{find}
use Rattle.std.specs.FinMap.Entries.{find-append}
use Rattle.ext_text.specs.Order.{paths_total}
use Rattle.ext_text.specs.Path.{IsPath, path_cmp, parent, is_prefix}
use Rattle.ext_text.proofs.ForCallers.{true_from_T, is_less, same_path, convex, prefix_whole, prefix_short, length-parent, parent_prefix, parent_less, parent_other}
use Rattle.ext_tree.specs.declared.entry.Entry.{Entry}
use Rattle.ext_tree.specs.Tree.{Entries, IsTree, lookup, is_directory, is_directory_at, is_directory_or_root}
use Rattle.ext_tree.specs.Following.{stands_after}
use Rattle.ext_tree.proofs.OrderLemmas.{find-join, sorted_prefix, prefix_below, sorted_push, all_below, find_above, found_below}
use Rattle.ext_tree.proofs.PrefixLemmas.{root_none, some_dir, directory_dir, dir_directory, directory_some, prefixes}

at_end : {C : Type 0} (es : Entries C) (p : List (List ℕ)) (e : Entry C) → find path_cmp p es ≡ None → (q : List (List ℕ)) → lookup (es ++ (p, e) ∷ []) q ≡ cond (eq_by_cmp path_cmp q p) (Some e) (lookup es q)
at_end es p e none q = find-append path_cmp paths_total es p e q none

-- what stands at another path stands there as before
at_other : {C : Type 0} (es : Entries C) (p : List (List ℕ)) (e : Entry C) → find path_cmp p es ≡ None → (q : List (List ℕ)) → (q ≢ p) → lookup (es ++ (p, e) ∷ []) q ≡ lookup es q
at_other es p e none q other =
    elim (eq_by_cmp path_cmp q p) as (λ b. eq_by_cmp path_cmp q p ≡ b → lookup (es ++ (p, e) ∷ []) q ≡ lookup es q) [
      | true ↦ λ tied. absurd (other (same_path q p tied))
      | false ↦ λ apart. at_end es p e none q ∙ ap (λ b. cond b (Some e) (lookup es q)) apart
    ] refl

-- the paths that are found: the new one, and those that were found before
found_end : {C : Type 0} (es : Entries C) (p : List (List ℕ)) (e : Entry C) → find path_cmp p es ≡ None → (q : List (List ℕ)) → is_some (lookup (es ++ (p, e) ∷ []) q) ≡ true → (q ≡ p) ⊎ (is_some (lookup es q) ≡ true)
found_end es p e none q found =
    elim (eq_by_cmp path_cmp q p) as (λ b. eq_by_cmp path_cmp q p ≡ b → (q ≡ p) ⊎ (is_some (lookup es q) ≡ true)) [
      | true ↦ λ tied. inl (same_path q p tied)
      | false ↦ λ apart. inr (sym (ap is_some (at_end es p e none q ∙ ap (λ b. cond b (Some e) (lookup es q)) apart)) ∙ found)
    ] refl

none_other : {C : Type 0} (es : Entries C) (p : List (List ℕ)) → find path_cmp p es ≡ None → (q : List (List ℕ)) → is_some (lookup es q) ≡ true → q ≢ p
none_other es p none q found same = false≢true (sym (ap is_some (ap (lookup es) same ∙ none)) ∙ found)

directory_grown : {C : Type 0} (es : Entries C) (p : List (List ℕ)) (e : Entry C) → find path_cmp p es ≡ None → (q : List (List ℕ)) → is_directory_or_root es q ≡ true → is_directory_or_root (es ++ (p, e) ∷ []) q ≡ true
directory_grown es p e none [] directory = refl
directory_grown es p e none (n ∷ q) directory = ap is_directory_at (at_other es p e none (n ∷ q) (none_other es p none (n ∷ q) (some_dir _ directory))) ∙ directory

-- a path of a tree's directory, or of the root, that comes after all others may be added at the end
pub push_tree : {C : Type 0} (es : Entries C) (p : List (List ℕ)) (e : Entry C) → IsTree es → AllByRecursion (λ x. path_cmp x.0 p ≡ Less) es → IsPath p → 0 < length p → is_directory_or_root es (parent p) ≡ true → IsTree (es ++ (p, e) ∷ [])
push_tree es p e tree below path some directory =
    let none : find path_cmp p es ≡ None = find_above path_cmp paths_total p es below in
    record {
      sorted = true_from_T _ (sorted_push path_cmp p e es (T_from_true _ tree.sorted) below);
      root = at_other es p e none [] (λ same. absurd (root_not p some same)) ∙ tree.root;
      paths = λ q found. elim (found_end es p e none q found) [
        | inl same ↦ subst IsPath (sym same) path
        | inr before ↦ tree.paths q before
      ];
      parents = λ q found. elim (found_end es p e none q found) [
        | inl same ↦ subst (λ x. is_directory_or_root (es ++ (p, e) ∷ []) (parent x) ≡ true) (sym same) (directory_grown es p e none (parent p) directory)
        | inr before ↦ directory_grown es p e none (parent q) (tree.parents q before)
      ];
    }
  where
    root_not : (q : List (List ℕ)) → 0 < length q → [] ≡ q → ⊥
    root_not [] some same = omega arith
    root_not (n ∷ q) some same = cc

prefix_keeps : {C : Type 0} (a b : Option (Entry C)) → is_some a ≡ true → cond (is_some a) a b ≡ a
prefix_keeps None b found = absurd (false≢true found)
prefix_keeps (Some e) b found = refl

prefix_lacks : {C : Type 0} (a b : Option (Entry C)) → cond (is_some a) a b ≡ None → a ≡ None
prefix_lacks None b none = refl
prefix_lacks (Some e) b none = none

prefix_dir : {C : Type 0} (a b : Option (Entry C)) → is_directory_at (cond (is_some a) a b) ≡ true → (is_directory_at a ≡ true) ⊎ (is_some b ≡ true)
prefix_dir None b dir = inr (some_dir b dir)
prefix_dir (Some e) b dir = inl dir

-- a directory in which an entry of the prefix stands is in the prefix
directory_prefix : {C : Type 0} (es : Entries C) (k : List (List ℕ)) (e : Entry C) (q : List (List ℕ)) → AllByRecursion (λ x. path_cmp x.0 k ≡ Less) es → is_some (lookup es q) ≡ true → 0 < length q → is_directory_or_root (es ++ (k, e) ∷ []) (parent q) ≡ true → is_directory_or_root es (parent q) ≡ true
directory_prefix es k e q below found some directory =
    let none : find path_cmp k es ≡ None = find_above path_cmp paths_total k es below in
    let other : parent q ≢ k = λ same. absurd (true≢false (
    ap is_lt (sym (parent_less q some)) ∙ ap (λ x. is_lt (path_cmp x q)) same
    ∙ ap is_lt (paths_total.antisymm k q) ∙ ap (λ r. is_lt (ordering_reverse r)) (found_below path_cmp paths_total q k es below found))) in
    at_directory (parent q) other none directory
  where
    at_directory : (r : List (List ℕ)) → (r ≢ k) → find path_cmp k es ≡ None → is_directory_or_root (es ++ (k, e) ∷ []) r ≡ true → is_directory_or_root es r ≡ true
    at_directory [] other none directory = refl
    at_directory (n ∷ r) other none directory = sym (ap is_directory_at (at_other es k e none (n ∷ r) other)) ∙ directory

-- without its last entry a tree is a tree
pub pop_tree : {C : Type 0} (es : Entries C) (k : List (List ℕ)) (e : Entry C) → IsTree (es ++ (k, e) ∷ []) → IsTree es
pop_tree es k e tree =
    let below = prefix_below path_cmp es [] k e (T_from_true _ tree.sorted) in
    let none : find path_cmp k es ≡ None = find_above path_cmp paths_total k es below in
    let still : (q : List (List ℕ)) → is_some (lookup es q) ≡ true → is_some (lookup (es ++ (k, e) ∷ []) q) ≡ true =
    λ q found. ap is_some (at_other es k e none q (none_other es k none q found)) ∙ found in
    record {
      sorted = true_from_T _ (sorted_prefix path_cmp es ((k, e) ∷ []) (T_from_true _ tree.sorted));
      root = prefix_lacks (lookup es []) (lookup ((k, e) ∷ []) []) (sym (find-join path_cmp [] es ((k, e) ∷ [])) ∙ tree.root);
      paths = λ q found. tree.paths q (still q found);
      parents = λ q found. directory_prefix es k e q below found (root_none (es ++ (k, e) ∷ []) tree q (still q found)) (tree.parents q (still q found));
    }

-- the last entry is found
pub last_found : {C : Type 0} (es : Entries C) (q : List (List ℕ)) (f : Entry C) → IsTree (es ++ (q, f) ∷ []) → lookup (es ++ (q, f) ∷ []) q ≡ Some f
last_found es q f tree =
    let none : find path_cmp q es ≡ None = find_above path_cmp paths_total q es (prefix_below path_cmp es [] q f (T_from_true _ tree.sorted)) in
    at_end es q f none q ∙ ap (λ r. cond (is_eq r) (Some f) (lookup es q)) (tied_itself paths_total q)

not_past : (r : Ordering) → r ≡ Less → is_gt r ≡ false
not_past r less = ap is_gt less

-- what is found is not past the last entry
found_last : {C : Type 0} (es : Entries C) (q : List (List ℕ)) (f : Entry C) → IsTree (es ++ (q, f) ∷ []) → (r : List (List ℕ)) → is_some (lookup (es ++ (q, f) ∷ []) r) ≡ true → is_gt (path_cmp r q) ≡ false
found_last es q f tree r found =
    let below = prefix_below path_cmp es [] q f (T_from_true _ tree.sorted) in
    elim (found_end es q f (find_above path_cmp paths_total q es below) r found) [
      | inl same ↦ ap (λ x. is_gt (path_cmp x q)) same ∙ ap is_gt (tied_itself paths_total q)
      | inr before ↦ not_past _ (found_below path_cmp paths_total r q es below before)
    ]

or_from : (a b : Bool) → (a ≡ true) ⊎ (b ≡ true) → (a || b) ≡ true
or_from true b either = refl
or_from false b either = elim either [ inl is ↦ absurd (false≢true is) | inr is ↦ is ]

-- what passes the test may follow the tree
pub follows_tree : {C : Type 0} (es : Entries C) (q : List (List ℕ)) (f : Entry C) (p : List (List ℕ)) (e : Entry C) → IsTree (es ++ (q, f) ∷ []) → IsPath p → stands_after (q, f) p ≡ true → IsTree ((es ++ (q, f) ∷ []) ++ (p, e) ∷ [])
follows_tree es q f p e tree path passed =
    let parts = and_parts (is_lt (path_cmp q p)) _ passed in
    let inner = and_parts (is_prefix (parent p) q) _ parts.1 in
    let less : path_cmp q p ≡ Less = is_less _ parts.0 in
    let there : is_some (lookup (es ++ (q, f) ∷ []) q) ≡ true = ap is_some (last_found es q f tree) in
    let long : 0 < length q = root_none (es ++ (q, f) ∷ []) tree q there in
    push_tree (es ++ (q, f) ∷ []) p e tree
    (all_below path_cmp paths_total p q f es (prefix_below path_cmp es [] q f (T_from_true _ tree.sorted)) less)
    path
    (past_some q p less)
    (elim (cases_lt (length (parent p)) (length q)) [
      | inl proper ↦ prefixes (es ++ (q, f) ∷ []) tree (parent p) q there inner.0 proper
      | inr not_less ↦
          let short : length (parent p) ≤ length q = prefix_short (parent p) q inner.0 in
          let same : parent p ≡ q = prefix_whole (parent p) q inner.0 (omega arith) in
          dir_directory (es ++ (q, f) ∷ []) (parent p) (ap (λ x. is_directory_at (lookup (es ++ (q, f) ∷ []) x)) same ∙ ap is_directory_at (last_found es q f tree)
          ∙ elim (or_cases (nat_lt (length (parent p)) (length q)) (is_directory f) inner.1) [
            | inl less_too ↦ absurd (absent (ltb-true (length (parent p)) (length q) less_too) not_less)
            | inr dir ↦ dir
          ])
    ])
  where
    absent : {a b : ℕ} → a < b → b ≤ a → ⊥
    absent less more = omega arith

    past_some : (a b : List (List ℕ)) → path_cmp a b ≡ Less → 0 < length b
    past_some [] [] less = absurd (false≢true (ap is_lt less))
    past_some (n ∷ a) [] less = absurd (false≢true (ap is_lt less))
    past_some a (m ∷ b) less = omega arith

-- and what follows a tree passes the test
pub tree_follows : {C : Type 0} (es : Entries C) (q : List (List ℕ)) (f : Entry C) (p : List (List ℕ)) (e : Entry C) → IsTree ((es ++ (q, f) ∷ []) ++ (p, e) ∷ []) → stands_after (q, f) p ≡ true
tree_follows es q f p e whole =
    let tree : IsTree (es ++ (q, f) ∷ []) = pop_tree (es ++ (q, f) ∷ []) p e whole in
    let below = prefix_below path_cmp (es ++ (q, f) ∷ []) [] p e (T_from_true _ whole.sorted) in
    let none : find path_cmp p (es ++ (q, f) ∷ []) ≡ None = find_above path_cmp paths_total p (es ++ (q, f) ∷ []) below in
    let found : is_some (lookup ((es ++ (q, f) ∷ []) ++ (p, e) ∷ []) p) ≡ true =
    ap is_some (last_found (es ++ (q, f) ∷ []) p e whole) in
    let some : 0 < length p = root_none ((es ++ (q, f) ∷ []) ++ (p, e) ∷ []) whole p found in
    let there : is_some (lookup (es ++ (q, f) ∷ []) q) ≡ true = ap is_some (last_found es q f tree) in
    let less : path_cmp q p ≡ Less = found_below path_cmp paths_total q p (es ++ (q, f) ∷ []) below there in
    let long : 0 < length q = root_none (es ++ (q, f) ∷ []) tree q there in
    let directory : is_directory_or_root (es ++ (q, f) ∷ []) (parent p) ≡ true = in_prefix (parent p) (parent_other p some) none (whole.parents p found) in
    let prefix : is_prefix (parent p) q ≡ true = elim (cases_lt 0 (length (parent p))) [
      | inl deep ↦ convex (parent p) q p
          (found_last es q f tree (parent p) (directory_some (es ++ (q, f) ∷ []) (parent p) deep directory))
          (ap is_gt less) (parent_prefix p)
      | inr shallow ↦ root_prefix (parent p) q shallow
    ] in
    and_from _ _ (ap is_lt less) (and_from _ _ prefix (or_from _ _ (
    elim (cases_lt (length (parent p)) (length q)) [
      | inl proper ↦ inl (lt-ltb (length (parent p)) (length q) proper)
      | inr not_less ↦
          let short : length (parent p) ≤ length q = prefix_short (parent p) q prefix in
          let same : parent p ≡ q = prefix_whole (parent p) q prefix (omega arith) in
          inr (sym (ap is_directory_at (last_found es q f tree)) ∙ directory_dir (es ++ (q, f) ∷ []) q long (subst (λ x. is_directory_or_root (es ++ (q, f) ∷ []) x ≡ true) same directory))
    ])))
  where
    root_prefix : (a b : List (List ℕ)) → length a ≤ 0 → is_prefix a b ≡ true
    root_prefix [] b short = refl
    root_prefix (n ∷ a) b short = absurd (omega arith)

    in_prefix : (r : List (List ℕ)) → (r ≢ p) → find path_cmp p (es ++ (q, f) ∷ []) ≡ None → is_directory_or_root ((es ++ (q, f) ∷ []) ++ (p, e) ∷ []) r ≡ true → is_directory_or_root (es ++ (q, f) ∷ []) r ≡ true
    in_prefix [] other none directory = refl
    in_prefix (n ∷ r) other none directory = sym (ap is_directory_at (at_other (es ++ (q, f) ∷ []) p e none (n ∷ r) other)) ∙ directory

only_prefix : (a : List (List ℕ)) → length a ≡ 1 → parent a ≡ []
only_prefix [] one = absurd (omega arith)
only_prefix (n ∷ a) one =
    let none : length (n ∷ a) - 1 ≡ 0 = omega arith in
    ap (λ k. take k (n ∷ a)) none

-- no entries are a tree
pub empty_tree : {C : Type 0} → IsTree {C = C} []
empty_tree = record { sorted = refl; root = refl; paths = λ p found. absurd (false≢true found); parents = λ p found. absurd (false≢true found) }

-- a path of one name may stand alone
pub first_tree : {C : Type 0} (p : List (List ℕ)) (e : Entry C) → IsPath p → length p ≡ 1 → IsTree ((p, e) ∷ [])
first_tree {C} p e path one = push_tree [] p e empty_tree tt path (omega arith) (ap (is_directory_or_root {C = C} []) (only_prefix p one))

-- and no other
pub tree_first : {C : Type 0} (p : List (List ℕ)) (e : Entry C) → IsTree ((p, e) ∷ []) → length p ≡ 1
tree_first p e tree =
    let found : is_some (lookup ((p, e) ∷ []) p) ≡ true = ap is_some (last_found [] p e tree) in
    let some : 0 < length p = root_none ((p, e) ∷ []) tree p found in
    let len : length (parent p) + 1 ≡ length p = length-parent p some in
    elim (cases_lt 0 (length (parent p))) [
      | inl deep ↦
          let there : is_some (lookup ((p, e) ∷ []) (parent p)) ≡ true = directory_some ((p, e) ∷ []) (parent p) deep (tree.parents p found) in
          absurd (alone there (ap is_eq (parent_less p some)))
      | inr shallow ↦ omega arith
    ]
  where
    alone : is_some (lookup ((p, e) ∷ []) (parent p)) ≡ true → eq_by_cmp path_cmp (parent p) p ≡ false → ⊥
    alone there apart = false≢true (sym (ap (λ b. is_some (cond b (Some e) None)) apart) ∙ there)

-- a list that is not empty ends with its last element
pub ends : {X : Type 0} (xs : List X) (d : X) → 0 < length xs → d ≡ get_or xs (length xs - 1) d → xs ≡ take (length xs - 1) xs ++ d ∷ []
ends xs d some is =
    let within : length xs - 1 < length xs = omega arith in
    let whole : suc (length xs - 1) ≡ length xs = omega arith in
    sym (take_all (length xs) xs (omega arith)) ∙ ap (λ k. take k xs) (sym whole) ∙ take-suc xs (length xs - 1) d within
    ∙ ap (λ y. take (length xs - 1) xs ++ y ∷ []) (sym is)

-- a path of one name may follow no entry
pub may_first : {C : Type 0} (es : Entries C) (names p : List (List ℕ)) → length es < 1 → names ≡ p → IsPath p → (e : Entry C) → (IsTrue (nat_eq (length names) 1) ↔ IsTree (es ++ (p, e) ∷ []))
may_first [] names p none same path e = (
  (λ one. first_tree p e path (sym (ap length same) ∙ eqb-true (length names) 1 one)),
  (λ tree. eq-eqb (length names) 1 (ap length same ∙ tree_first p e tree)),
)
may_first (x ∷ es) names p none same path e = absurd (omega arith)

-- a path that stands after the last entry may follow
pub may_next : {C : Type 0} (es : Entries C) (last : List (List ℕ) × Entry C) (p : List (List ℕ)) (test : Bool) → 0 < length es → last ≡ get_or es (length es - 1) last → IsTree es → IsPath p → test ≡ stands_after last p → (e : Entry C) → (IsTrue test ↔ IsTree (es ++ (p, e) ∷ []))
may_next {C} es last p test some is tree path same e =
    let prefix : Entries C = take (length es - 1) es in
    let whole : es ≡ prefix ++ last ∷ [] = ends es last some is in (
      (λ passed. subst (λ xs. IsTree (xs ++ (p, e) ∷ [])) (sym whole) (follows_tree prefix last.0 last.1 p e (subst IsTree whole tree) path (sym same ∙ passed))),
      (λ longer. same ∙ tree_follows prefix last.0 last.1 p e (subst (λ xs. IsTree (xs ++ (p, e) ∷ [])) whole longer)),
    )
