-- Two trees in one: how it is done in one pass, and that the whole is a tree.
use Rattle.std.proofs.Common.{◌≡◌, ℕ, zero, suc, ◌+◌, true, false, cond, not, List, [], ◌∷◌, ◌++◌, length, take, drop, Option, Some, None, is_some, refl, sym, ap, ◌∙◌, append_assoc, arith}
use Rattle.std.proofs.lemmas.Bool.{and_parts, false≢true, not-false, true≢false}
use Rattle.std.specs.List.{AllByRecursion, sum_by}
use Rattle.std.specs.Option.{option_or}
use Rattle.std.specs.Ordering.{eq_by_cmp, is_eq}
use Rattle.std.specs.Cmp.{tied_itself}
use Rattle.std.specs.FinMap.{is_sorted}
use Rattle.std.specs.FinMap.Entries.{below_all}
use Rattle.ext_text.specs.Order.{paths_total}
use Rattle.ext_text.specs.Path.{IsPath, parent, path_cmp}
use Rattle.ext_text.proofs.ForCallers.{all_weaker}
use Rattle.ext_tree.specs.Graft.{is_non_directory_at}
use Rattle.ext_tree.specs.Joining.{IsOpenTo, IsWith, count_before, lacking, put_all, with_others}
use Rattle.ext_tree.specs.Tree.{Entries, IsTree, is_directory, is_directory_at, is_directory_or_root, lookup}
use Rattle.ext_tree.specs.declared.entry.Entry.{Entry}
use Rattle.ext_tree.proofs.PutLemmas.{first_found, length-sum, lookup_put_all, put_all_next, sorted_drop, sorted_put_all, sum_by-put_all}
use Rattle.ext_tree.proofs.SlicesLemmas.{lookup_where, sorted_where}

module _ {C : Type 0} where
  -- one entry more

  -- what is not found is not found among the last ones
  none_dropped : (n : ℕ) (es : Entries C) (p : List (List ℕ)) → lookup es p ≡ None → lookup (drop n es) p ≡ None
  none_dropped zero es p none = none
  none_dropped (suc n) [] p none = refl
  none_dropped (suc n) (e ∷ es) p none =
      none_dropped n es p (elim (eq_by_cmp path_cmp p e.0) as (λ b. cond b (Some e.1) (lookup es p) ≡ None → lookup es p ≡ None) [
        | true ↦ λ some. absurd (true≢false (ap is_some some))
        | false ↦ λ rest. rest
      ] none)

  -- an entry and those of the others before it are laid, and what is left stays apart and in order
  pub lay_step : (e : List (List ℕ) × Entry C) (es pairs more others left total : Entries C)
      → is_sorted path_cmp (e ∷ es) ≡ true → is_sorted path_cmp others ≡ true → AllByRecursion (λ f. lookup others f.0 ≡ None) (e ∷ es)
      → pairs ++ put_all (e ∷ es) others ≡ total
      → more ≡ pairs ++ (take (count_before e.0 others) others ++ e ∷ []) → left ≡ drop (count_before e.0 others) others
      → (more ++ put_all es left ≡ total) × (is_sorted path_cmp es ≡ true) × (is_sorted path_cmp left ≡ true) × AllByRecursion (λ f. lookup left f.0 ≡ None) es
  lay_step e es pairs more others left total sorted others_sorted apart so_far laid leaves =
      let parts = and_parts (below_all path_cmp e.0 es) (is_sorted path_cmp es) sorted in
      let first = take (count_before e.0 others) others in
      let rest = drop (count_before e.0 others) others in (
        (λ i. laid i ++ put_all es (leaves i))
            ∙ append_assoc pairs (first ++ e ∷ []) (put_all es rest)
            ∙ ap (λ (fs : Entries C). pairs ++ fs) (append_assoc first (e ∷ []) (put_all es rest) ∙ sym (put_all_next e es others parts.0 others_sorted apart.0))
            ∙ so_far,
        parts.1,
        ap (λ (fs : Entries C). is_sorted path_cmp fs) leaves ∙ sorted_drop (count_before e.0 others) others others_sorted,
        all_weaker (λ (f : List (List ℕ) × Entry C). lookup others f.0 ≡ None) (λ f. lookup left f.0 ≡ None) (λ f none. ap (λ (fs : Entries C). lookup fs f.0) leaves ∙ none_dropped (count_before e.0 others) others f.0 none) es apart.1,
      )

  -- what others bring

  -- each entry is found
  pub each_is_found : (es : Entries C) → AllByRecursion (λ e. is_some (lookup es e.0) ≡ true) es
  each_is_found [] = tt
  each_is_found (e ∷ es) = (
    ap (λ o. is_some (cond (is_eq o) (Some e.1) (lookup es e.0))) (tied_itself paths_total e.0),
    all_weaker (λ (f : List (List ℕ) × Entry C). is_some (lookup es f.0) ≡ true) (λ f. is_some (lookup (e ∷ es) f.0) ≡ true) (λ f there. elim (eq_by_cmp path_cmp f.0 e.0) as (λ b. is_some (cond b (Some e.1) (lookup es f.0)) ≡ true) [ true ↦ refl | false ↦ there ]) es (each_is_found es),
  )

  -- what is lacking stands at none of the paths
  pub apart_lacking : (es new : Entries C) → AllByRecursion (λ e. lookup (lacking es new) e.0 ≡ None) es
  apart_lacking es new =
      all_weaker (λ (e : List (List ℕ) × Entry C). is_some (lookup es e.0) ≡ true) (λ e. lookup (lacking es new) e.0 ≡ None)
      (λ e there. lookup_where (λ q. not (is_some (lookup es q))) e.0 new ∙ ap (λ b. cond (not b) (lookup new e.0) None) there) es (each_is_found es)

  pub sorted_lacking : (es new : Entries C) → is_sorted path_cmp new ≡ true → is_sorted path_cmp (lacking es new) ≡ true
  sorted_lacking es new sorted = sorted_where (λ q. not (is_some (lookup es q))) new (lacking es new) sorted refl

  -- all entries, and those that are lacking
  pub length-with : (es new : Entries C) → is_sorted path_cmp es ≡ true → length (with_others es new) ≡ length es + length (lacking es new)
  length-with es new sorted =
      let sums : sum_by (λ _. 1) (with_others es new) ≡ sum_by (λ _. 1) es + sum_by (λ _. 1) (lacking es new) = sum_by-put_all (λ _. 1) es (lacking es new) sorted (apart_lacking es new) in
      let all : sum_by (λ _. 1) (with_others es new) ≡ length (with_others es new) = length-sum (with_others es new) in
      let old : sum_by (λ _. 1) es ≡ length es = length-sum es in
      let more : sum_by (λ _. 1) (lacking es new) ≡ length (lacking es new) = length-sum (lacking es new) in
      omega arith

  pub is_with : (es new : Entries C) → IsWith es new (with_others es new)
  is_with es new q =
      lookup_put_all es (lacking es new) q ∙ ap (first_found (lookup es q)) (lookup_where (λ p. not (is_some (lookup es p))) q new)
      ∙ elim (lookup es q) as (λ o. first_found o (cond (not (is_some o)) (lookup new q) None) ≡ option_or o (lookup new q)) [ None ↦ refl | Some e ↦ refl ]

  -- a tree

  module _ (es new all : Entries C) (is : IsWith es new all) where
    -- a fact of what stands there, or else of what is new there
    each_way : (P : Option (Entry C) → Type 0) (Q : Type 0) (q : List (List ℕ)) → (P (lookup es q) → Q) → (lookup es q ≡ None → P (lookup new q) → Q) → P (option_or (lookup es q) (lookup new q)) → Q
    each_way P Q q old fresh =
        elim (lookup es q) as (λ o. lookup es q ≡ o → (P o → Q) → P (option_or o (lookup new q)) → Q) [
          | None ↦ λ none _ there. fresh none there
          | Some e ↦ λ _ here there. here there
        ] refl old

    old_directory : (q : List (List ℕ)) → is_directory_or_root es q ≡ true → is_directory_or_root all q ≡ true
    old_directory [] directory = refl
    old_directory (n ∷ q) directory =
        ap is_directory_at (is (n ∷ q))
        ∙ elim (lookup es (n ∷ q)) as (λ o. is_directory_at o ≡ true → is_directory_at (option_or o (lookup new (n ∷ q))) ≡ true) [
          | None ↦ λ no. absurd (false≢true no)
          | Some e ↦ λ yes. yes
        ] directory

    new_directory : IsOpenTo es new → (q : List (List ℕ)) → is_directory_or_root new q ≡ true → is_directory_or_root all q ≡ true
    new_directory opens [] directory = refl
    new_directory opens (n ∷ q) directory =
        ap is_directory_at (is (n ∷ q))
        ∙ elim (lookup es (n ∷ q)) as (λ o. is_non_directory_at o ≡ false → is_directory_at (option_or o (lookup new (n ∷ q))) ≡ true) [
          | None ↦ λ _. directory
          | Some e ↦ λ open_. not-false (is_directory e) open_
        ] (opens (n ∷ q) directory)

    pub tree_with : IsTree es → IsTree new → IsOpenTo es new → is_sorted path_cmp all ≡ true → IsTree all
    tree_with old fresh opens sorted = record {
      sorted = sorted;
      root = is [] ∙ (λ i. option_or (old.root i) (fresh.root i));
      paths = λ p there. each_way (λ o. is_some o ≡ true) (IsPath p) p (old.paths p) (λ _. fresh.paths p) (sym (ap is_some (is p)) ∙ there);
      parents = λ p there. each_way (λ o. is_some o ≡ true) (is_directory_or_root all (parent p) ≡ true) p
          (λ found. old_directory (parent p) (old.parents p found))
          (λ _ found. new_directory opens (parent p) (fresh.parents p found))
          (sym (ap is_some (is p)) ∙ there);
    }

  -- both trees in one are a tree
  pub tree_with_others : (es new : Entries C) → IsTree es → IsTree new → IsOpenTo es new → IsTree (with_others es new)
  tree_with_others es new old fresh opens =
      tree_with es new (with_others es new) (is_with es new) old fresh opens (sorted_put_all es (lacking es new) (sorted_lacking es new fresh.sorted))
