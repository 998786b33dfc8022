-- What stands at and below some names directly below the root, and entries put there in a tree.
use Rattle.std.proofs.Common.{◌≡◌, ℕ, ◌≤◌, Bool, true, false, cond, not, List, [], ◌∷◌, length, Option, Some, None, is_some, refl, sym, ap, ◌∙◌, subst, arith}
use Rattle.std.proofs.lemmas.Bool.{and_parts, false≢true, true≢false}
use Rattle.std.proofs.lemmas.Float.{T_from_true}
use Rattle.std.specs.List.{AllByRecursion, filter}
use Rattle.std.specs.Ordering.{eq_by_cmp}
use Rattle.std.specs.FinMap.{is_sorted}
use Rattle.std.specs.FinMap.Entries.{is_sorted-where_key}
use Rattle.ext_lines.specs.ByteOrder.{bytes_cmp}
use Rattle.ext_text.specs.Order.{paths_exact, paths_total}
use Rattle.ext_text.specs.Path.{IsPath, is_prefix, parent, path_cmp}
use Rattle.ext_text.proofs.ForCallers.{is_equal, parent_prefix, same_name, true_from_T}
use Rattle.ext_tree.specs.Joining.{put_all}
use Rattle.ext_tree.specs.Tree.{Entries, IsTree, IsTreeWithin, is_directory_at, is_directory_or_root, lookup}
use Rattle.ext_tree.specs.declared.entry.Entry.{Entry}
use Rattle.ext_tree.proofs.ForCallers.{each_found, first_found, lookup_put_all, lookup_where}
use Rattle.ext_host.specs.Host.{is_in}
use Rattle.ext_host.proofs.ForCallers.{in_first}
use Rattle.ext_portext.specs.UnitTree.{inside_tree, outside_tree}

-- the root is in no names
pub in_root : (names : List (List ℕ)) → is_in names [] ≡ false
in_root [] = refl
in_root (n ∷ names) = in_root names

-- a path below the root is in the same names as each of its prefixes that is below the root
pub in_prefix : (names : List (List ℕ)) (m : List ℕ) (q p : List (List ℕ)) → is_prefix (m ∷ q) p ≡ true → is_in names (m ∷ q) ≡ is_in names p
in_prefix names m q [] prefix = absurd (false≢true prefix)
in_prefix names m q (a ∷ p) prefix =
    in_first names m a q p (same_name m a (and_parts (eq_by_cmp bytes_cmp m a) (is_prefix q p) prefix).0)

module _ {C : Type 0} where
  pub lookup_inside : (names : List (List ℕ)) (p : List (List ℕ)) (es : Entries C) → lookup (inside_tree names es) p ≡ cond (is_in names p) (lookup es p) None
  lookup_inside names p es = lookup_where (is_in names) p es

  pub lookup_outside : (names : List (List ℕ)) (p : List (List ℕ)) (es : Entries C) → lookup (outside_tree names es) p ≡ cond (not (is_in names p)) (lookup es p) None
  lookup_outside names p es = lookup_where (λ q. not (is_in names q)) p es

  pub found_inside : (names : List (List ℕ)) (p : List (List ℕ)) (es : Entries C) → is_in names p ≡ true → lookup (inside_tree names es) p ≡ lookup es p
  found_inside names p es in_ = lookup_inside names p es ∙ ap (λ b. cond b (lookup es p) None) in_

  pub none_inside : (names : List (List ℕ)) (p : List (List ℕ)) (es : Entries C) → is_in names p ≡ false → lookup (inside_tree names es) p ≡ None
  none_inside names p es out = lookup_inside names p es ∙ ap (λ b. cond b (lookup es p) None) out

  -- what stands inside is in the names, and stands in the whole
  pub there_inside : (names : List (List ℕ)) (p : List (List ℕ)) (es : Entries C) → is_some (lookup (inside_tree names es) p) ≡ true → (is_in names p ≡ true) × (is_some (lookup es p) ≡ true)
  there_inside names p es there =
      elim (is_in names p) as (λ b. is_some (cond b (lookup es p) None) ≡ true → (b ≡ true) × (is_some (lookup es p) ≡ true)) [
        | true ↦ λ some. (refl, some)
        | false ↦ λ none. absurd (false≢true none)
      ] (sym (ap is_some (lookup_inside names p es)) ∙ there)

  pub sorted_where : (f : List (List ℕ) → Bool) (es : Entries C) → is_sorted path_cmp es ≡ true → is_sorted path_cmp (filter (λ e. f e.0) es) ≡ true
  sorted_where f es sorted = true_from_T _ (is_sorted-where_key path_cmp f es (T_from_true _ sorted))

  pub sorted_inside : (names : List (List ℕ)) (es : Entries C) → is_sorted path_cmp es ≡ true → is_sorted path_cmp (inside_tree names es) ≡ true
  sorted_inside names es sorted = sorted_where (is_in names) es sorted

  -- a directory of the whole in the same names as a path that is in the names
  directory_inside : (names : List (List ℕ)) (p q : List (List ℕ)) (es : Entries C) → is_prefix q p ≡ true → is_in names p ≡ true → is_directory_or_root es q ≡ true → is_directory_or_root (inside_tree names es) q ≡ true
  directory_inside names p [] es prefix in_ directory = refl
  directory_inside names p (m ∷ q) es prefix in_ directory = ap is_directory_at (found_inside names (m ∷ q) es (in_prefix names m q p prefix ∙ in_)) ∙ directory

  pub tree_inside : (names : List (List ℕ)) (es : Entries C) → IsTree es → IsTree (inside_tree names es)
  tree_inside names es tree = record {
    sorted = sorted_inside names es tree.sorted;
    root = none_inside names [] es (in_root names);
    paths = λ p there. tree.paths p (there_inside names p es there).1;
    parents = λ p there. let t = there_inside names p es there in directory_inside names p (parent p) es (parent_prefix p) t.0 (tree.parents p t.1);
  }

  length-where : (f : List (List ℕ) → Bool) (es : Entries C) → length (filter (λ e. f e.0) es) ≤ length es
  length-where f [] = omega arith
  length-where f (e ∷ es) =
      let rest : length (filter (λ e. f e.0) es) ≤ length es = length-where f es in
      elim (f e.0) as (λ b. length (cond b (e ∷ filter (λ e. f e.0) es) (filter (λ e. f e.0) es)) ≤ length (e ∷ es)) [ true ↦ omega arith | false ↦ omega arith ]

  pub within_inside : (names : List (List ℕ)) (es : Entries C) → IsTreeWithin es → IsTreeWithin (inside_tree names es)
  within_inside names es within = record {
    tree = tree_inside names es within.tree;
    count = (let shorter = length-where (is_in names) es in let few = within.count in omega arith);
  }

  -- every entry inside is in the names
  pub all_inside : (names : List (List ℕ)) (es : Entries C) → AllByRecursion (λ e. is_in names e.0 ≡ true) (inside_tree names es)
  all_inside names es = each_found path_cmp paths_total (λ p. is_in names p ≡ true) (inside_tree names es) (λ p there. (there_inside names p es there).0)

nothing_else : {X : Type 0} (o : Option X) → first_found o None ≡ o
nothing_else None = refl
nothing_else (Some x) = refl

module _ {C : Type 0} where
  -- no entry is found outside the names where each is in them
  pub none_outside : (names : List (List ℕ)) (es : Entries C) (p : List (List ℕ)) → AllByRecursion (λ e. is_in names e.0 ≡ true) es → is_in names p ≡ false → lookup es p ≡ None
  none_outside names [] p all out = refl
  none_outside names (e ∷ es) p all out =
      elim (eq_by_cmp path_cmp p e.0) as (λ b. eq_by_cmp path_cmp p e.0 ≡ b → cond b (Some e.1) (lookup es p) ≡ None) [
        | true ↦ λ tied. absurd (true≢false (sym all.0 ∙ ap (is_in names) (sym (paths_exact p e.0 (is_equal _ tied))) ∙ out))
        | false ↦ λ _. none_outside names es p all.1 out
      ] refl

  -- what stands at a path of the names is new, and elsewhere what stood there
  pub lookup_replaced : (names : List (List ℕ)) (es new : Entries C) (p : List (List ℕ)) → AllByRecursion (λ e. is_in names e.0 ≡ true) new → lookup (put_all (outside_tree names es) new) p ≡ cond (is_in names p) (lookup new p) (lookup es p)
  lookup_replaced names es new p all =
      lookup_put_all (outside_tree names es) new p ∙ ap (λ o. first_found o (lookup new p)) (lookup_outside names p es)
      ∙ elim (is_in names p) as (λ b. is_in names p ≡ b → first_found (cond (not b) (lookup es p) None) (lookup new p) ≡ cond b (lookup new p) (lookup es p)) [
        | true ↦ λ _. refl
        | false ↦ λ out. ap (first_found (lookup es p)) (none_outside names new p all out) ∙ nothing_else (lookup es p)
      ] refl

  module _ (names : List (List ℕ)) (es new all : Entries C) (says : (p : List (List ℕ)) → lookup all p ≡ cond (is_in names p) (lookup new p) (lookup es p)) where
    -- a fact of what is found follows from that fact in both
    each_way : (P : Option (Entry C) → Type 0) (p : List (List ℕ)) → (is_in names p ≡ true → P (lookup new p)) → (is_in names p ≡ false → P (lookup es p)) → P (lookup all p)
    each_way P p there here =
        subst P (sym (says p)) (elim (is_in names p) as (λ b. is_in names p ≡ b → P (cond b (lookup new p) (lookup es p))) [ true ↦ there | false ↦ here ] refl)

    directory_at : (p q : List (List ℕ)) → is_prefix q p ≡ true → (is_in names p ≡ true → is_directory_or_root new q ≡ true) → (is_in names p ≡ false → is_directory_or_root es q ≡ true) → is_directory_or_root all q ≡ true
    directory_at p [] prefix there here = refl
    directory_at p (m ∷ q) prefix there here =
        let same = in_prefix names m q p prefix in
        each_way (λ o. is_directory_at o ≡ true) (m ∷ q) (λ in_. there (sym same ∙ in_)) (λ out. here (sym same ∙ out))

    pub tree_replaced : IsTree es → IsTree new → is_sorted path_cmp all ≡ true → IsTree all
    tree_replaced old fresh sorted = record {
      sorted = sorted;
      root = says [] ∙ ap (λ b. cond b (lookup new []) (lookup es [])) (in_root names) ∙ old.root;
      paths = λ p. each_way (λ o. is_some o ≡ true → IsPath p) p (λ _. fresh.paths p) (λ _. old.paths p);
      parents = λ p. each_way (λ o. is_some o ≡ true → is_directory_or_root all (parent p) ≡ true) p
          (λ in_ found. directory_at p (parent p) (parent_prefix p) (λ _. fresh.parents p found) (λ out. absurd (true≢false (sym in_ ∙ out))))
          (λ out found. directory_at p (parent p) (parent_prefix p) (λ in_. absurd (true≢false (sym in_ ∙ out))) (λ _. old.parents p found));
    }

  -- what is outside stands at no path of what is inside
  pub apart_outside : (names : List (List ℕ)) (es new : Entries C) → AllByRecursion (λ e. is_in names e.0 ≡ true) new → AllByRecursion (λ u. lookup new u.0 ≡ None) (outside_tree names es)
  apart_outside names [] new all = tt
  apart_outside names (e ∷ es) new all =
      elim (is_in names e.0) as (λ b. is_in names e.0 ≡ b → AllByRecursion (λ u. lookup new u.0 ≡ None) (cond (not b) (e ∷ outside_tree names es) (outside_tree names es))) [
        | true ↦ λ _. apart_outside names es new all
        | false ↦ λ out. (none_outside names new e.0 all out, apart_outside names es new all)
      ] refl
