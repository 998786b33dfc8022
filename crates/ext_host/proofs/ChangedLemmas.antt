-- A tree each of whose entries is changed into one that is a directory where it was one: it is a tree, and a look-up gives
-- the changed entry. This belongs to the crate of trees.
use Rattle.std.proofs.Common.{◌≡◌, ℕ, ◌≤◌, true, false, cond, ◌&&◌, List, [], ◌∷◌, map, Option, Some, None, is_some, refl, sym, ap, ◌∙◌, subst}
use Rattle.std.proofs.lemmas.List.{length-map}
use Rattle.std.proofs.lemmas.Bool.{false≢true}
use Rattle.std.specs.Option.{option_map}
use Rattle.std.specs.Ordering.{is_lt, eq_by_cmp}
use Rattle.std.specs.FinMap.{is_sorted}
use Rattle.std.specs.FinMap.Entries.{below_all}
use Rattle.ext_text.specs.Path.{path_cmp, parent}
use Rattle.ext_text.proofs.ForCallers.{same_path}
use Rattle.ext_tree.specs.Tree.{Entries, IsTree, IsTreeWithin, is_directory, is_directory_at, is_directory_or_root, lookup, most_entries}
use Rattle.ext_tree.specs.declared.entry.Entry.{Entry}

module _ {C D : Type 0} (change : List (List ℕ) → Entry C → Entry D) where
  -- each entry as it is changed at its path
  abbrev pub changed : Entries C → Entries D
  changed es = map (λ e. (e.0, change e.0 e.1)) es

  below_changed : (p : List (List ℕ)) (es : Entries C) → below_all path_cmp p (changed es) ≡ below_all path_cmp p es
  below_changed p [] = refl
  below_changed p (e ∷ es) = ap (λ b. is_lt (path_cmp p e.0) && b) (below_changed p es)

  sorted_changed : (es : Entries C) → is_sorted path_cmp (changed es) ≡ is_sorted path_cmp es
  sorted_changed [] = refl
  sorted_changed (e ∷ es) = λ i. below_changed e.0 es i && sorted_changed es i

  -- what is looked up among changed entries is what was there, changed
  pub lookup_changed : (p : List (List ℕ)) (es : Entries C) → lookup (changed es) p ≡ option_map (change p) (lookup es p)
  lookup_changed p [] = refl
  lookup_changed p (e ∷ es) =
      elim (eq_by_cmp path_cmp p e.0) as (λ b. eq_by_cmp path_cmp p e.0 ≡ b → cond b (Some (change e.0 e.1)) (lookup (changed es) p) ≡ option_map (change p) (cond b (Some e.1) (lookup es p))) [
        | true ↦ λ tied. ap (λ q. Some (change q e.1)) (sym (same_path p e.0 tied))
        | false ↦ λ _. lookup_changed p es
      ] refl

  some_mapped : (p : List (List ℕ)) (found : Option (Entry C)) → is_some (option_map (change p) found) ≡ is_some found
  some_mapped p None = refl
  some_mapped p (Some e) = refl

  none_mapped : (p : List (List ℕ)) (found : Option (Entry C)) → option_map (change p) found ≡ None → found ≡ None
  none_mapped p None h = refl
  none_mapped p (Some e) h = absurd (false≢true (sym (ap is_some h)))

  module _ (keeps : (p : List (List ℕ)) (e : Entry C) → is_directory (change p e) ≡ is_directory e) where
    directory_mapped : (p : List (List ℕ)) (found : Option (Entry C)) → is_directory_at (option_map (change p) found) ≡ is_directory_at found
    directory_mapped p None = refl
    directory_mapped p (Some e) = keeps p e

    directory_changed : (p : List (List ℕ)) (es : Entries C) → is_directory_or_root (changed es) p ≡ is_directory_or_root es p
    directory_changed [] es = refl
    directory_changed (n ∷ p) es = ap is_directory_at (lookup_changed (n ∷ p) es) ∙ directory_mapped (n ∷ p) (lookup es (n ∷ p))

    -- changed entries are a tree
    pub tree_changed : (es : Entries C) → IsTree es → IsTree (changed es)
    tree_changed es tree =
        let there : (p : List (List ℕ)) → is_some (lookup (changed es) p) ≡ true → is_some (lookup es p) ≡ true = λ p h. sym (some_mapped p (lookup es p)) ∙ sym (ap is_some (lookup_changed p es)) ∙ h in
        record {
          sorted = sorted_changed es ∙ tree.sorted;
          root = lookup_changed [] es ∙ ap (option_map (change [])) tree.root;
          paths = λ p h. tree.paths p (there p h);
          parents = λ p h. directory_changed (parent p) es ∙ tree.parents p (there p h);
        }

    -- within the limits, too
    pub tree_changed_within : (es : Entries C) → IsTreeWithin es → IsTreeWithin (changed es)
    tree_changed_within es within = record {
      tree = tree_changed es within.tree;
      count = subst (λ n. n ≤ most_entries) (sym (length-map es (λ e. (e.0, change e.0 e.1)))) within.count;
    }

    -- and what is changed into a tree is a tree
    pub tree_before : (es : Entries C) → IsTree (changed es) → IsTree es
    tree_before es tree =
        let there : (p : List (List ℕ)) → is_some (lookup es p) ≡ true → is_some (lookup (changed es) p) ≡ true = λ p h. ap is_some (lookup_changed p es) ∙ some_mapped p (lookup es p) ∙ h in
        record {
          sorted = sym (sorted_changed es) ∙ tree.sorted;
          root = none_mapped [] (lookup es []) (sym (lookup_changed [] es) ∙ tree.root);
          paths = λ p h. tree.paths p (there p h);
          parents = λ p h. sym (directory_changed (parent p) es) ∙ tree.parents p (there p h);
        }

    -- so are the entries that were changed
    pub tree_before_within : (es : Entries C) → IsTreeWithin (changed es) → IsTreeWithin es
    tree_before_within es within = record {
      tree = tree_before es within.tree;
      count = subst (λ n. n ≤ most_entries) (length-map es (λ e. (e.0, change e.0 e.1))) within.count;
    }
