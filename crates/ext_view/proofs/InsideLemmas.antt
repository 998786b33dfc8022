-- What stands at and below some names directly below the root.
use Rattle.std.proofs.Common.{◌≡◌, ℕ, ◌≤◌, Bool, true, false, cond, not, List, [], ◌∷◌, ◌++◌, length, map, take, get_or, None, is_some, refl, sym, ap, ◌∙◌, arith, ◌+◌, ◌<◌}
use Rattle.std.proofs.lemmas.Bool.{and_parts, false≢true}
use Rattle.std.proofs.lemmas.Float.{T_from_true}
use Rattle.std.proofs.lemmas.List.{map-append, take_more}
use Rattle.std.proofs.lemmas.List.Elements.{filter-append}
use Rattle.std.specs.List.{AllByRecursion, filter}
use Rattle.std.specs.Ordering.{eq_by_cmp}
use Rattle.std.specs.FinMap.{is_sorted}
use Rattle.std.specs.FinMap.Entries.{is_sorted-where_key}
use Rattle.ext_lines.specs.ByteOrder.{bytes_cmp}
use Rattle.ext_text.specs.Order.{paths_total}
use Rattle.ext_text.specs.Path.{is_prefix, parent, path_cmp}
use Rattle.ext_text.proofs.ForCallers.{parent_prefix, same_name, true_from_T}
use Rattle.ext_tree.specs.Tree.{Entries, IsTree, IsTreeWithin, is_directory_at, is_directory_or_root, lookup}
use Rattle.ext_tree.specs.declared.entry.Entry.{Entry}
use Rattle.ext_tree.proofs.ForCallers.{each_found, lookup_where}
use Rattle.ext_host.specs.Host.{is_in}
use Rattle.ext_host.proofs.ForCallers.{in_first}
use Rattle.ext_view.specs.Inside.{inside, outside, seen_below}

-- the root is in no names
pub in_root : (names : List (List ℕ)) → is_in names [] ≡ false
in_root [] = refl
in_root (n ∷ names) = in_root names

-- a path below the root is in the same names as each of its prefixes that is below the root
pub in_prefix : (names : List (List ℕ)) (m : List ℕ) (q p : List (List ℕ)) → is_prefix (m ∷ q) p ≡ true → is_in names (m ∷ q) ≡ is_in names p
in_prefix names m q [] prefix = absurd (false≢true prefix)
in_prefix names m q (a ∷ p) prefix =
    in_first names m a q p (same_name m a (and_parts (eq_by_cmp bytes_cmp m a) (is_prefix q p) prefix).0)

module _ {C : Type 0} where
  pub lookup_inside : (names : List (List ℕ)) (p : List (List ℕ)) (es : Entries C) → lookup (inside names es) p ≡ cond (is_in names p) (lookup es p) None
  lookup_inside names p es = lookup_where (is_in names) p es

  pub lookup_outside : (names : List (List ℕ)) (p : List (List ℕ)) (es : Entries C) → lookup (outside names es) p ≡ cond (not (is_in names p)) (lookup es p) None
  lookup_outside names p es = lookup_where (λ q. not (is_in names q)) p es

  pub found_inside : (names : List (List ℕ)) (p : List (List ℕ)) (es : Entries C) → is_in names p ≡ true → lookup (inside names es) p ≡ lookup es p
  found_inside names p es in_ = lookup_inside names p es ∙ ap (λ b. cond b (lookup es p) None) in_

  pub none_inside : (names : List (List ℕ)) (p : List (List ℕ)) (es : Entries C) → is_in names p ≡ false → lookup (inside names es) p ≡ None
  none_inside names p es out = lookup_inside names p es ∙ ap (λ b. cond b (lookup es p) None) out

  -- what stands inside is in the names, and stands in the whole
  pub there_inside : (names : List (List ℕ)) (p : List (List ℕ)) (es : Entries C) → is_some (lookup (inside names es) p) ≡ true → (is_in names p ≡ true) × (is_some (lookup es p) ≡ true)
  there_inside names p es there =
      elim (is_in names p) as (λ b. is_some (cond b (lookup es p) None) ≡ true → (b ≡ true) × (is_some (lookup es p) ≡ true)) [
        | true ↦ λ some. (refl, some)
        | false ↦ λ none. absurd (false≢true none)
      ] (sym (ap is_some (lookup_inside names p es)) ∙ there)

  pub sorted_where : (f : List (List ℕ) → Bool) (es : Entries C) → is_sorted path_cmp es ≡ true → is_sorted path_cmp (filter (λ e. f e.0) es) ≡ true
  sorted_where f es sorted = true_from_T _ (is_sorted-where_key path_cmp f es (T_from_true _ sorted))

  pub sorted_inside : (names : List (List ℕ)) (es : Entries C) → is_sorted path_cmp es ≡ true → is_sorted path_cmp (inside names es) ≡ true
  sorted_inside names es sorted = sorted_where (is_in names) es sorted

  -- a directory of the whole in the same names as a path that is in the names
  directory_inside : (names : List (List ℕ)) (p q : List (List ℕ)) (es : Entries C) → is_prefix q p ≡ true → is_in names p ≡ true → is_directory_or_root es q ≡ true → is_directory_or_root (inside names es) q ≡ true
  directory_inside names p [] es prefix in_ directory = refl
  directory_inside names p (m ∷ q) es prefix in_ directory = ap is_directory_at (found_inside names (m ∷ q) es (in_prefix names m q p prefix ∙ in_)) ∙ directory

  pub tree_inside : (names : List (List ℕ)) (es : Entries C) → IsTree es → IsTree (inside names es)
  tree_inside names es tree = record {
    sorted = sorted_inside names es tree.sorted;
    root = none_inside names [] es (in_root names);
    paths = λ p there. tree.paths p (there_inside names p es there).1;
    parents = λ p there. let t = there_inside names p es there in directory_inside names p (parent p) es (parent_prefix p) t.0 (tree.parents p t.1);
  }

  length-where : (f : List (List ℕ) → Bool) (es : Entries C) → length (filter (λ e. f e.0) es) ≤ length es
  length-where f [] = omega arith
  length-where f (e ∷ es) =
      let rest : length (filter (λ e. f e.0) es) ≤ length es = length-where f es in
      elim (f e.0) as (λ b. length (cond b (e ∷ filter (λ e. f e.0) es) (filter (λ e. f e.0) es)) ≤ length (e ∷ es)) [ true ↦ omega arith | false ↦ omega arith ]

  pub within_inside : (names : List (List ℕ)) (es : Entries C) → IsTreeWithin es → IsTreeWithin (inside names es)
  within_inside names es within = record {
    tree = tree_inside names es within.tree;
    count = (let shorter = length-where (is_in names) es in let few = within.count in omega arith);
  }

  -- every entry inside is in the names
  pub all_inside : (names : List (List ℕ)) (es : Entries C) → AllByRecursion (λ e. is_in names e.0 ≡ true) (inside names es)
  all_inside names es = each_found path_cmp paths_total (λ p. is_in names p ≡ true) (inside names es) (λ p there. (there_inside names p es there).0)

  -- with no names taken off an entry is the same
  pub seen_whole : (es : Entries C) → map (seen_below 0) es ≡ es
  seen_whole [] = refl
  seen_whole (e ∷ es) = ap (λ fs. e ∷ fs) (seen_whole es)

  -- one entry more
  pub outside_more : (names : List (List ℕ)) (es : Entries C) (i : ℕ) (e : List (List ℕ) × Entry C) (done new : Entries C) → i < length es → e ≡ get_or es i e → done ≡ outside names (take i es) → new ≡ done ++ outside names (e ∷ []) → new ≡ outside names (take (i + 1) es)
  outside_more names es i e done new within is so_far adds =
      let more : take (i + 1) es ≡ take i es ++ e ∷ [] = take_more es i e within ∙ ap (λ x. take i es ++ x ∷ []) (sym is) in
      adds ∙ ap (λ d. d ++ outside names (e ∷ [])) so_far
      ∙ sym (ap (outside names) more ∙ filter-append (λ f. not (is_in names f.0)) (take i es) (e ∷ []))

  -- one entry more
  pub inside_more : (names : List (List ℕ)) (depth : ℕ) (es : Entries C) (i : ℕ) (e : List (List ℕ) × Entry C) (done new : Entries C) → i < length es → e ≡ get_or es i e → done ≡ inside names (map (seen_below depth) (take i es)) → new ≡ done ++ inside names (map (seen_below depth) (e ∷ [])) → new ≡ inside names (map (seen_below depth) (take (i + 1) es))
  inside_more names depth es i e done new within is so_far adds =
      let more : take (i + 1) es ≡ take i es ++ e ∷ [] = take_more es i e within ∙ ap (λ x. take i es ++ x ∷ []) (sym is) in
      adds ∙ ap (λ d. d ++ inside names (map (seen_below depth) (e ∷ []))) so_far
      ∙ sym (ap (λ fs. inside names (map (seen_below depth) fs)) more
      ∙ ap (inside names) (map-append (seen_below depth) (take i es) (e ∷ []))
      ∙ filter-append (λ f. is_in names f.0) (map (seen_below depth) (take i es)) (map (seen_below depth) (e ∷ [])))
