-- Look-ups in entries that are seen without their first names.
use Rattle.std.proofs.Common.{◌≡◌, ℕ, suc, zero, ◌<◌, ◌≤◌, true, false, cond, List, [], ◌∷◌, length, drop, Option, Some, None, refl, sym, ap, ◌∙◌, subst, arith}
use Rattle.std.specs.Prelude.{IsTrue, slice_get}
use Rattle.std.specs.Borrow.{Bor}
use Rattle.std.specs.declared.cmp.Ordering.TheVariants.{Greater}
use Rattle.std.specs.Option.{option_map}
use Rattle.std.specs.List.Sorted.{IsPartitionedBy, IsPartitionPoint}
use Rattle.std.specs.Ordering.{eq_by_cmp}
use Rattle.std.specs.FinMap.{is_sorted}
use Rattle.std.specs.FinMap.Entries.{where_key}
use Rattle.std.proofs.lemmas.List.{get_or-map, length-map}
use Rattle.std.proofs.lemmas.Option.{slice_get-map}
use Rattle.ext_text.specs.Path.{path_cmp, is_proper_prefix}
use Rattle.ext_text.specs.Order.{paths_total}
use Rattle.ext_tree.specs.InsertionPoint.{is_past, insertion_point}
use Rattle.ext_tree.specs.Part.{part}
use Rattle.ext_tree.specs.Tree.{Entries, IsTree, lookup}
use Rattle.ext_tree.specs.declared.entry.Entry.{Entry}
use Rattle.ext_tree.proofs.ForCallers.{find_here, partitioned, tree_part}
use Rattle.ext_find.specs.Inside.{borrowed, seen, seen_entry}

-- what stands below a directory is seen from there in path order
pub part_sorted : {C : Type 0} (directory : List (List ℕ)) (es below : Entries C) → IsTree es → below ≡ where_key path_cmp (is_proper_prefix directory) es → IsTrue (is_sorted path_cmp (seen (length directory) below))
part_sorted directory es below tree is =
    subst (λ fs. is_sorted path_cmp (seen (length directory) fs) ≡ true) (sym is) (tree_part directory es tree).sorted

pub seen_part : {C : Type 0} (directory : List (List ℕ)) (es below : Entries C) → below ≡ where_key path_cmp (is_proper_prefix directory) es → seen (length directory) below ≡ part directory es
seen_part directory es below is = ap (seen (length directory)) is

-- names stand past the root
pub past_root : (names : List (Bor (List ℕ))) → 1 ≤ length names → Greater ≡ path_cmp (borrowed names) []
past_root [] some = absurd (omega arith)
past_root (n ∷ names) some = refl

-- what a look-up of a key finds at an entry
abbrev found : {C : Type 0} → List (List ℕ) → Option (List (List ℕ) × Entry C) → Option (Entry C)
found k None = None
found k (Some e) = cond (eq_by_cmp path_cmp k e.0) (Some e.1) None

module _ {C : Type 0} (depth : ℕ) (k : List (List ℕ)) where
  -- the insertion point is found once all before it is passed and nothing from it on is
  pub seen_point : (es : Entries C) (i : ℕ) → i ≤ length es → IsPartitionPoint (λ e. is_past path_cmp k (seen_entry depth e) ≡ true) (λ e. is_past path_cmp k (seen_entry depth e) ≡ false) es i → i ≡ insertion_point path_cmp k (seen depth es)
  seen_point [] i within at = omega arith
  seen_point (e ∷ es) zero within at = ap (λ b. cond b (suc (insertion_point path_cmp k (seen depth es))) 0) (sym (at.1 zero e (omega arith) (omega arith)))
  seen_point (e ∷ es) (suc i) within at =
      let rest = seen_point es i (omega arith) ((λ j d low high. at.0 (suc j) d (omega arith) (omega arith)), (λ j d low high. at.1 (suc j) d (omega arith) (omega arith))) in
      ap suc rest ∙ ap (λ b. cond b (suc (insertion_point path_cmp k (seen depth es))) 0) (sym (at.0 zero e (omega arith) (omega arith)))

  module _ (es : Entries C) (sorted : IsTrue (is_sorted path_cmp (seen depth es))) where
    pub seen_partitioned : IsPartitionedBy (λ e. is_past path_cmp k (seen_entry depth e)) es
    seen_partitioned i j d le lt past =
        let before : i < length es = omega arith in
        sym (ap (is_past path_cmp k) (get_or-map (seen_entry depth) es i d (seen_entry depth d) before))
        ∙ partitioned path_cmp paths_total k (seen depth es) sorted i j (seen_entry depth d) le (omega (arith, length-map es (seen_entry {C = C} depth)))
        (ap (is_past path_cmp k) (get_or-map (seen_entry depth) es j d (seen_entry depth d) lt) ∙ past)

    found_at : (i : ℕ) → i ≡ insertion_point path_cmp k (seen depth es) → lookup (seen depth es) k ≡ found k (option_map (seen_entry depth) (slice_get es i))
    found_at i is = find_here path_cmp paths_total k (seen depth es) sorted ∙ ap (λ n. found k (slice_get (seen depth es) n)) (sym is) ∙ ap (found k) (slice_get-map (seen_entry depth) es i)

    -- what a look-up gives, by what stands at the insertion point
    pub seen_hit : (i : ℕ) (e : List (List ℕ) × Entry C) → i ≡ insertion_point path_cmp k (seen depth es) → slice_get es i ≡ Some e → eq_by_cmp path_cmp k (drop depth e.0) ≡ true → Some e.1 ≡ lookup (seen depth es) k
    seen_hit i e is at same = sym (found_at i is ∙ ap (λ o. found k (option_map (seen_entry depth) o)) at ∙ ap (λ b. cond b (Some e.1) None) same)

    pub seen_missed : (i : ℕ) (e : List (List ℕ) × Entry C) → i ≡ insertion_point path_cmp k (seen depth es) → slice_get es i ≡ Some e → eq_by_cmp path_cmp k (drop depth e.0) ≡ false → None ≡ lookup (seen depth es) k
    seen_missed i e is at other = sym (found_at i is ∙ ap (λ o. found k (option_map (seen_entry depth) o)) at ∙ ap (λ b. cond b (Some e.1) None) other)

    pub seen_past : (i : ℕ) → i ≡ insertion_point path_cmp k (seen depth es) → slice_get es i ≡ None → None ≡ lookup (seen depth es) k
    seen_past i is at = sym (found_at i is ∙ ap (λ o. found k (option_map (seen_entry depth) o)) at)
