-- The unmerged host: what it has at each path, that it is valid, and where its files come from.
use Rattle.std.proofs.Common.{◌≡◌, ℕ, ◌+◌, ◌≤◌, true, false, cond, ◌||◌, List, [], length, Option, Some, None, is_some, refl, sym, ap, ◌∙◌, subst, arith}
use mathlib.Core.Logic.{inl, inr}
use Rattle.std.proofs.lemmas.Bool.{false≢true}
use Rattle.std.specs.List.{sum_by}
use Rattle.ext_attributes.specs.Attributes.{OfFile}
use Rattle.ext_text.specs.declared.extension.Extension.{Extension}
use Rattle.ext_tree.specs.Tree.{Entries, IsTree, IsTreeWithin, lookup}
use Rattle.ext_tree.specs.EntryLine.{IsWritable}
use Rattle.ext_tree.specs.declared.entry.Entry.{Entry}
use Rattle.ext_tree.specs.declared.entry.Entry.TheVariants.{File}
use Rattle.ext_tree.proofs.ForCallers.{empty_tree}
use Rattle.ext_tree.proofs.ForCallers.{length-sum, sorted_put_all}
use Rattle.ext_host.specs.Held.{HeldFile}
use Rattle.ext_host.specs.Host.{base_at, hierarchies_in, is_in, merged_hierarchies, merged_names, present, where_merged}
use Rattle.ext_host.specs.Planning.{IsPlannedHost}
use Rattle.ext_host.specs.Valid.{AreInRange, IsValidHost, all_bytes, bytes_of, held_form}
use Rattle.ext_host.specs.declared.host.Host.{Host}
use Rattle.ext_view.specs.Hierarchies.{hierarchies_at, is_merged}
use Rattle.ext_view.specs.Inside.{inside, outside}
use Rattle.ext_view.specs.Replaced.{replaced}
use Rattle.ext_view.specs.View.{IsUnmerged, with_view}
use Rattle.ext_view.proofs.CountLemmas.{all_replaced, all_within, sum_by-parts, sum_by-replaced}
use Rattle.ext_view.proofs.HostLemmas.{HasHeld, base_unmerged, drawn_with, in_other, merged_either, merged_with, out_own, root_with, valid_with}
use Rattle.ext_view.proofs.InsideLemmas.{all_inside, found_inside, sorted_inside, tree_inside}
use Rattle.ext_view.proofs.ReplacedLemmas.{lookup_replaced, tree_replaced}

-- where the class is merged, its hierarchies are
in_where : (merged : Option (List (List ℕ))) (names : List (List ℕ)) (p : List (List ℕ)) → is_some merged ≡ true → is_in (where_merged merged names) p ≡ is_in names p
in_where None names p some = absurd (false≢true some)
in_where (Some m) names p some = refl

module _ (class : Extension) (host : Host) where
  pub merged_in : (p : List (List ℕ)) → is_merged class host ≡ true → is_in (hierarchies_at class host) p ≡ true → is_in (merged_hierarchies (hierarchies_in host) (present host)) p ≡ true
  merged_in p merged in_ =
      merged_either class host p ∙ ap (λ b. b || in_other class host p) (in_where (merged_names class (present host)) (hierarchies_at class host) p merged ∙ in_)

  -- what is seen, and what lies under it
  abbrev pub unmerged_root : Entries HeldFile
  unmerged_root = replaced (hierarchies_at class host) host.root (inside (hierarchies_at class host) host.lower)

  abbrev pub unmerged_lower : Entries HeldFile
  unmerged_lower = replaced (hierarchies_at class host) host.lower []

  root_says : (p : List (List ℕ)) → lookup unmerged_root p ≡ cond (is_in (hierarchies_at class host) p) (lookup (inside (hierarchies_at class host) host.lower) p) (lookup host.root p)
  root_says p = lookup_replaced (hierarchies_at class host) host.root (inside (hierarchies_at class host) host.lower) p (all_inside (hierarchies_at class host) host.lower)

  lower_says : (p : List (List ℕ)) → lookup unmerged_lower p ≡ cond (is_in (hierarchies_at class host) p) None (lookup host.lower p)
  lower_says p = lookup_replaced (hierarchies_at class host) host.lower [] p tt

  at_root : (p : List (List ℕ)) → is_in (hierarchies_at class host) p ≡ true → lookup unmerged_root p ≡ lookup host.lower p
  at_root p in_ =
      root_says p ∙ ap (λ b. cond b (lookup (inside (hierarchies_at class host) host.lower) p) (lookup host.root p)) in_
      ∙ found_inside (hierarchies_at class host) p host.lower in_

  own_root : (p : List (List ℕ)) → is_in (hierarchies_at class host) p ≡ false → lookup unmerged_root p ≡ lookup host.root p
  own_root p out = root_says p ∙ ap (λ b. cond b (lookup (inside (hierarchies_at class host) host.lower) p) (lookup host.root p)) out

  gone_lower : (p : List (List ℕ)) → is_in (hierarchies_at class host) p ≡ true → lookup unmerged_lower p ≡ None
  gone_lower p in_ = lower_says p ∙ ap (λ b. cond b None (lookup host.lower p)) in_

  own_lower : (p : List (List ℕ)) → is_in (hierarchies_at class host) p ≡ false → lookup unmerged_lower p ≡ lookup host.lower p
  own_lower p out = lower_says p ∙ ap (λ b. cond b None (lookup host.lower p)) out

  module _ (root_tree : IsTree host.root) (lower_tree : IsTree host.lower) where
    pub tree_root : IsTree unmerged_root
    tree_root =
        tree_replaced (hierarchies_at class host) host.root (inside (hierarchies_at class host) host.lower) unmerged_root root_says root_tree (tree_inside (hierarchies_at class host) host.lower lower_tree)
        (sorted_put_all (outside (hierarchies_at class host) host.root) (inside (hierarchies_at class host) host.lower) (sorted_inside (hierarchies_at class host) host.lower lower_tree.sorted))

    pub tree_lower : IsTree unmerged_lower
    tree_lower =
        tree_replaced (hierarchies_at class host) host.lower [] unmerged_lower lower_says lower_tree empty_tree (sorted_put_all (outside (hierarchies_at class host) host.lower) [] refl)

    -- together they weigh no more than before
    no_more : (w : List (List ℕ) × Entry HeldFile → ℕ) → sum_by w unmerged_root + sum_by w unmerged_lower ≤ sum_by w host.root + sum_by w host.lower
    no_more w =
        let hs = hierarchies_at class host in
        let root : sum_by w unmerged_root ≡ sum_by w (outside hs host.root) + sum_by w (inside hs host.lower) = sum_by-replaced w hs host.root (inside hs host.lower) root_tree.sorted (all_inside hs host.lower) in
        let lower : sum_by w unmerged_lower ≡ sum_by w (outside hs host.lower) + 0 = sum_by-replaced w hs host.lower [] lower_tree.sorted tt in
        let root_parts : sum_by w (inside hs host.root) + sum_by w (outside hs host.root) ≡ sum_by w host.root = sum_by-parts w hs host.root in
        let lower_parts : sum_by w (inside hs host.lower) + sum_by w (outside hs host.lower) ≡ sum_by w host.lower = sum_by-parts w hs host.lower in
        omega arith

    no_more_entries : length unmerged_root + length unmerged_lower ≤ length host.root + length host.lower
    no_more_entries =
        let sums = no_more (λ _. 1) in
        omega (arith, sums, length-sum unmerged_root, length-sum unmerged_lower, length-sum host.root, length-sum host.lower)

    module _ (valid : IsValidHost host) (merged : is_merged class host ≡ true) where
      pub within_root : IsTreeWithin unmerged_root
      within_root = record { tree = tree_root; count = (let few = valid.present.limits.entries in let fewer = no_more_entries in omega arith) }

      pub within_lower : IsTreeWithin unmerged_lower
      within_lower = record { tree = tree_lower; count = (let few = valid.present.limits.entries in let fewer = no_more_entries in omega arith) }

      -- at the hierarchies the base is what lies under the view
      base_root : (p : List (List ℕ)) → is_in (hierarchies_at class host) p ≡ true → lookup unmerged_root p ≡ base_at (hierarchies_in host) (present host) p
      base_root p in_ =
          at_root p in_ ∙ ap (λ b. cond b (lookup host.lower p) (lookup host.root p)) (sym (merged_in p merged in_))

      pub is_unmerged : (next : Host) → next ≡ with_view class None unmerged_root unmerged_lower host → IsUnmerged host class next
      is_unmerged next same =
          let trees = root_with class host None unmerged_root unmerged_lower in
          let root : next.root ≡ unmerged_root = ap (λ (h : Host). h.root) same ∙ trees.0 in
          let lower : next.lower ≡ unmerged_lower = ap (λ (h : Host). h.lower) same ∙ trees.1 in
          record {
            root = subst IsTree (sym root) tree_root;
            lower = subst IsTree (sym lower) tree_lower;
            base = λ p in_. ap (λ es. lookup es p) root ∙ base_root p in_;
            root_outside = λ p out. ap (λ es. lookup es p) root ∙ own_root p out;
            gone = λ p in_. ap (λ es. lookup es p) lower ∙ gone_lower p in_;
            lower_outside = λ p out. ap (λ es. lookup es p) lower ∙ own_lower p out;
            same = same ∙ (λ i. with_view class None (sym root i) (sym lower i) host);
          }

      root_range : AreInRange unmerged_root
      root_range = all_replaced (IsWritable held_form) (hierarchies_at class host) host.root (inside (hierarchies_at class host) host.lower) valid.present.limits.root (all_within (IsWritable held_form) (hierarchies_at class host) host.lower valid.present.limits.lower)

      lower_range : AreInRange unmerged_lower
      lower_range = all_replaced (IsWritable held_form) (hierarchies_at class host) host.lower [] valid.present.limits.lower tt

      -- what lies under the view still lies in merged hierarchies
      lies : (p : List (List ℕ)) → is_some (lookup unmerged_lower p) ≡ true → is_in (merged_hierarchies (hierarchies_in (with_view class None unmerged_root unmerged_lower host)) (present (with_view class None unmerged_root unmerged_lower host))) p ≡ true
      lies p there =
          elim (is_in (hierarchies_at class host) p) as (λ b. is_in (hierarchies_at class host) p ≡ b → is_in (merged_hierarchies (hierarchies_in (with_view class None unmerged_root unmerged_lower host)) (present (with_view class None unmerged_root unmerged_lower host))) p ≡ true) [
            | true ↦ λ in_. absurd (false≢true (sym (ap is_some (gone_lower p in_)) ∙ there))
            | false ↦ λ out.
                merged_with class host None unmerged_root unmerged_lower p ∙ sym (out_own class host p out)
                ∙ valid.present.lower p (sym (ap is_some (own_lower p out)) ∙ there)
          ] refl

      root_comes : (p : List (List ℕ)) (attributes : OfFile) (held : HeldFile) → lookup unmerged_root p ≡ Some (File attributes held) → HasHeld host held
      root_comes p attributes held stands =
          elim (is_in (hierarchies_at class host) p) as (λ b. is_in (hierarchies_at class host) p ≡ b → HasHeld host held) [
            | true ↦ λ in_. inr (record { path = p; attributes = attributes; stands = sym (at_root p in_) ∙ stands })
            | false ↦ λ out. inl (record { path = p; attributes = attributes; stands = sym (own_root p out) ∙ stands })
          ] refl

      lower_comes : (p : List (List ℕ)) (attributes : OfFile) (held : HeldFile) → lookup unmerged_lower p ≡ Some (File attributes held) → HasHeld host held
      lower_comes p attributes held stands =
          elim (is_in (hierarchies_at class host) p) as (λ b. is_in (hierarchies_at class host) p ≡ b → HasHeld host held) [
            | true ↦ λ in_. absurd (false≢true (sym (ap is_some (gone_lower p in_)) ∙ ap is_some stands))
            | false ↦ λ out. inr (record { path = p; attributes = attributes; stands = sym (own_lower p out) ∙ stands })
          ] refl

      pub is_next : (next : Host) → next ≡ with_view class None unmerged_root unmerged_lower host → IsPlannedHost host next
      is_next next same =
          let no_more_bytes : all_bytes unmerged_root + all_bytes unmerged_lower ≤ all_bytes host.root + all_bytes host.lower = no_more (λ e. bytes_of e.1) in
          let few = valid.present.limits.entries in
          let small = valid.present.limits.bytes in
          let fewer = no_more_entries in
          subst (IsPlannedHost host) (sym same) (record {
            valid = valid_with class host None unmerged_root unmerged_lower valid root_range lower_range (omega arith) (omega arith) tt lies (base_unmerged class host unmerged_root unmerged_lower own_root own_lower valid base_root);
            drawn = drawn_with class host None unmerged_root unmerged_lower root_comes lower_comes;
          })
