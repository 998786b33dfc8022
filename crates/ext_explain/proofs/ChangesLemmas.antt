-- What a merge changes at the hierarchies of its class, whatever tree is called the base.
use Rattle.std.proofs.Common.{◌≡◌, ℕ, Bool, true, false, List, [], ◌∷◌, Option, Some, None, refl, sym, ◌∙◌, subst}
use Rattle.std.specs.Option.{option_map}
use Rattle.ext_text.specs.declared.extension.Extension.{Extension}
use Rattle.ext_tree.specs.Tree.{Entries, lookup}
use Rattle.ext_tree.specs.declared.entry.Entry.{Entry}
use Rattle.ext_tree.specs.declared.stamp.Stamp.{Stamp}
use Rattle.ext_host.specs.Held.{HeldFile}
use Rattle.ext_host.specs.Host.{is_in}
use Rattle.ext_host.specs.Planning.{IsBaseTree, PlansNext}
use Rattle.ext_host.specs.Shelf.{Told}
use Rattle.ext_host.specs.Valid.{IsValidHost}
use Rattle.ext_host.specs.declared.host.Host.{Host}
use Rattle.ext_host.specs.declared.host.Plan.{Plan}
use Rattle.ext_changes.specs.Changes.{AreChanges, Changes, DiffersBy, change_at, stamped, stamped_at}
use Rattle.ext_view.specs.Hierarchies.{hierarchies_at}
use Rattle.ext_view.specs.Inside.{inside}
use Rattle.ext_view.specs.Laws.{host_after}
use Rattle.ext_view.specs.Merging.{IsRefreshed, PlansView}
use Rattle.ext_view.specs.View.{chosen, names_of}
use Rattle.ext_view.specs.declared.outcome.Merge.{Merge}
use Rattle.ext_view.specs.declared.surveyed.SurveyItem.{SurveyItem}
use Rattle.ext_view.proofs.ForCallers.{base_shown, found_inside, none_inside}
use Rattle.ext_explain.specs.Changed.{AreChangesOf, AreChangesOfNames}
use Rattle.ext_explain.specs.ViewChanges.{AreChangesInside, AreViewChanges, stamp_held}

-- what is the same does not differ
alike : (o : Option (Entry Stamp)) → DiffersBy o o None
alike None = refl
alike (Some e) = refl

-- trees that have the same in the names have the same inside them
inside_like : (names : List (List ℕ)) (a b : Entries HeldFile) → ((p : List (List ℕ)) → is_in names p ≡ true → lookup a p ≡ lookup b p) → (p : List (List ℕ)) → lookup (inside names a) p ≡ lookup (inside names b) p
inside_like names a b same p =
    elim (is_in names p) as (λ v. is_in names p ≡ v → lookup (inside names a) p ≡ lookup (inside names b) p) [
      | true ↦ λ in_. found_inside names p a in_ ∙ same p in_ ∙ sym (found_inside names p b in_)
      | false ↦ λ out. none_inside names p a out ∙ sym (none_inside names p b out)
    ] refl

-- so they have the same changes to another tree
changes_from : (earlier other later : Entries HeldFile) (changes : Changes) → ((p : List (List ℕ)) → lookup earlier p ≡ lookup other p) → AreChanges stamp_held stamp_held earlier later changes → AreChanges stamp_held stamp_held other later changes
changes_from earlier other later changes same are = record {
  sorted = are.sorted;
  each = λ p. subst (λ o. DiffersBy (option_map (stamped stamp_held) o) (stamped_at stamp_held later p) (change_at changes p)) (same p) (are.each p);
}

-- and none to each other
no_changes : (earlier later : Entries HeldFile) → ((p : List (List ℕ)) → lookup earlier p ≡ lookup later p) → AreChanges stamp_held stamp_held earlier later []
no_changes earlier later same = record {
  sorted = refl;
  each = λ p. subst (λ o. DiffersBy (stamped_at stamp_held earlier p) (option_map (stamped stamp_held) o) None) (same p) (alike (stamped_at stamp_held earlier p));
}

module _ (host : Host) (class : Extension) (base : Entries HeldFile) (valid : IsValidHost host) (is : IsBaseTree host base) where
  -- where nothing is chosen, the host that is planned, or the host as it is, shows the base
  pub base_after : (plan : Option Plan) → PlansView host class base [] plan → (p : List (List ℕ)) → is_in (hierarchies_at class host) p ≡ true → lookup base p ≡ lookup (host_after host plan).root p
  base_after None plans p in_ = is.is_base p ∙ base_shown class host p valid plans.1 in_
  base_after (Some plan) plans p in_ = is.is_base p ∙ sym (plans.1.base p in_)

  changes_by : (items : List SurveyItem) (plan : Option Plan) (changes : Changes) → PlansView host class base items plan → AreChangesOfNames (hierarchies_at class host) (names_of items) plan changes → AreChangesInside host class base (host_after host plan).root changes
  changes_by [] plan changes plans are =
      subst (AreChangesInside host class base (host_after host plan).root) (sym are)
      (no_changes (inside (hierarchies_at class host) base) (inside (hierarchies_at class host) (host_after host plan).root) (inside_like (hierarchies_at class host) base (host_after host plan).root (base_after plan plans)))
  changes_by (item ∷ items) None changes plans are = absurd (no_items plans.0)
    where
      no_items : item ∷ items ≡ [] → ⊥
      no_items none = cc
  changes_by (item ∷ items) (Some plan) changes plans are =
      changes_from (inside (hierarchies_at class host) plan.next.lower) (inside (hierarchies_at class host) base) (inside (hierarchies_at class host) plan.next.root) changes
      (inside_like (hierarchies_at class host) plan.next.lower base (λ p in_. plans.trees.base_lower p in_)) are

  pub view_changes : (told : HeldFile → Told) (force : Bool) (merge : Merge) (changes : Changes) → IsRefreshed told host base class force merge → PlansNext host merge.plan → AreChangesOf (hierarchies_at class host) merge changes → AreViewChanges told host base class force changes
  view_changes told force merge changes refreshed planned are = record {
    merge = merge;
    refreshed = refreshed;
    planned = planned;
    are_changes = changes_by (chosen refreshed.items) merge.plan changes refreshed.plan (subst (λ names. AreChangesOfNames (hierarchies_at class host) names merge.plan changes) refreshed.names are);
  }
