-- Chosen images: their places lead to images, and their names are in order; and what refreshing makes of them.
use Rattle.std.proofs.Common.{◌≡◌, ℕ, Bool, true, false, cond, List, [], ◌∷◌, map, Result, Ok, Err, refl, sym, ap, ◌∙◌, subst}
use Rattle.std.proofs.lemmas.Bool.{and_parts, false≢true}
use Rattle.std.specs.FinMap.{FinMap, is_sorted}
use Rattle.std.specs.FinMap.Entries.{below_all}
use Rattle.std.specs.List.{AllByRecursion, filter}
use Rattle.std.specs.Ordering.{is_lt}
use Rattle.std.specs.declared.cmp.Ordering.{Ordering}
use Rattle.std.specs.declared.cmp.Ordering.TheVariants.{Less}
use Rattle.ext_lines.specs.ByteOrder.{bytes_cmp}
use Rattle.ext_text.specs.declared.extension.Extension.{Extension}
use Rattle.ext_text.specs.declared.which.Which.{Which}
use Rattle.ext_text.proofs.ForCallers.{is_less}
use Rattle.ext_tree.specs.Tree.{Entries}
use Rattle.ext_vers.specs.Version.{order_of}
use Rattle.ext_host.specs.Held.{HeldFile}
use Rattle.ext_host.specs.Planning.{IsBaseTree}
use Rattle.ext_host.specs.Shelf.{Told}
use Rattle.ext_host.specs.Valid.{AreAscending}
use Rattle.ext_host.specs.declared.host.Host.{Host}
use Rattle.ext_find.specs.Found.{by_name}
use Rattle.ext_find.specs.declared.found.FoundItem.{FoundItem}
use Rattle.ext_find.specs.declared.found.FoundKind.{FoundKind}
use Rattle.ext_find.specs.declared.found.FoundKind.TheVariants as found
use Rattle.ext_view.specs.Layering.{AreChosen, MergesAs, TreesPass}
use Rattle.ext_view.specs.Matched.{AreMatched}
use Rattle.ext_view.specs.Parts.{Leads, LeadsItem}
use Rattle.ext_view.specs.Merging.{IsTooLarge, Refreshes}
use Rattle.ext_view.specs.Surveying.{IsItemOf, IsKindOf, IsSurveyOf}
use Rattle.ext_view.specs.View.{chosen, is_fit, names_of}
use Rattle.ext_view.specs.declared.outcome.Merge.{Merge}
use Rattle.ext_view.specs.declared.surveyed.SurveyItem.{SurveyItem}
use Rattle.ext_view.specs.declared.surveyed.SurveyKind.{SurveyKind}
use Rattle.ext_view.specs.declared.errors.ViewErr.{ViewErr}
use Rattle.ext_view.specs.declared.errors.ViewErr.TheVariants as errors

all_values : {X Y : Type 0} (g : X → Y) (P : Y → Type 0) (f : X → Bool) (xs : List X) → AllByRecursion P (map g xs) → AllByRecursion P (map g (filter f xs))
all_values g P f [] all = tt
all_values g P f (x ∷ xs) all =
    elim (f x) as (λ b. AllByRecursion P (map g (cond b (x ∷ filter f xs) (filter f xs)))) [
      | true ↦ (all.0, all_values g P f xs all.1)
      | false ↦ all_values g P f xs all.1
    ]

ascending_kept : {X Y : Type 0} (R : Y → Y → Ordering) (g : X → Y) (f : X → Bool) (xs : List X) → AreAscending R (map g xs) → AreAscending R (map g (filter f xs))
ascending_kept R g f [] up = tt
ascending_kept R g f (x ∷ xs) up =
    let rest = ascending_kept R g f xs up.1 in
    elim (f x) as (λ b. AreAscending R (map g (cond b (x ∷ filter f xs) (filter f xs)))) [
      | true ↦ (all_values g (λ y. R (g x) y ≡ Less) f xs up.0, rest)
      | false ↦ rest
    ]

module _ (told : HeldFile → Told) (host : Host) (base : Entries HeldFile) (class : Extension) (force : Bool) (release : FinMap bytes_cmp (List ℕ)) where
  abbrev Matched : List FoundItem → List SurveyItem → Type 0
  Matched found_items items = AreMatched (IsItemOf told host base class force release) found_items items

  -- an image that fits has a place that leads to an image
  kind_leads : (place : List (List ℕ)) (name : List ℕ) (found_kind : FoundKind) (kind : SurveyKind) → IsKindOf told host base class force release place name found_kind kind → is_fit kind ≡ true → Leads base place
  kind_leads place name found.Masked kind is fits = absurd (false≢true (sym (ap is_fit is) ∙ fits))
  kind_leads place name found.Raw kind is fits = absurd (false≢true (sym (ap is_fit is) ∙ fits))
  kind_leads place name (found.Broken why) kind is fits = absurd (false≢true (sym (ap is_fit is) ∙ fits))
  kind_leads place name found.Image kind is fits = (is.is_file.image, is.is_file.leads)

  chosen_lead : (found_items : List FoundItem) (items : List SurveyItem) → Matched found_items items → AllByRecursion (LeadsItem base) (chosen items)
  chosen_lead [] [] each = tt
  chosen_lead [] (item ∷ items) each = absurd each
  chosen_lead (f ∷ found_items) [] each = absurd each
  chosen_lead (f ∷ found_items) (item ∷ items) each =
      let rest = chosen_lead found_items items each.1 in
      elim (is_fit item.kind) as (λ b. is_fit item.kind ≡ b → AllByRecursion (LeadsItem base) (cond b (item ∷ chosen items) (chosen items))) [
        | true ↦ λ fits. (subst (Leads base) (sym each.0.place) (kind_leads f.place f.name f.kind item.kind each.0.kind fits), rest)
        | false ↦ λ _. rest
      ] refl

  -- the names of the items are in the order of what was found
  names_after : (name : List ℕ) (found_items : List FoundItem) (items : List SurveyItem) → Matched found_items items → below_all order_of name (by_name found_items) ≡ true → AllByRecursion (λ other. order_of name other ≡ Less) (names_of items)
  names_after name [] [] each below = tt
  names_after name [] (item ∷ items) each below = absurd each
  names_after name (f ∷ found_items) [] each below = absurd each
  names_after name (f ∷ found_items) (item ∷ items) each below =
      let parts = and_parts (is_lt (order_of name f.name)) (below_all order_of name (by_name found_items)) below in
      (subst (λ other. order_of name other ≡ Less) (sym each.0.name) (is_less _ parts.0), names_after name found_items items each.1 parts.1)

  names_ascend : (found_items : List FoundItem) (items : List SurveyItem) → Matched found_items items → is_sorted order_of (by_name found_items) ≡ true → AreAscending order_of (names_of items)
  names_ascend [] [] each sorted = tt
  names_ascend [] (item ∷ items) each sorted = absurd each
  names_ascend (f ∷ found_items) [] each sorted = absurd each
  names_ascend (f ∷ found_items) (item ∷ items) each sorted =
      let parts = and_parts (below_all order_of f.name (by_name found_items)) (is_sorted order_of (by_name found_items)) sorted in (
        subst (λ name. AllByRecursion (λ other. order_of name other ≡ Less) (names_of items)) (sym each.0.name) (names_after f.name found_items items each.1 parts.0),
        names_ascend found_items items each.1 parts.1,
      )

-- what is chosen of a survey
pub survey_chosen : (told : HeldFile → Told) (host : Host) (base : Entries HeldFile) (class : Extension) (force : Bool) (items : List SurveyItem) → IsSurveyOf told host base class force items → AreChosen base (chosen items)
survey_chosen told host base class force items is =
    let surveyed = is.surveyed in
    record {
      lead = chosen_lead told host base class force is.release surveyed.found_items items surveyed.each;
      order = ascending_kept order_of (λ (item : SurveyItem). item.name) (λ (item : SurveyItem). is_fit item.kind) items (names_ascend told host base class force is.release surveyed.found_items items surveyed.each surveyed.are_found.ordered);
    }

module _ (told : HeldFile → Told) (host : Host) (base : Entries HeldFile) (class : Extension) (force : Bool) (items : List SurveyItem) (surveyed : IsSurveyOf told host base class force items) where
  too_large : (which : Which) → TreesPass host class base (chosen items) which → IsTooLarge told host base class force which
  too_large which passes = record {
    items = items;
    surveyed = surveyed;
    non_empty = passes.non_empty;
    images = passes.images;
    are_images = passes.are_images;
    root = passes.root;
    lower = passes.lower;
    trees = passes.trees;
    passes = passes.passes;
  }

  -- the plan of what is chosen is that of the refreshed host
  pub refreshes : (old new : ℕ) (result : Result Merge ViewErr) → IsBaseTree host base → MergesAs host class base (chosen items) result → Refreshes told old new host class force result
  refreshes old new (Ok merge) is merges = (base, is, record { items = items; surveyed = surveyed; names = merges.0; plan = merges.1 })
  refreshes old new (Err errors.OutOfMemory) is merges = tt
  refreshes old new (Err errors.Merged) is merges = absurd merges
  refreshes old new (Err errors.NoHostRelease) is merges = absurd merges
  refreshes old new (Err (errors.BadHostRelease line)) is merges = absurd merges
  refreshes old new (Err (errors.Shelf e)) is merges = absurd merges
  refreshes old new (Err (errors.Limit which)) is merges = (base, is, too_large which merges)
