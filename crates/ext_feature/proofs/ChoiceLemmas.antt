-- A feature that is on, as halves find it.
use Rattle.std.proofs.Common.{◌≡◌, ℕ, ◌+◌, ◌<◌, true, false, ◌&&◌, List, [], length, get_or, inl, inr, refl, sym, ap, ◌∙◌, arith}
use Rattle.std.specs.Prelude.{map}
use Rattle.std.specs.List.{list_any}
use Rattle.std.specs.List.Sorted.{IsNonDecreasingBy, IsPartitionPoint, IsSortedByKey}
use Rattle.std.specs.Ordering.{is_lt, ordering_index, ordering_reverse}
use Rattle.std.specs.Str.{bytes_eq}
use Rattle.std.specs.declared.cmp.Ordering.TheVariants.{Less, Equal, Greater}
use Rattle.std.specs.Cmp.{tied_itself}
use Rattle.std.proofs.lemmas.Bool.{and_left, and_right, cases_lt, cases_order, false_from_ne_true}
use Rattle.std.proofs.lemmas.List.{get_or-map, length-map}
use Rattle.std.proofs.lemmas.List.Recursion.{or_at, or_from_places}
use Rattle.std.proofs.lemmas.List.Sorted.{searchable_from_sorted}
use Rattle.std.proofs.lemmas.Map.Keys.{Less-from_sorted}
use Rattle.std.proofs.lemmas.Slice.Eq.{bytes_eq-Decides}
use Rattle.ext_lines.specs.ByteOrder.{bytes_cmp, bytes_total}
use Rattle.ext_feature.specs.Chosen.{has_on}
use Rattle.ext_feature.specs.Steps.{AreSorted}
use Rattle.ext_feature.specs.declared.feature.Feature.{Feature}
use Rattle.ext_feature.proofs.OrderLemmas.{not_before_itself}

abbrev no_feature : Feature
no_feature = record { name = []; on = false }

module _ (features : List Feature) (name : List ℕ) (sorted : AreSorted features) where
  -- the features' names are in the order in which halves look
  less_at : (i j : ℕ) (d : Feature) → i < j → j < length features → bytes_cmp (get_or features i d).name (get_or features j d).name ≡ Less
  less_at i j d before within =
      let names = map (λ (f : Feature). f.name) features in
      let first : get_or names i d.name ≡ (get_or features i d).name = get_or-map (λ (f : Feature). f.name) features i d d.name (omega (arith, before, within)) in
      let later : get_or names j d.name ≡ (get_or features j d).name = get_or-map (λ (f : Feature). f.name) features j d d.name within in
      ap (λ n. bytes_cmp n (get_or features j d).name) (sym first) ∙ ap (bytes_cmp (get_or names i d.name)) (sym later)
      ∙ Less-from_sorted bytes_cmp names i j d.name sorted before (omega (arith, within, length-map features (λ (f : Feature). f.name)))

  by_key : IsSortedByKey (λ (f : Feature). f.name) bytes_cmp features
  by_key k d low next = ap is_lt (bytes_total.antisymm (get_or features (k + 1) d).name (get_or features k d).name ∙ ap ordering_reverse (less_at k (k + 1) d (omega arith) next))

  -- the names in the order in which halves look
  pub searchable : IsNonDecreasingBy (λ (f : Feature). ordering_index (bytes_cmp f.name name)) features
  searchable = searchable_from_sorted bytes_total (λ (f : Feature). f.name) features name by_key

  -- the feature with the name decides
  pub found_on : (i : ℕ) (d : Feature) → i < length features → (get_or features i d).name ≡ name → (get_or features i d).on ≡ has_on features name
  found_on i d within is =
      elim (get_or features i d).on as (λ b. (get_or features i d).on ≡ b → b ≡ has_on features name) [
        | true ↦ λ on. sym (or_at (list_any (λ f. bytes_eq f.name name && f.on)) (λ f. bytes_eq f.name name && f.on) refl (λ _ _. refl) features i d within
            (ap (λ b. b && (get_or features i d).on) ((bytes_eq-Decides (get_or features i d).name name).1 is) ∙ on))
        | false ↦ λ off. sym (or_from_places (list_any (λ f. bytes_eq f.name name && f.on)) (λ f. bytes_eq f.name name && f.on) refl (λ _ _. refl) features d
            (λ j below. elim (cases_order j i) [
              | inl same ↦ and_right (bytes_eq (get_or features j d).name name) (get_or features j d).on (ap (λ k. (get_or features k d).on) same ∙ off)
              | inr apart ↦ and_left (bytes_eq (get_or features j d).name name) (get_or features j d).on (false_from_ne_true _ (λ equal.
                  let there : (get_or features j d).name ≡ name = (bytes_eq-Decides (get_or features j d).name name).0 equal in
                  elim apart [
                    | inl less ↦ not_before_itself name (ap (λ n. bytes_cmp n name) (sym there) ∙ ap (bytes_cmp (get_or features j d).name) (sym is) ∙ less_at j i d less within)
                    | inr more ↦ not_before_itself name (ap (λ n. bytes_cmp n name) (sym is) ∙ ap (bytes_cmp (get_or features i d).name) (sym there) ∙ less_at i j d more below)
                  ]))
            ]))
      ] refl

  -- where none has the name, none of this name is on
  pub found_none : (i : ℕ) → IsPartitionPoint (λ (f : Feature). bytes_cmp f.name name ≡ Less) (λ (f : Feature). bytes_cmp f.name name ≡ Greater) features i → false ≡ has_on features name
  found_none i parted =
      sym (or_from_places (list_any (λ f. bytes_eq f.name name && f.on)) (λ f. bytes_eq f.name name && f.on) refl (λ _ _. refl) features no_feature
      (λ j below. and_left (bytes_eq (get_or features j no_feature).name name) (get_or features j no_feature).on (false_from_ne_true _ (λ equal.
      let same : (get_or features j no_feature).name ≡ name = (bytes_eq-Decides (get_or features j no_feature).name name).0 equal in
      let tied : bytes_cmp (get_or features j no_feature).name name ≡ Equal = ap (λ n. bytes_cmp n name) same ∙ tied_itself bytes_total name in
      elim (cases_lt j i) [
        | inl less ↦ (let low : bytes_cmp (get_or features j no_feature).name name ≡ Less = parted.0 j no_feature (omega arith) less in cc)
        | inr more ↦ (let high : bytes_cmp (get_or features j no_feature).name name ≡ Greater = parted.1 j no_feature more below in cc)
      ]))))
