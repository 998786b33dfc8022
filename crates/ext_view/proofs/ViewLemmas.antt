-- The merged host: its trees, that it is valid, and where its files come from.
use Rattle.std.proofs.Common.{◌≡◌, ℕ, ◌+◌, ◌<◌, ◌≤◌, true, false, cond, ◌||◌, List, [], ◌∷◌, ◌++◌, length, Some, Ok, Err, is_some, refl, sym, ap, ◌∙◌, subst, arith}
use Rattle.std.specs.Prelude.{Result, reverse}
use mathlib.Core.Logic.{inl, inr}
use Rattle.std.proofs.lemmas.Bool.{false≢true}
use Rattle.std.proofs.lemmas.List.{length-map}
use Rattle.std.specs.List.{AllByRecursion, sum_by}
use Rattle.ext_attributes.specs.Attributes.{OfFile}
use Rattle.ext_text.specs.Order.{paths_total}
use Rattle.ext_text.specs.Path.{path_cmp}
use Rattle.ext_text.specs.declared.extension.Extension.{Extension}
use Rattle.ext_text.specs.declared.which.Which.TheVariants as limits
use Rattle.ext_text.proofs.ForCallers.{all_append, all_back}
use Rattle.ext_tree.specs.EntryLine.{IsWritable}
use Rattle.ext_tree.specs.Tree.{Entries, IsTree, as_shown, lookup, most_entries}
use Rattle.ext_tree.specs.declared.entry.Entry.{Entry}
use Rattle.ext_tree.specs.declared.entry.Entry.TheVariants.{File}
use Rattle.ext_tree.proofs.ForCallers.{each_found}
use Rattle.ext_tree.proofs.ForCallers.{length-sum, sorted_put_all}
use Rattle.ext_layer.specs.Layered.{IsVisible}
use Rattle.ext_host.specs.Held.{HeldFile}
use Rattle.ext_host.specs.Host.{is_in}
use Rattle.ext_host.specs.Limits.{PassLimit}
use Rattle.ext_host.specs.Planning.{IsBaseTree, IsPlannedHost}
use Rattle.ext_host.specs.Valid.{AreInRange, AreMerged, IsValidHost, all_bytes, held_form, most_bytes}
use Rattle.ext_host.specs.declared.host.Host.{Host}
use Rattle.ext_view.specs.Hierarchies.{hierarchies_at}
use Rattle.ext_view.specs.Inside.{inside, outside}
use Rattle.ext_view.specs.Replaced.{replaced}
use Rattle.ext_view.specs.Layering.{AreChosen, AreTrees, FitsWithin, GivesTrees, GivesView, HasViewOf, IsView}
use Rattle.ext_view.specs.View.{AreImagesOf, AreViewTrees, HasView, names_of, with_view}
use Rattle.ext_view.specs.declared.surveyed.SurveyItem.{SurveyItem}
use Rattle.ext_view.specs.declared.errors.ViewErr.{ViewErr}
use Rattle.ext_view.specs.declared.errors.ViewErr.TheVariants as errors
use Rattle.ext_view.proofs.CountLemmas.{sum_by-replaced}
use Rattle.ext_view.proofs.EntryLemmas.{all_at, all_from_lookup, file_shown, shown_writable}
use Rattle.ext_view.proofs.HostLemmas.{HasHeld, base_merged, drawn_with, in_merged, in_other, merged_with, out_own, root_with, valid_with}
use Rattle.ext_view.proofs.ImageLemmas.{entry_of_image}
use Rattle.ext_view.proofs.InsideLemmas.{all_inside, found_inside, sorted_inside, tree_inside}
use Rattle.ext_view.proofs.LayerLemmas.{all_reverse}
use Rattle.ext_view.proofs.ReplacedLemmas.{lookup_replaced, tree_replaced}

-- all of a view is in the names
pub all_viewed : (names : List (List ℕ)) (base : Entries HeldFile) (images : List (Entries HeldFile)) (view : Entries HeldFile) → IsView names base images view → AllByRecursion (λ e. is_in names e.0 ≡ true) view
all_viewed names base images view is =
    each_found path_cmp paths_total (λ p. is_in names p ≡ true) view (λ p there.
    elim (is_in names p) as (λ b. is_in names p ≡ b → b ≡ true) [
      | true ↦ λ _. refl
      | false ↦ λ out. absurd (false≢true (sym (ap is_some (is.within p out)) ∙ there))
    ] refl)

module _ (class : Extension) (host : Host) (base : Entries HeldFile) (is_base : IsBaseTree host base) (root_tree : IsTree host.root) (lower_tree : IsTree host.lower) where
  abbrev pub view_root : Entries HeldFile → Entries HeldFile
  view_root view = replaced (hierarchies_at class host) host.root view

  abbrev pub view_lower : Entries HeldFile
  view_lower = replaced (hierarchies_at class host) host.lower (inside (hierarchies_at class host) base)

  lower_says : (p : List (List ℕ)) → lookup view_lower p ≡ cond (is_in (hierarchies_at class host) p) (lookup (inside (hierarchies_at class host) base) p) (lookup host.lower p)
  lower_says p = lookup_replaced (hierarchies_at class host) host.lower (inside (hierarchies_at class host) base) p (all_inside (hierarchies_at class host) base)

  pub tree_lower : IsTree view_lower
  tree_lower =
      tree_replaced (hierarchies_at class host) host.lower (inside (hierarchies_at class host) base) view_lower lower_says lower_tree (tree_inside (hierarchies_at class host) base is_base.tree)
      (sorted_put_all (outside (hierarchies_at class host) host.lower) (inside (hierarchies_at class host) base) (sorted_inside (hierarchies_at class host) base is_base.tree.sorted))

  module _ (images : List (Entries HeldFile)) (view : Entries HeldFile) (is : IsView (hierarchies_at class host) base images view) where
    root_says : (p : List (List ℕ)) → lookup (view_root view) p ≡ cond (is_in (hierarchies_at class host) p) (lookup view p) (lookup host.root p)
    root_says p = lookup_replaced (hierarchies_at class host) host.root view p (all_viewed (hierarchies_at class host) base images view is)

    at_root : (p : List (List ℕ)) → is_in (hierarchies_at class host) p ≡ true → lookup (view_root view) p ≡ lookup view p
    at_root p in_ = root_says p ∙ ap (λ b. cond b (lookup view p) (lookup host.root p)) in_

    pub tree_root : IsTree (view_root view)
    tree_root = tree_replaced (hierarchies_at class host) host.root view (view_root view) root_says root_tree is.tree (sorted_put_all (outside (hierarchies_at class host) host.root) view is.tree.sorted)

    pub are_view_trees : AreViewTrees host class base images (view_root view) view_lower
    are_view_trees = record {
      root_tree = tree_root;
      lower_tree = tree_lower;
      visible = λ p e in_ there. is.visible p e in_ (sym (at_root p in_) ∙ there);
      whole = λ p e in_ seen. at_root p in_ ∙ is.whole p e in_ seen;
      root_outside = λ p out. root_says p ∙ ap (λ b. cond b (lookup view p) (lookup host.root p)) out;
      base_lower = λ p in_. lower_says p ∙ ap (λ b. cond b (lookup (inside (hierarchies_at class host) base) p) (lookup host.lower p)) in_ ∙ found_inside (hierarchies_at class host) p base in_;
      lower_outside = λ p out. lower_says p ∙ ap (λ b. cond b (lookup (inside (hierarchies_at class host) base) p) (lookup host.lower p)) out;
    }

    -- what is seen is no shorter than the view
    pub view_shorter : length view ≤ length (view_root view)
    view_shorter =
        let sums : sum_by (λ _. 1) (view_root view) ≡ sum_by (λ _. 1) (outside (hierarchies_at class host) host.root) + sum_by (λ _. 1) view = sum_by-replaced (λ _. 1) (hierarchies_at class host) host.root view root_tree.sorted (all_viewed (hierarchies_at class host) base images view is) in
        omega (arith, sums, length-sum view, length-sum (view_root view))

  module _ (items : List SurveyItem) where
    -- both trees, by whether they are within the limits
    pub trees_given : (view : Entries HeldFile) (result : Result (Entries HeldFile × Entries HeldFile) ViewErr) → HasViewOf (hierarchies_at class host) base items view → FitsWithin (view_root view) view_lower result → GivesTrees host class base items result
    trees_given view (Ok trees) has fits = record {
      images = has.images;
      are_images = has.are_images;
      trees = subst (λ r. AreViewTrees host class base has.images r trees.1) (sym fits.0) (subst (AreViewTrees host class base has.images (view_root view)) (sym fits.1) (are_view_trees has.images view has.is_view));
      entries = subst (λ r. length r + length trees.1 ≤ most_entries) (sym fits.0) (subst (λ l. length (view_root view) + length l ≤ most_entries) (sym fits.1) fits.2);
      bytes = subst (λ r. all_bytes r + all_bytes trees.1 ≤ most_bytes) (sym fits.0) (subst (λ l. all_bytes (view_root view) + all_bytes l ≤ most_bytes) (sym fits.1) fits.3);
    }
    trees_given view (Err errors.OutOfMemory) has fits = tt
    trees_given view (Err errors.Merged) has fits = absurd fits
    trees_given view (Err errors.NoHostRelease) has fits = absurd fits
    trees_given view (Err (errors.BadHostRelease line)) has fits = absurd fits
    trees_given view (Err (errors.Shelf e)) has fits = absurd fits
    trees_given view (Err (errors.Limit which)) has fits = λ non_empty. record {
      non_empty = non_empty;
      images = has.images;
      are_images = has.are_images;
      root = view_root view;
      lower = view_lower;
      trees = are_view_trees has.images view has.is_view;
      passes = fits;
    }

    -- or a view that is too long
    pub trees_fail : (e : ViewErr) → GivesView (hierarchies_at class host) base items (Err e) → GivesTrees host class base items (Err e)
    trees_fail errors.OutOfMemory gives = tt
    trees_fail errors.Merged gives = absurd gives
    trees_fail errors.NoHostRelease gives = absurd gives
    trees_fail (errors.BadHostRelease line) gives = absurd gives
    trees_fail (errors.Shelf e) gives = absurd gives
    trees_fail (errors.Limit which) gives =
        let view = gives.1.0 in
        let has = gives.1.1 in
        let long : most_entries < length view = gives.1.2 in
        let shorter = view_shorter has.images view has.is_view in
        λ non_empty. record {
          non_empty = non_empty;
          images = has.images;
          are_images = has.are_images;
          root = view_root view;
          lower = view_lower;
          trees = are_view_trees has.images view has.is_view;
          passes = (let passes : PassLimit limits.Entries (view_root view) view_lower = omega arith in subst (λ w. PassLimit w (view_root view) view_lower) (sym gives.0) passes);
        }

-- the entry is one of the base, at some path
abbrev IsOfBase : Entries HeldFile → Entry HeldFile → Type 0
IsOfBase base e = (q : List (List ℕ)) × (lookup base q ≡ Some e)

images_of_base : (base : Entries HeldFile) (items : List SurveyItem) (images : List (Entries HeldFile)) → AreImagesOf base items images → AllByRecursion (λ es. (p : List (List ℕ)) (e : Entry HeldFile) → lookup es p ≡ Some e → IsOfBase base e) images
images_of_base base [] [] are = tt
images_of_base base [] (image ∷ images) are = absurd are
images_of_base base (item ∷ items) [] are = absurd are
images_of_base base (item ∷ items) (image ∷ images) are = (
  λ p e stands. (are.0.0 ++ p, entry_of_image base are.0.0 p e (ap (λ es. lookup es p) (sym are.0.2) ∙ stands)),
  images_of_base base items images are.1,
)

module _ (class : Extension) (host : Host) (base : Entries HeldFile) (is_base : IsBaseTree host base) (items : List SurveyItem) (images : List (Entries HeldFile)) (are_images : AreImagesOf base items images) (root lower : Entries HeldFile) (trees : AreViewTrees host class base images root lower) where
  -- each entry that is visible is one of the base, as it shows
  visible_of_base : (p : List (List ℕ)) (e : Entry HeldFile) → IsVisible (reverse images ++ base ∷ []) p e → (stored : Entry HeldFile) × IsOfBase base stored × (e ≡ as_shown stored)
  visible_of_base p e v =
      let Of : Entries HeldFile → Type 0 = λ es. (p : List (List ℕ)) (e : Entry HeldFile) → lookup es p ≡ Some e → IsOfBase base e in
      let all : AllByRecursion Of (reverse images ++ base ∷ []) = all_append Of (reverse images) (base ∷ []) (all_reverse Of images (images_of_base base items images are_images)) (λ p e stands. (p, stands), tt) in
      let layer : Of v.layer = (all_back Of v.above (v.layer ∷ v.below) (subst (AllByRecursion Of) v.split all)).0 in
      (v.stored, layer p v.stored v.stands, v.shown)

  -- a fact of each entry of the host, which the base has
  base_has : (P : Entry HeldFile → Type 0) → AllByRecursion (λ x. P x.1) host.root → AllByRecursion (λ x. P x.1) host.lower → (q : List (List ℕ)) (e : Entry HeldFile) → lookup base q ≡ Some e → P e
  base_has P in_root in_lower q e stands =
      elim (in_merged host q) as (λ b. cond b (lookup host.lower q) (lookup host.root q) ≡ Some e → P e) [
        | true ↦ λ here. all_at P host.lower q e in_lower here
        | false ↦ λ here. all_at P host.root q e in_root here
      ] (sym (is_base.is_base q) ∙ stands)

  base_held : (q : List (List ℕ)) (attributes : OfFile) (held : HeldFile) → lookup base q ≡ Some (File attributes held) → HasHeld host held
  base_held q attributes held stands =
      elim (in_merged host q) as (λ b. cond b (lookup host.lower q) (lookup host.root q) ≡ Some (File attributes held) → HasHeld host held) [
        | true ↦ λ here. inr (record { path = q; attributes = attributes; stands = here })
        | false ↦ λ here. inl (record { path = q; attributes = attributes; stands = here })
      ] (sym (is_base.is_base q) ∙ stands)

  module _ (valid : IsValidHost host) where
    root_range : AreInRange root
    root_range = all_from_lookup (IsWritable held_form) root trees.root_tree.sorted at
      where
        at : (p : List (List ℕ)) (e : Entry HeldFile) → lookup root p ≡ Some e → IsWritable held_form e
        at p e stands =
            elim (is_in (hierarchies_at class host) p) as (λ b. is_in (hierarchies_at class host) p ≡ b → IsWritable held_form e) [
              | true ↦ λ in_.
                  let v = visible_of_base p e (trees.visible p e in_ stands) in
                  subst (IsWritable held_form) (sym v.2) (shown_writable held_form v.0 (base_has (IsWritable held_form) valid.present.limits.root valid.present.limits.lower v.1.0 v.0 v.1.1))
              | false ↦ λ out. all_at (IsWritable held_form) host.root p e valid.present.limits.root (sym (trees.root_outside p out) ∙ stands)
            ] refl

    lower_range : AreInRange lower
    lower_range = all_from_lookup (IsWritable held_form) lower trees.lower_tree.sorted at
      where
        at : (p : List (List ℕ)) (e : Entry HeldFile) → lookup lower p ≡ Some e → IsWritable held_form e
        at p e stands =
            elim (is_in (hierarchies_at class host) p) as (λ b. is_in (hierarchies_at class host) p ≡ b → IsWritable held_form e) [
              | true ↦ λ in_. base_has (IsWritable held_form) valid.present.limits.root valid.present.limits.lower p e (sym (trees.base_lower p in_) ∙ stands)
              | false ↦ λ out. all_at (IsWritable held_form) host.lower p e valid.present.limits.lower (sym (trees.lower_outside p out) ∙ stands)
            ] refl

    root_comes : (p : List (List ℕ)) (attributes : OfFile) (held : HeldFile) → lookup root p ≡ Some (File attributes held) → HasHeld host held
    root_comes p attributes held stands =
        elim (is_in (hierarchies_at class host) p) as (λ b. is_in (hierarchies_at class host) p ≡ b → HasHeld host held) [
          | true ↦ λ in_.
              let v = visible_of_base p (File attributes held) (trees.visible p (File attributes held) in_ stands) in
              base_held v.1.0 attributes held (v.1.1 ∙ ap Some (file_shown v.0 attributes held v.2))
          | false ↦ λ out. inl (record { path = p; attributes = attributes; stands = sym (trees.root_outside p out) ∙ stands })
        ] refl

    lower_comes : (p : List (List ℕ)) (attributes : OfFile) (held : HeldFile) → lookup lower p ≡ Some (File attributes held) → HasHeld host held
    lower_comes p attributes held stands =
        elim (is_in (hierarchies_at class host) p) as (λ b. is_in (hierarchies_at class host) p ≡ b → HasHeld host held) [
          | true ↦ λ in_. base_held p attributes held (sym (trees.base_lower p in_) ∙ stands)
          | false ↦ λ out. inr (record { path = p; attributes = attributes; stands = sym (trees.lower_outside p out) ∙ stands })
        ] refl

    module _ (names : List (List ℕ)) where
      lies : (p : List (List ℕ)) → is_some (lookup lower p) ≡ true → in_merged (with_view class (Some names) root lower host) p ≡ true
      lies p there =
          elim (is_in (hierarchies_at class host) p) as (λ b. is_in (hierarchies_at class host) p ≡ b → in_merged (with_view class (Some names) root lower host) p ≡ true) [
            | true ↦ λ in_. merged_with class host (Some names) root lower p ∙ ap (λ b. b || in_other class host p) in_
            | false ↦ λ out.
                merged_with class host (Some names) root lower p ∙ ap (λ b. b || in_other class host p) out
                ∙ sym (out_own class host p out)
                ∙ valid.present.lower p (sym (ap is_some (trees.lower_outside p out)) ∙ there)
          ] refl

      pub view_next : (next : Host) → AreMerged names → length root + length lower ≤ most_entries → all_bytes root + all_bytes lower ≤ most_bytes → next ≡ with_view class (Some names) root lower host → IsPlannedHost host next
      view_next next merged entries bytes same =
          subst (IsPlannedHost host) (sym same) (record {
            valid = valid_with class host (Some names) root lower valid root_range lower_range entries bytes merged lies (base_merged class host root lower trees.root_outside trees.lower_outside names (λ p in_. trees.base_lower p in_ ∙ is_base.is_base p));
            drawn = drawn_with class host (Some names) root lower root_comes lower_comes;
          })

-- the names of chosen images are those of a merged class
pub chosen_merged : (base : Entries HeldFile) (items : List SurveyItem) → AreChosen base items → 0 < length items → AreMerged (names_of items)
chosen_merged base items chosen some = record {
  non_empty = omega (arith, length-map items (λ (item : SurveyItem). item.name));
  order = chosen.order;
}

-- the host with the trees of the view has the view
pub has_view : (host : Host) (class : Extension) (base : Entries HeldFile) (items : List SurveyItem) (root lower : Entries HeldFile) (next : Host) → AreTrees host class base items root lower → next ≡ with_view class (Some (names_of items)) root lower host → HasView host class base items next
has_view host class base items root lower next are same =
    let trees = root_with class host (Some (names_of items)) root lower in
    let root_is : next.root ≡ root = ap (λ (h : Host). h.root) same ∙ trees.0 in
    let lower_is : next.lower ≡ lower = ap (λ (h : Host). h.lower) same ∙ trees.1 in
    record {
      images = are.images;
      are_images = are.are_images;
      trees = subst (λ r. AreViewTrees host class base are.images r next.lower) (sym root_is) (subst (AreViewTrees host class base are.images root) (sym lower_is) are.trees);
      same = same ∙ (λ i. with_view class (Some (names_of items)) (sym root_is i) (sym lower_is i) host);
    }
