-- The laws of what is told of a refresh.
use Rattle.std.proofs.Common.{◌≡◌, ℕ, true, false, cond, List, [], ◌∷◌, ◌++◌, map, Option, Some, None, is_some, refl, sym, ap, ◌∙◌, subst}
use Rattle.std.specs.Prelude.{reverse}
use Rattle.std.proofs.lemmas.Bool.{false≢true}
use Rattle.std.proofs.lemmas.List.{map-append, reverse-append}
use Rattle.ext_text.specs.declared.extension.Extension.{Extension}
use Rattle.ext_tree.specs.Part.{part}
use Rattle.ext_tree.specs.Tree.{Entries, lookup}
use Rattle.ext_tree.specs.declared.entry.Entry.{Entry}
use Rattle.ext_walk.specs.Walk.{walk}
use Rattle.ext_walk.proofs.ForCallers.{one_end}
use Rattle.ext_layer.specs.Layered.{IsVisible}
use Rattle.ext_host.specs.Held.{HeldFile}
use Rattle.ext_host.specs.Host.{is_in}
use Rattle.ext_host.specs.Planning.{IsBaseTree}
use Rattle.ext_host.specs.Stamped.{stamped_entry}
use Rattle.ext_host.specs.Valid.{IsValidHost}
use Rattle.ext_host.specs.declared.host.Host.{Host}
use Rattle.ext_host.specs.declared.host.Plan.{Plan}
use Rattle.ext_changes.specs.Changes.{AreChanges}
use Rattle.ext_changes.proofs.ForCallers.{one_list}
use Rattle.ext_view.specs.Hierarchies.{hierarchies_at}
use Rattle.ext_view.specs.Inside.{inside}
use Rattle.ext_view.specs.Laws.{OneSurvey, host_after}
use Rattle.ext_view.specs.Merging.{PlansView}
use Rattle.ext_view.specs.View.{AreImagesOf, AreViewTrees, chosen}
use Rattle.ext_view.specs.declared.outcome.Merge.{Merge}
use Rattle.ext_view.specs.declared.surveyed.SurveyItem.{SurveyItem}
use Rattle.ext_view.proofs.ForCallers.{one_images, one_refreshed}
use Rattle.ext_explain.specs.Laws.{FirstLineShows, FirstLineShowsOutside, OneListOfChanges, OneListOfLines, shown_entry, shown_first, shown_where}
use Rattle.ext_explain.specs.Layers.{AreNamedLayers, NamedLayer, base_layer, layers_from_top, origins_of}
use Rattle.ext_explain.specs.ViewChanges.{stamp_held}
use Rattle.ext_explain.proofs.ChangesLemmas.{base_after}
use Rattle.ext_explain.proofs.ShownLemmas.{base_first, entries_in, none_first, shows_as, visible_first}

-- images have one list of layers
one_layers : (base : Entries HeldFile) (items : List SurveyItem) (images others : List NamedLayer) → AreNamedLayers base items images → AreNamedLayers base items others → images ≡ others
one_layers base [] [] [] x y = refl
one_layers base [] [] (b ∷ others) x y = absurd y
one_layers base [] (a ∷ images) others x y = absurd x
one_layers base (item ∷ items) [] others x y = absurd x
one_layers base (item ∷ items) (a ∷ images) [] x y = absurd y
one_layers base (item ∷ items) (a ∷ images) (b ∷ others) x y =
    let layer : a.layer ≡ b.layer = x.0.layer ∙ sym y.0.layer in
    let entries : a.entries ≡ b.entries = x.0.image.2 ∙ ap (λ end. part end base) (one_end base (walk [] item.place 0) x.0.image.0 y.0.image.0 x.0.image.1 y.0.image.1) ∙ sym y.0.image.2 in
    let rest : images ≡ others = one_layers base items images others x.1 y.1 in
    (λ i. record { layer = layer i; entries = entries i } ∷ rest i)

pub one_list_of_lines : OneSurvey → OneListOfLines
one_list_of_lines one_survey told host base class force path origins others tells x y =
    let items : x.items ≡ y.items = one_survey told host base class force x.items y.items tells x.surveyed y.surveyed in
    let images : x.images ≡ y.images = one_layers base (chosen y.items) x.images y.images (subst (λ items. AreNamedLayers base (chosen items) x.images) items x.are_images) y.are_images in
    x.lines ∙ ap (λ images. origins_of path (layers_from_top (is_in (hierarchies_at class host) path) images base)) images ∙ sym y.lines

pub one_list_of_changes : OneSurvey → OneListOfChanges
one_list_of_changes one_survey told host base class force changes others tells x y =
    let merge : x.merge ≡ y.merge = one_refreshed one_survey told tells host base class force x.merge y.merge x.refreshed y.refreshed in
    let names = hierarchies_at class host in
    one_list stamp_held stamp_held (inside names base) (inside names (host_after host y.merge.plan).root) changes others
    (subst (λ (merge : Merge). AreChanges stamp_held stamp_held (inside names base) (inside names (host_after host merge.plan).root) changes) merge x.are_changes) y.are_changes

-- the layers of images have what the images have
layers_have : (base : Entries HeldFile) (items : List SurveyItem) (images : List NamedLayer) → AreNamedLayers base items images → AreImagesOf base items (map entries_in images)
layers_have base [] [] are = tt
layers_have base [] (image ∷ images) are = absurd are
layers_have base (item ∷ items) [] are = absurd are
layers_have base (item ∷ items) (image ∷ images) are = (are.0.image, layers_have base items images are.1)

map_reverse : (images : List NamedLayer) → map entries_in (reverse images) ≡ reverse (map entries_in images)
map_reverse [] = refl
map_reverse (image ∷ images) =
    ap (map entries_in) (reverse-append (image ∷ []) images) ∙ map-append entries_in (reverse images) (image ∷ [])
    ∙ ap (λ ess. ess ++ image.entries ∷ []) (map_reverse images) ∙ sym (reverse-append (image.entries ∷ []) (map entries_in images))

-- no images have no layers
no_layers : (base : Entries HeldFile) (images : List NamedLayer) → AreNamedLayers base [] images → images ≡ []
no_layers base [] are = refl
no_layers base (image ∷ images) are = absurd are

module _ (host : Host) (class : Extension) (base : Entries HeldFile) (path : List (List ℕ)) where
  -- what a view shows is what the first line of its layers tells
  module _ (items : List SurveyItem) (named : List NamedLayer) (images : List (Entries HeldFile)) (root lower : Entries HeldFile) (are_named : AreNamedLayers base items named) (are_images : AreImagesOf base items images) (trees : AreViewTrees host class base images root lower) (in_ : is_in (hierarchies_at class host) path ≡ true) where
    abbrev layers : List NamedLayer
    layers = reverse named ++ base_layer base ∷ []

    layers_is : reverse images ++ base ∷ [] ≡ map entries_in layers
    layers_is =
        ap (λ ess. ess ++ base ∷ []) (ap reverse (one_images base items images (map entries_in named) are_images (layers_have base items named are_named)) ∙ sym (map_reverse named))
        ∙ sym (map-append entries_in (reverse named) (base_layer base ∷ []))

    view_shows : (o : Option (Entry HeldFile)) → lookup root path ≡ o → shown_where o ≡ shown_first (origins_of path layers)
    view_shows (Some e) there =
        let v = trees.visible path e in_ there in
        ap (λ e. shown_entry (stamped_entry e)) v.shown ∙ shows_as v.stored
        ∙ sym (visible_first path layers v.above v.layer v.below v.stored (sym layers_is ∙ v.split) v.stands v.open_)
    view_shows None none =
        sym (none_first path layers (λ e v. false≢true (sym (ap is_some none) ∙ ap is_some (trees.whole path e in_ (subst (λ ess. IsVisible ess path e) (sym layers_is) v)))))

  module _ (valid : IsValidHost host) (is : IsBaseTree host base) where
    shows_within : (items : List SurveyItem) (named : List NamedLayer) (plan : Option Plan) → AreNamedLayers base items named → PlansView host class base items plan → is_in (hierarchies_at class host) path ≡ true → shown_where (lookup (host_after host plan).root path) ≡ shown_first (origins_of path (reverse named ++ base_layer base ∷ []))
    shows_within [] named plan are plans in_ =
        ap shown_where (sym (base_after host class base valid is plan plans path in_)) ∙ sym (base_first path base)
        ∙ ap (λ named. shown_first (origins_of path (reverse named ++ base_layer base ∷ []))) (sym (no_layers base named are))
    shows_within (item ∷ items) named None are plans in_ = absurd (no_items plans.0)
      where
        no_items : item ∷ items ≡ [] → ⊥
        no_items none = cc
    shows_within (item ∷ items) named (Some plan) are plans in_ =
        view_shows (item ∷ items) named plans.images plan.next.root plan.next.lower are plans.are_images plans.trees in_ (lookup plan.next.root path) refl

  -- outside the hierarchies the host shows what it showed
  root_outside : (items : List SurveyItem) (plan : Option Plan) → PlansView host class base items plan → is_in (hierarchies_at class host) path ≡ false → lookup (host_after host plan).root path ≡ lookup host.root path
  root_outside items None plans out = refl
  root_outside [] (Some plan) plans out = plans.1.root_outside path out
  root_outside (item ∷ items) (Some plan) plans out = plans.trees.root_outside path out

pub first_line_shows : OneSurvey → FirstLineShows
first_line_shows one_survey told host base class force path merge origins tells valid is in_ refreshed are =
    let items : are.items ≡ refreshed.items = one_survey told host base class force are.items refreshed.items tells are.surveyed refreshed.surveyed in
    shows_within host class base path valid is (chosen refreshed.items) are.images merge.plan (subst (λ items. AreNamedLayers base (chosen items) are.images) items are.are_images) refreshed.plan in_
    ∙ ap (λ b. shown_first (origins_of path (layers_from_top b are.images base))) (sym in_) ∙ ap shown_first (sym are.lines)

pub first_line_shows_outside : FirstLineShowsOutside
first_line_shows_outside told host base class force path merge origins is out apart refreshed are =
    ap shown_where (root_outside host class base path (chosen refreshed.items) merge.plan refreshed.plan out ∙ sym (is.is_base path ∙ ap (λ b. cond b (lookup host.lower path) (lookup host.root path)) apart))
    ∙ sym (base_first path base)
    ∙ ap (λ b. shown_first (origins_of path (layers_from_top b are.images base))) (sym out) ∙ ap shown_first (sym are.lines)
