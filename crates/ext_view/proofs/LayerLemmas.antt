-- What is visible of layers at some names depends on what the layers have there alone.
use Rattle.std.proofs.Common.{◌≡◌, ℕ, true, false, not, List, [], ◌∷◌, ◌++◌, map, Option, Some, None, Ok, Err, is_some, refl, sym, ap, ◌∙◌, subst}
use Rattle.std.specs.Prelude.{reverse}
use mathlib.Core.Logic.{inl, inr}
use Rattle.std.proofs.lemmas.Bool.{false≢true}
use Rattle.std.proofs.lemmas.List.{map-append, reverse-append}
use Rattle.std.specs.List.{AllByRecursion}
use Rattle.ext_text.specs.Path.{is_prefix, is_proper_prefix}
use Rattle.std.proofs.lemmas.Bool.{and_parts}
use Rattle.ext_text.proofs.ForCallers.{all_append, all_weaker}
use Rattle.ext_tree.specs.Part.{part}
use Rattle.ext_tree.specs.Tree.{Entries, IsTree, lookup}
use Rattle.ext_tree.specs.declared.entry.Entry.{Entry}
use Rattle.ext_tree.proofs.ForCallers.{tree_part}
use Rattle.ext_layer.specs.Layered.{CutsOff, GivesLayered, IsLayered, IsVisible, cuts_below}
use Rattle.ext_layer.proofs.ForCallers.{layered_same, same_over}
use Rattle.ext_layer.specs.declared.errors.LayerErr.{LayerErr}
use Rattle.ext_layer.specs.declared.errors.LayerErr.TheVariants as layer_errors
use Rattle.ext_host.specs.Held.{HeldFile}
use Rattle.ext_host.specs.Host.{is_in}
use Rattle.ext_view.specs.Inside.{inside}
use Rattle.ext_view.specs.Errors.{of_layer}
use Rattle.ext_view.specs.Layering.{GivesView, HasViewOf, IsView}
use Rattle.ext_view.specs.Parts.{AreLayersOf, ArePartsOf}
use Rattle.ext_view.specs.View.{AreImagesOf}
use Rattle.ext_view.specs.declared.surveyed.SurveyItem.{SurveyItem}
use Rattle.ext_view.proofs.InsideLemmas.{found_inside, in_prefix, in_root, none_inside}

-- where a mapped list is split, the list is
record IsSplit {X Y : Type 0} (f : X → Y) (xs : List X) (above : List Y) (y : Y) : Type 0 where
  uppers : List X
  layer : X
  lowers : List X
  whole : xs ≡ uppers ++ layer ∷ lowers
  above_is : map f uppers ≡ above
  layer_is : f layer ≡ y

split_map : {X Y : Type 0} (f : X → Y) (xs : List X) (above : List Y) (y : Y) (below : List Y) → map f xs ≡ above ++ y ∷ below → IsSplit f xs above y
split_map f [] [] y below is = cc
split_map f [] (a ∷ above) y below is = cc
split_map f (x ∷ xs) [] y below is = record { uppers = []; layer = x; lowers = xs; whole = refl; above_is = refl; layer_is = (cc) }
split_map f (x ∷ xs) (a ∷ above) y below is =
    let first : f x ≡ a = cc in
    let rest : map f xs ≡ above ++ y ∷ below = cc in
    let s = split_map f xs above y below rest in
    record { uppers = x ∷ s.uppers; layer = s.layer; lowers = s.lowers; whole = ap (λ l. x ∷ l) s.whole; above_is = (λ i. first i ∷ s.above_is i); layer_is = s.layer_is }

-- what holds of each of a mapped list
all_unmapped : {X Y : Type 0} (f : X → Y) (P : Y → Type 0) (xs : List X) → AllByRecursion P (map f xs) → AllByRecursion (λ x. P (f x)) xs
all_unmapped f P [] all = tt
all_unmapped f P (x ∷ xs) all = (all.0, all_unmapped f P xs all.1)

all_mapped : {X Y : Type 0} (f : X → Y) (P : Y → Type 0) (xs : List X) → AllByRecursion (λ x. P (f x)) xs → AllByRecursion P (map f xs)
all_mapped f P [] all = tt
all_mapped f P (x ∷ xs) all = (all.0, all_mapped f P xs all.1)

all_split : {X : Type 0} (P : X → Type 0) (xs ys : List X) → AllByRecursion P (xs ++ ys) → AllByRecursion P xs × AllByRecursion P ys
all_split P [] ys all = (tt, all)
all_split P (x ∷ xs) ys all = let rest = all_split P xs ys all.1 in ((all.0, rest.0), rest.1)

all_two : {X : Type 0} (P Q S : X → Type 0) → ((x : X) → P x → Q x → S x) → (xs : List X) → AllByRecursion P xs → AllByRecursion Q xs → AllByRecursion S xs
all_two P Q S both [] p q = tt
all_two P Q S both (x ∷ xs) p q = (both x p.0 q.0, all_two P Q S both xs p.1 q.1)

-- a proper prefix is a prefix
prefix_of : (q p : List (List ℕ)) → is_proper_prefix q p ≡ true → is_prefix q p ≡ true
prefix_of q p proper = (and_parts (is_prefix q p) (not (is_prefix p q)) proper).0

module _ {C : Type 0} (names : List (List ℕ)) (p : List (List ℕ)) (in_ : is_in names p ≡ true) where
  -- what stands at the prefixes of the path, but for the root, stands inside the names too
  cut_inside : (es : Entries C) → lookup es [] ≡ None → CutsOff es p → CutsOff (inside names es) p
  cut_inside es root (inl there) = inl (ap is_some (found_inside names p es in_) ∙ there)
  cut_inside es root (inr ([], proper, cuts)) = absurd (false≢true (sym (ap cuts_below root) ∙ cuts))
  cut_inside es root (inr (m ∷ q, proper, cuts)) =
      inr (m ∷ q, proper, ap cuts_below (found_inside names (m ∷ q) es (in_prefix names m q p (prefix_of (m ∷ q) p proper) ∙ in_)) ∙ cuts)

  cut_whole : (es : Entries C) → CutsOff (inside names es) p → CutsOff es p
  cut_whole es (inl there) = inl (sym (ap is_some (found_inside names p es in_)) ∙ there)
  cut_whole es (inr ([], proper, cuts)) = absurd (false≢true (sym (ap cuts_below (none_inside names [] es (in_root names))) ∙ cuts))
  cut_whole es (inr (m ∷ q, proper, cuts)) =
      inr (m ∷ q, proper, sym (ap cuts_below (found_inside names (m ∷ q) es (in_prefix names m q p (prefix_of (m ∷ q) p proper) ∙ in_))) ∙ cuts)

  pub visible_whole : (layers : List (Entries C)) (e : Entry C) → AllByRecursion IsTree layers → IsVisible (map (inside names) layers) p e → IsVisible layers p e
  visible_whole layers e trees v =
      let s = split_map (inside names) layers v.above v.layer v.below v.split in
      let trees_above = (all_split IsTree s.uppers (s.layer ∷ s.lowers) (subst (AllByRecursion IsTree) s.whole trees)).0 in
      record {
        above = s.uppers;
        layer = s.layer;
        below = s.lowers;
        split = s.whole;
        stored = v.stored;
        stands = sym (found_inside names p s.layer in_) ∙ ap (λ es. lookup es p) s.layer_is ∙ v.stands;
        no_hide = v.no_hide;
        shown = v.shown;
        open_ = all_two IsTree (λ es. CutsOff (inside names es) p → ⊥) (λ es. CutsOff es p → ⊥) (λ es tree open_ cuts. open_ (cut_inside es tree.root cuts)) s.uppers trees_above
            (all_unmapped (inside names) (λ es. CutsOff es p → ⊥) s.uppers (subst (AllByRecursion (λ es. CutsOff es p → ⊥)) (sym s.above_is) v.open_));
      }

  pub visible_inside : (layers : List (Entries C)) (e : Entry C) → IsVisible layers p e → IsVisible (map (inside names) layers) p e
  visible_inside layers e v = record {
    above = map (inside names) v.above;
    layer = inside names v.layer;
    below = map (inside names) v.below;
    split = ap (map (inside names)) v.split ∙ map-append (inside names) v.above (v.layer ∷ v.below);
    stored = v.stored;
    stands = found_inside names p v.layer in_ ∙ v.stands;
    no_hide = v.no_hide;
    shown = v.shown;
    open_ = all_mapped (inside names) (λ es. CutsOff es p → ⊥) v.above (all_weaker (λ es. CutsOff es p → ⊥) (λ es. CutsOff (inside names es) p → ⊥) (λ es open_ cuts. open_ (cut_whole es cuts)) v.above v.open_);
  }

-- nothing is visible elsewhere
visible_nowhere : {C : Type 0} (names : List (List ℕ)) (p : List (List ℕ)) → is_in names p ≡ false → (layers : List (Entries C)) (e : Entry C) → IsVisible (map (inside names) layers) p e → ⊥
visible_nowhere names p out layers e v =
    let s = split_map (inside names) layers v.above v.layer v.below v.split in
    false≢true (sym (ap is_some (none_inside names p s.layer out)) ∙ ap (λ es. is_some (lookup es p)) s.layer_is ∙ ap is_some v.stands)

-- the layers are what some images have inside the names
images_of : (base : Entries HeldFile) (names : List (List ℕ)) (items : List SurveyItem) (parts : List (Entries HeldFile)) → ArePartsOf base names items parts → (images : List (Entries HeldFile)) × AreImagesOf base items images × (parts ≡ map (inside names) images)
images_of base names [] [] are = ([], tt, refl)
images_of base names [] (layer ∷ parts) are = absurd are
images_of base names (item ∷ items) [] are = absurd are
images_of base names (item ∷ items) (layer ∷ parts) are =
    let rest = images_of base names items parts are.1 in
    let layer = are.0 in
    (part layer.0 base ∷ rest.0, ((layer.0, layer.1, refl), rest.1), (λ i. layer.2 i ∷ rest.2 i))

trees_of : (base : Entries HeldFile) (items : List SurveyItem) (images : List (Entries HeldFile)) → IsTree base → AreImagesOf base items images → AllByRecursion IsTree images
trees_of base [] [] tree are = tt
trees_of base [] (image ∷ images) tree are = absurd are
trees_of base (item ∷ items) [] tree are = absurd are
trees_of base (item ∷ items) (image ∷ images) tree are = (subst IsTree (sym are.0.2) (tree_part are.0.0 base tree), trees_of base items images tree are.1)

reverse_cons : {X : Type 0} (x : X) (xs : List X) → reverse (x ∷ xs) ≡ reverse xs ++ x ∷ []
reverse_cons x xs = reverse-append (x ∷ []) xs

pub all_reverse : {X : Type 0} (P : X → Type 0) (xs : List X) → AllByRecursion P xs → AllByRecursion P (reverse xs)
all_reverse P [] all = tt
all_reverse P (x ∷ xs) all = subst (AllByRecursion P) (sym (reverse_cons x xs)) (all_append P (reverse xs) (x ∷ []) (all_reverse P xs all.1) (all.0, tt))

pub map_reverse : {X Y : Type 0} (f : X → Y) (xs : List X) → map f (reverse xs) ≡ reverse (map f xs)
map_reverse f [] = refl
map_reverse f (x ∷ xs) =
    ap (map f) (reverse_cons x xs) ∙ map-append f (reverse xs) (x ∷ []) ∙ ap (λ ys. ys ++ f x ∷ []) (map_reverse f xs) ∙ sym (reverse_cons (f x) (map f xs))

module _ (names : List (List ℕ)) (base : Entries HeldFile) (items : List SurveyItem) (tree : IsTree base) where
  -- what is layered of the layers over what the base has inside the names is the view
  layered_view : (images : List (Entries HeldFile)) (view : Entries HeldFile) → AreImagesOf base items images → IsLayered (map (inside names) (reverse images ++ base ∷ [])) view → IsView names base images view
  layered_view images view are layered =
      let layers = reverse images ++ base ∷ [] in
      let trees : AllByRecursion IsTree layers = all_append IsTree (reverse images) (base ∷ []) (all_reverse IsTree images (trees_of base items images tree are)) (tree, tt) in
      record {
        tree = layered.tree;
        within = λ p out. none_of (lookup view p) (λ e there. visible_nowhere names p out layers e (layered.visible p e there));
        visible = λ p e in_ there. visible_whole names p in_ layers e trees (layered.visible p e there);
        whole = λ p e in_ seen. layered.whole p e (visible_inside names p in_ layers e seen);
      }
    where
      none_of : (o : Option (Entry HeldFile)) → ((e : Entry HeldFile) → o ≡ Some e → ⊥) → o ≡ None
      none_of None none = refl
      none_of (Some e) none = absurd (none e refl)

  layers_are : (parts images : List (Entries HeldFile)) → parts ≡ map (inside names) images → reverse parts ++ inside names base ∷ [] ≡ map (inside names) (reverse images ++ base ∷ [])
  layers_are parts images parts_are =
      ap (λ ls. ls ++ inside names base ∷ []) (ap reverse parts_are ∙ sym (map_reverse (inside names) images))
      ∙ sym (map-append (inside names) (reverse images) (base ∷ []))

  has_view : (layers : List (Entries HeldFile)) → AreLayersOf base names items layers → (view : Entries HeldFile) → IsLayered (layers ++ inside names base ∷ []) view → HasViewOf names base items view
  has_view layers are view layered =
      let of = images_of base names items are.0 are.1 in
      let under = inside names base ∷ [] in
      let whole : IsLayered (reverse are.0 ++ under) view = layered_same (layers ++ under) (reverse are.0 ++ under) view (same_over layers (reverse are.0) under are.2) layered in
      record {
        images = of.0;
        are_images = of.1;
        is_view = layered_view of.0 view of.1 (subst (λ ls. IsLayered ls view) (layers_are are.0 of.0 of.2) whole);
      }

  -- what layering gives is the view, or one with too many entries
  pub view_given : (layers : List (Entries HeldFile)) → AreLayersOf base names items layers → (view : Entries HeldFile) → GivesLayered (layers ++ inside names base ∷ []) (Ok view) → HasViewOf names base items view
  view_given layers are view gives = has_view layers are view gives.0

  pub view_fails : (layers : List (Entries HeldFile)) → AreLayersOf base names items layers → (e : LayerErr) → GivesLayered (layers ++ inside names base ∷ []) (Err e) → GivesView names base items (Err (of_layer e))
  view_fails layers are layer_errors.OutOfMemory gives = tt
  view_fails layers are layer_errors.Limit gives = (refl, (gives.0, has_view layers are gives.0 gives.1, gives.2))
