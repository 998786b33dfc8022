-- The tree of an image and of its extensions.
use Rattle.std.proofs.Common.{◌≡◌, ◌≢◌, ℕ, ◌≤◌, ◌<◌, true, false, cond, not, List, [], ◌∷◌, ◌++◌, length, map, Option, Some, None, Ok, Err, is_some, refl, sym, ap, ◌∙◌, subst, arith}
use Rattle.std.specs.Prelude.{◌==◌, Result, reverse}
use Rattle.std.specs.FinMap.Entries.{same_entries}
use Rattle.std.specs.List.{AllByRecursion}
use Rattle.std.proofs.lemmas.Bool.{eqb-true, false≢true, true≢false}
use Rattle.std.proofs.lemmas.Float.{T_from_true}
use Rattle.std.proofs.lemmas.List.{map-append}
use Rattle.ext_attributes.specs.Attributes.{OfFile}
use Rattle.ext_text.specs.Order.{paths_exact, paths_total}
use Rattle.ext_text.specs.Path.{path_cmp}
use Rattle.ext_text.specs.declared.which.Which.TheVariants as limits
use Rattle.ext_text.proofs.ForCallers.{all_append}
use Rattle.ext_tree.specs.Joining.{put_all}
use Rattle.ext_tree.specs.Tree.{Entries, IsTree, as_shown, lookup, most_entries}
use Rattle.ext_tree.specs.declared.entry.Entry.{Entry}
use Rattle.ext_tree.specs.declared.entry.Entry.TheVariants.{Dir, Opaque, File, Link, Hide}
use Rattle.ext_tree.proofs.ForCallers.{each_found, length-sum, sorted_put_all, sum_by-put_all}
use Rattle.ext_layer.specs.Layered.{GivesLayered, IsLayered}
use Rattle.ext_layer.specs.declared.errors.LayerErr.{LayerErr}
use Rattle.ext_layer.specs.declared.errors.LayerErr.TheVariants as layer_errors
use Rattle.ext_host.specs.Drawn.{HasFile}
use Rattle.ext_host.specs.Held.{HeldFile}
use Rattle.ext_host.specs.Host.{is_in}
use Rattle.ext_portext.specs.Errors.{portext_err_of_layer}
use Rattle.ext_portext.specs.Laws.{OneUnitTree}
use Rattle.ext_portext.specs.Steps.{FitsTree, GivesUnitTree}
use Rattle.ext_portext.specs.UnitTree.{IsExtended, IsUnitTree, inside_tree, layers_over, outside_tree}
use Rattle.ext_portext.specs.declared.errors.PortExtErr.{PortExtErr}
use Rattle.ext_portext.specs.declared.errors.PortExtErr.TheVariants as errors
use Rattle.ext_portext.specs.declared.extending.Extending.{Extending}
use Rattle.ext_portext.proofs.InsideLemmas.{apart_outside, lookup_replaced, sorted_where, tree_replaced}
use Rattle.ext_portext.proofs.LayerLemmas.{all_mapped, all_reverse, all_split, map_reverse, visible_inside, visible_nowhere, visible_whole}

abbrev tree_of : Extending → Entries HeldFile
tree_of extending = extending.tree

map_twice : {X Y Z : Type 0} (f : X → Y) (g : Y → Z) (xs : List X) → map (λ x. g (f x)) xs ≡ map g (map f xs)
map_twice f g [] = refl
map_twice f g (x ∷ xs) = ap (λ zs. g (f x) ∷ zs) (map_twice f g xs)

-- where nothing can be found there is nothing
none_there : {X : Type 0} (o : Option X) → is_some o ≡ true → ((x : X) → o ≡ Some x → ⊥) → ⊥
none_there None there none = false≢true there
none_there (Some x) there none = none x refl

-- what is found in one is found in the other
same_found : {X : Type 0} (o w : Option X) → ((x : X) → o ≡ Some x → w ≡ Some x) → ((x : X) → w ≡ Some x → o ≡ Some x) → o ≡ w
same_found None None to from = refl
same_found None (Some x) to from = from x refl
same_found (Some x) w to from = sym (to x refl)

module _ (names : List (List ℕ)) (image : Entries HeldFile) (extensions : List Extending) (image_tree : IsTree image) (trees : AllByRecursion (λ (x : Extending). IsTree x.tree) extensions) where
  layers_trees : AllByRecursion IsTree (layers_over image extensions)
  layers_trees =
      all_append IsTree (reverse (map tree_of extensions)) (image ∷ []) (all_reverse IsTree (map tree_of extensions) (all_mapped tree_of IsTree extensions trees)) (image_tree, tt)

  inside_layers : reverse (map (λ (x : Extending). inside_tree names x.tree) extensions) ++ inside_tree names image ∷ [] ≡ map (inside_tree names) (layers_over image extensions)
  inside_layers =
      ap (λ ls. ls ++ inside_tree names image ∷ []) (ap reverse (map_twice tree_of (inside_tree names) extensions) ∙ sym (map_reverse (inside_tree names) (map tree_of extensions)))
      ∙ sym (map-append (inside_tree names) (reverse (map tree_of extensions)) (image ∷ []))

  module _ (view : Entries HeldFile) (given : IsLayered (reverse (map (λ (x : Extending). inside_tree names x.tree) extensions) ++ inside_tree names image ∷ []) view) where
    layered : IsLayered (map (inside_tree names) (layers_over image extensions)) view
    layered = subst (λ ls. IsLayered ls view) inside_layers given

    there_in : (p : List (List ℕ)) → is_some (lookup view p) ≡ true → is_in names p ≡ true
    there_in p there = elim (is_in names p) as (λ b. is_in names p ≡ b → b ≡ true) [
      | true ↦ λ _. refl
      | false ↦ λ out. absurd (none_there (lookup view p) there (λ e found. visible_nowhere names p out (layers_over image extensions) e (layered.visible p e found)))
    ] refl

    all_in : AllByRecursion (λ e. is_in names e.0 ≡ true) view
    all_in = each_found path_cmp paths_total (λ p. is_in names p ≡ true) view there_in

    -- what stands elsewhere in the image, with the view, stands at no path of the view
    pub apart_view : AllByRecursion (λ e. lookup view e.0 ≡ None) (outside_tree names image)
    apart_view = apart_outside names image view all_in

    says : (p : List (List ℕ)) → lookup (put_all (outside_tree names image) view) p ≡ cond (is_in names p) (lookup view p) (lookup image p)
    says p = lookup_replaced names image view p all_in

    there_is : (p : List (List ℕ)) → is_in names p ≡ true → lookup (put_all (outside_tree names image) view) p ≡ lookup view p
    there_is p in_ = says p ∙ ap (λ b. cond b (lookup view p) (lookup image p)) in_

    -- both together are the tree of the image and its extensions
    pub extended : IsExtended names image extensions (put_all (outside_tree names image) view)
    extended = record {
      is_tree = tree_replaced names image view (put_all (outside_tree names image) view) says image_tree layered.tree (sorted_put_all (outside_tree names image) view layered.tree.sorted);
      visible = λ p e in_ found. visible_whole names p in_ (layers_over image extensions) e layers_trees (layered.visible p e (sym (there_is p in_) ∙ found));
      whole = λ p e in_ seen. there_is p in_ ∙ layered.whole p e (visible_inside names p in_ (layers_over image extensions) e seen);
      elsewhere = λ p out. says p ∙ ap (λ b. cond b (lookup view p) (lookup image p)) out;
    }

    -- it has no fewer entries than the view
    longer : length view ≤ length (put_all (outside_tree names image) view)
    longer =
        let sum = sum_by-put_all (λ _. 1) (outside_tree names image) view (sorted_where (λ p. not (is_in names p)) image image_tree.sorted) apart_view in
        omega (arith, sum, length-sum view, length-sum (put_all (outside_tree names image) view))

    unit_tree_of : (xs : List Extending) → (xs ≡ [] → ⊥) → (tree : Entries HeldFile) → IsExtended names image xs tree → IsUnitTree names image xs tree
    unit_tree_of [] some tree is = absurd (some refl)
    unit_tree_of (x ∷ xs) some tree is = is

    module _ (some : extensions ≡ [] → ⊥) where
      -- the tree of the units, or that it is too large
      pub fits_given : (r : Result (Entries HeldFile) PortExtErr) → FitsTree (put_all (outside_tree names image) view) r → GivesUnitTree names image extensions r
      fits_given (Ok tree) (same, few) = (subst (IsUnitTree names image extensions) (sym same) (unit_tree_of extensions some _ extended), subst (λ es. length es ≤ most_entries) (sym same) few)
      fits_given (Err errors.OutOfMemory) fits = tt
      fits_given (Err (errors.Port e)) fits = absurd fits
      fits_given (Err (errors.NoExtension at)) fits = absurd fits
      fits_given (Err (errors.Extension at why)) fits = absurd fits
      fits_given (Err (errors.Limit which)) (is, many) = (is, (put_all (outside_tree names image) view, unit_tree_of extensions some _ extended, many))

      -- so it is where the view alone is
      pub view_too_long : most_entries < length view → GivesUnitTree names image extensions (Err (errors.Limit limits.Entries))
      view_too_long many = (refl, (put_all (outside_tree names image) view, unit_tree_of extensions some _ extended, (let more = longer in omega (arith, many, more))))

  -- where the layering fails there is no tree of the units
  pub view_fails : (extensions ≡ [] → ⊥) → (e : LayerErr) → GivesLayered (reverse (map (λ (x : Extending). inside_tree names x.tree) extensions) ++ inside_tree names image ∷ []) (Err e)
      → GivesUnitTree names image extensions (Err (portext_err_of_layer e))
  view_fails some layer_errors.OutOfMemory gives = tt
  view_fails some layer_errors.Limit (view, given, many) = view_too_long view given some many

-- without extensions it is the image
pub no_extensions : (names : List (List ℕ)) (image : Entries HeldFile) (extensions : List Extending) (tree : Entries HeldFile) → (length extensions == 0) ≡ true → tree ≡ image → length image ≤ most_entries
    → GivesUnitTree names image extensions (Ok tree)
no_extensions names image [] tree none same few = (same, subst (λ (es : Entries HeldFile). length es ≤ most_entries) (sym same) few)
no_extensions names image (x ∷ xs) tree none same few = let zero = eqb-true (length (x ∷ xs)) 0 none in absurd (omega (arith, zero))

pub some_extensions : (extensions : List Extending) → (length extensions == 0) ≡ false → extensions ≢ []
some_extensions extensions some none = true≢false (sym (ap (λ (xs : List Extending). length xs == 0) none) ∙ some)

-- files of the tree of the units

-- a file shows as it is
shown_file : (attributes : OfFile) (held : HeldFile) (stored : Entry HeldFile) → ◌≡◌ {A = Entry HeldFile} (File attributes held) (as_shown stored) → stored ≡ File attributes held
shown_file attributes held (Dir m) is = cc is
shown_file attributes held (Opaque m) is = cc is
shown_file attributes held (File m h) is = sym is
shown_file attributes held (Link owner t) is = cc is
shown_file attributes held Hide is = cc is

module _ (P : HeldFile → Type 0) where
  abbrev HasOnly : Entries HeldFile → Type 0
  HasOnly es = (held : HeldFile) → HasFile es held → P held

  -- what holds of each file of the image and of the extensions holds of each file of their tree
  pub files_hold : (names : List (List ℕ)) (image : Entries HeldFile) (extensions : List Extending) (tree : Entries HeldFile) → IsUnitTree names image extensions tree
      → HasOnly image → AllByRecursion (λ (x : Extending). HasOnly x.tree) extensions → HasOnly tree
  files_hold names image [] tree is of_image of_all held file = of_image held (subst (λ es. HasFile es held) is file)
  files_hold names image (x ∷ xs) tree is of_image of_all held file =
      elim (is_in names file.path) as (λ b. is_in names file.path ≡ b → P held) [
        | true ↦ λ in_.
            let v = is.visible file.path (File file.attributes held) in_ file.stands in
            let each = all_append HasOnly (reverse (map tree_of (x ∷ xs))) (image ∷ []) (all_reverse HasOnly (map tree_of (x ∷ xs)) (all_mapped tree_of HasOnly (x ∷ xs) of_all)) (of_image, tt) in
            let rest = (all_split HasOnly v.above (v.layer ∷ v.below) (subst (AllByRecursion HasOnly) v.split each)).1 in
            rest.0 held (record { path = file.path; attributes = file.attributes; stands = v.stands ∙ ap (λ (e : Entry HeldFile). Some e) (shown_file file.attributes held v.stored v.shown) })
        | false ↦ λ out. of_image held (record { path = file.path; attributes = file.attributes; stands = sym (is.elsewhere file.path out) ∙ file.stands })
      ] refl

-- one tree

one_extended : (names : List (List ℕ)) (image : Entries HeldFile) (extensions : List Extending) (tree other : Entries HeldFile) → IsExtended names image extensions tree → IsExtended names image extensions other
    → (p : List (List ℕ)) → lookup tree p ≡ lookup other p
one_extended names image extensions tree other a b p = elim (is_in names p) as (λ c. is_in names p ≡ c → lookup tree p ≡ lookup other p) [
  | true ↦ λ in_. same_found (lookup tree p) (lookup other p) (λ e found. b.whole p e in_ (a.visible p e in_ found)) (λ e found. a.whole p e in_ (b.visible p e in_ found))
  | false ↦ λ out. a.elsewhere p out ∙ sym (b.elsewhere p out)
] refl

pub one_unit_tree : OneUnitTree
one_unit_tree names image [] tree other a b = a ∙ sym b
one_unit_tree names image (x ∷ xs) tree other a b =
    same_entries path_cmp paths_total paths_exact tree other (T_from_true _ a.is_tree.sorted) (T_from_true _ b.is_tree.sorted) (one_extended names image (x ∷ xs) tree other a b)
