-- The parts of images as layers: each image once says what all of them say.
use Rattle.std.proofs.Common.{◌≡◌, ℕ, zero, ◌+◌, ◌<◌, ◌≤◌, Bool, true, false, cond, not, List, [], ◌∷◌, ◌++◌, length, map, drop, get_or, refl, sym, ap, ◌∙◌, subst, arith, append_assoc, append-nil, drop-cons, add-one}
use Rattle.std.specs.Prelude.{reverse}
use Rattle.std.specs.BTreeSet.{BTreeSet, contains}
use Rattle.std.specs.BTreeMap.{is_at}
use Rattle.std.specs.List.{Contains, list_any}
use Rattle.std.proofs.lemmas.Bool.{false≢true}
use Rattle.std.proofs.lemmas.List.{drop_all}
use Rattle.std.proofs.lemmas.List.Elements.{Contains-append_left, Contains-append_right}
use Rattle.ext_text.specs.Path.{path_cmp}
use Rattle.ext_text.specs.Order.{paths_exact}
use Rattle.ext_text.proofs.ForCallers.{is_equal}
use Rattle.ext_tree.specs.Tree.{Entries}
use Rattle.ext_layer.specs.Joining.{SayTheSame, layers_overlay}
use Rattle.ext_layer.proofs.ForCallers.{lower_among}
use Rattle.ext_host.specs.Held.{HeldFile}
use Rattle.ext_view.specs.Parts.{AreAdded, AreEndsOf, AreLayersOf, ArePartsOf, SaysToo, part_below}
use Rattle.ext_view.specs.declared.surveyed.SurveyItem.{SurveyItem}
use Rattle.ext_view.proofs.LayerLemmas.{map_reverse}

-- what is not new was there
pub was_there : (there added : Bool) → added ≡ not there → added ≡ false → there ≡ true
was_there true added is old = refl
was_there false added is old = absurd (false≢true (sym old ∙ is))

module _ (base : Entries HeldFile) (names : List (List ℕ)) where
  -- what the images of items have at the hierarchies
  ends_parts : (items : List SurveyItem) (ends : List (List (List ℕ))) → AreEndsOf base items ends → ArePartsOf base names items (map (part_below base names) ends)
  ends_parts [] [] are = tt
  ends_parts [] (end ∷ ends) are = absurd are
  ends_parts (item ∷ items) [] are = absurd are
  ends_parts (item ∷ items) (end ∷ ends) are = ((end, are.0, refl), ends_parts items ends are.1)

  pub layers_said : (items : List SurveyItem) (ends turned : List (List (List ℕ))) (layers : List (Entries HeldFile)) → AreEndsOf base items ends → turned ≡ reverse ends → SayTheSame layers (map (part_below base names) turned) → AreLayersOf base names items layers
  layers_said items ends turned layers are is same = (
    map (part_below base names) ends,
    ends_parts items ends are,
    λ p. same p ∙ ap (λ ls. layers_overlay ls p) (ap (map (part_below base names)) is ∙ map_reverse (part_below base names) ends),
  )

  -- before any image
  pub added_none : (images : BTreeSet (List (List ℕ))) (layers : List (Entries HeldFile)) → images.keys ≡ [] → AreAdded base names images layers
  added_none images layers none image there = absurd (false≢true (sym (ap (list_any (is_at (path_cmp image))) none) ∙ there))

  pub says_none : (images : List (List (List ℕ))) (layers : List (Entries HeldFile)) → layers ≡ [] → SayTheSame (layers ++ map (part_below base names) (drop 0 images)) (map (part_below base names) images)
  says_none images layers none p = ap (λ ls. layers_overlay (ls ++ map (part_below base names) images) p) none

  -- an image that is new
  module _ (image : List (List ℕ)) (layers more : List (Entries HeldFile)) (is : more ≡ layers ++ part_below base names image ∷ []) where
    own_part : Contains more (part_below base names image)
    own_part = subst (λ ls. Contains ls (part_below base names image)) (sym is) (Contains-append_right layers (part_below base names image ∷ []) (part_below base names image) (zero, omega arith, refl))

    old_part : (part : Entries HeldFile) → Contains layers part → Contains more part
    old_part part among = subst (λ ls. Contains ls part) (sym is) (Contains-append_left layers (part_below base names image ∷ []) part among)

    pub added_more : (old new : BTreeSet (List (List ℕ))) → AreAdded base names old layers → ((q : List (List ℕ)) → contains path_cmp new q ≡ cond (is_at (path_cmp image) q) true (contains path_cmp old q)) → AreAdded base names new more
    added_more old new are updates q there = by_case (is_at (path_cmp image) q) refl (sym (updates q) ∙ there)
      where
        by_case : (b : Bool) → is_at (path_cmp image) q ≡ b → cond b true (contains path_cmp old q) ≡ true → Contains more (part_below base names q)
        by_case true same _ = subst (λ i. Contains more (part_below base names i)) (paths_exact image q (is_equal (path_cmp image q) same)) own_part
        by_case false other in_ = old_part (part_below base names q) (are q in_)

    pub says_more : SaysToo base names image layers more
    says_more lowers p = ap (λ ls. layers_overlay ls p) (ap (λ ls. ls ++ lowers) is ∙ append_assoc layers (part_below base names image ∷ []) lowers)

  -- one that is not
  pub added_again : (old new : BTreeSet (List (List ℕ))) (layers : List (Entries HeldFile)) → new.keys ≡ old.keys → AreAdded base names old layers → AreAdded base names new layers
  added_again old new layers same are q there = are q (sym (ap (list_any (is_at (path_cmp q))) same) ∙ there)

  pub says_again : (image : List (List ℕ)) (images : BTreeSet (List (List ℕ))) (layers : List (Entries HeldFile)) → AreAdded base names images layers → contains path_cmp images image ≡ true → SaysToo base names image layers layers
  says_again image images layers are there lowers p = sym (lower_among layers lowers (part_below base names image) (are image there) p)

  -- what is left after one more image
  pub says_next : (images : List (List (List ℕ))) (i : ℕ) (image : List (List ℕ)) (old new whole : List (Entries HeldFile)) → i < length images → image ≡ get_or images i image → SaysToo base names image old new
      → SayTheSame (old ++ map (part_below base names) (drop i images)) whole → SayTheSame (new ++ map (part_below base names) (drop (i + 1) images)) whole
  says_next images i image old new whole inside is too says p =
      let left : image ∷ drop (i + 1) images ≡ drop i images = (λ j. is j ∷ drop (add-one i j) images) ∙ sym (drop-cons images i image inside) in
      too (map (part_below base names) (drop (i + 1) images)) p ∙ ap (λ ls. layers_overlay (old ++ map (part_below base names) ls) p) left ∙ says p

  -- and after the last
  pub says_all : (images : List (List (List ℕ))) (i : ℕ) (layers whole : List (Entries HeldFile)) → length images ≤ i → SayTheSame (layers ++ map (part_below base names) (drop i images)) whole → SayTheSame layers whole
  says_all images i layers whole end says p =
      sym (ap (λ ls. layers_overlay ls p) (ap (λ ls. layers ++ map (part_below base names) ls) (drop_all i images end) ∙ append-nil layers)) ∙ says p
