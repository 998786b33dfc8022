-- The lines of layers: in their order, from the top, and with that of the base.
use Rattle.std.proofs.Common.{◌≡◌, ℕ, ◌<◌, ◌+◌, Bool, false, cond, List, [], ◌∷◌, ◌++◌, length, take, get_or, Option, Some, None, refl, sym, ap, ◌∙◌, subst, append-nil}
use Rattle.std.specs.Prelude.{reverse}
use Rattle.std.proofs.lemmas.List.{flat_map_more, reverse-append, take_more}
use Rattle.std.specs.List.{AllByRecursion}
use Rattle.ext_tree.specs.Part.{part}
use Rattle.ext_tree.specs.Tree.{Entries}
use Rattle.ext_walk.specs.Walk.{Ends}
use Rattle.ext_host.specs.Held.{HeldFile}
use Rattle.ext_view.specs.Parts.{LeadsItem}
use Rattle.ext_view.specs.declared.surveyed.SurveyItem.{SurveyItem}
use Rattle.ext_view.proofs.ForCallers.{matched_push}
use Rattle.ext_origin.specs.declared.origin.Finding.{Finding}
use Rattle.ext_origin.specs.declared.origin.Layer.{Layer}
use Rattle.ext_origin.specs.declared.origin.Layer.TheVariants.{Image}
use Rattle.ext_origin.specs.declared.origin.Origin.{Origin}
use Rattle.ext_explain.specs.Adding.{HaveImageLines, HaveLinesFromTop, HaveLinesInOrder}
use Rattle.ext_explain.specs.Finding.{finding_of}
use Rattle.ext_explain.specs.Layers.{AreNamedLayers, IsLayerOf, NamedLayer, origin_of, origin_where, origins_of}

-- one layer's lines, of which there is one at most, are the same the other way round
turned_one : (path : List (List ℕ)) (named : NamedLayer) → reverse (origin_of path named) ≡ origin_of path named
turned_one path named = by_finding (finding_of named.entries path)
  where
    by_finding : (o : Option Finding) → reverse (origin_where named.layer o) ≡ origin_where named.layer o
    by_finding None = refl
    by_finding (Some finding) = refl

-- a layer of which nothing is found has no line, and one of which something is has one
pub no_line : (path : List (List ℕ)) (named : NamedLayer) (old : List Origin) → finding_of named.entries path ≡ None → old ≡ old ++ origin_of path named
no_line path named old none = sym (append-nil old) ∙ ap (λ o. old ++ origin_where named.layer o) (sym none)

pub line_found : (path : List (List ℕ)) (named : NamedLayer) (layer : Layer) (finding : Finding) → named.layer ≡ layer → finding_of named.entries path ≡ Some finding → origin_where layer (Some finding) ≡ origin_of path named
line_found path named layer finding is there = λ i. origin_where (sym is i) (sym there i)

lines_push : (path : List (List ℕ)) (layers : List NamedLayer) (named : NamedLayer) → origins_of path layers ++ origin_of path named ≡ origins_of path (layers ++ named ∷ [])
lines_push path layers named = flat_map_more (origin_of path) [] layers named

-- so the lines of layers, turned, are those of the layers, turned
pub turned_lines : (path : List (List ℕ)) (layers : List NamedLayer) → reverse (origins_of path layers) ≡ origins_of path (reverse layers)
turned_lines path [] = refl
turned_lines path (named ∷ layers) =
    reverse-append (origin_of path named) (origins_of path layers)
    ∙ (λ i. turned_lines path layers i ++ turned_one path named i)
    ∙ lines_push path (reverse layers) named
    ∙ ap (origins_of path) (sym (reverse-append (named ∷ []) layers))

module _ (base : Entries HeldFile) where
  -- the layer of an image that has this end
  pub layer_at : (item : SurveyItem) (end : List (List ℕ)) → Ends base item.place end → IsLayerOf base item (record { layer = Image item.name; entries = part end base })
  layer_at item end ends = record { layer = refl; image = (end, ends, refl) }

  -- images that lead somewhere have layers
  pub layers_there : (items : List SurveyItem) → AllByRecursion (LeadsItem base) items → (images : List NamedLayer) × AreNamedLayers base items images
  layers_there [] lead = ([], tt)
  layers_there (item ∷ items) lead =
      let rest = layers_there items lead.1 in
      (record { layer = Image item.name; entries = part lead.0.0 base } ∷ rest.0, (layer_at item lead.0.0 lead.0.1, rest.1))

  -- the lines of one image more
  pub lines_more : (items : List SurveyItem) (i : ℕ) (item : SurveyItem) (path : List (List ℕ)) (old new : List Origin) → i < length items → item ≡ get_or items i item → HaveLinesInOrder base (take i items) path old
      → (named : NamedLayer) → IsLayerOf base item named → new ≡ old ++ origin_of path named → HaveLinesInOrder base (take (i + 1) items) path new
  lines_more items i item path old new within is have named layer adds =
      let more : take (i + 1) items ≡ take i items ++ item ∷ [] = take_more items i item within ∙ ap (λ x. take i items ++ x ∷ []) (sym is) in (
        have.0 ++ named ∷ [],
        subst (λ xs. AreNamedLayers base xs (have.0 ++ named ∷ [])) (sym more) (matched_push (IsLayerOf base) (take i items) have.0 item named have.1 layer),
        adds ∙ ap (λ lines. lines ++ origin_of path named) have.2 ∙ lines_push path have.0 named,
      )

  -- the lines turned
  pub lines_turned : (items : List SurveyItem) (path : List (List ℕ)) (origins turned : List Origin) → HaveLinesInOrder base items path origins → turned ≡ reverse origins → HaveLinesFromTop base items path turned
  lines_turned items path origins turned have is = (have.0, have.1, is ∙ ap reverse have.2 ∙ turned_lines path have.0)

  -- where the path is not in the hierarchies
  pub lines_outside : (inside : Bool) (items : List SurveyItem) (path : List (List ℕ)) (origins : List Origin) → inside ≡ false → AllByRecursion (LeadsItem base) items → origins ≡ [] → HaveImageLines base inside items path origins
  lines_outside inside items path origins out lead none =
      let there = layers_there items lead in
      (there.0, there.1, none ∙ ap (λ b. cond b (origins_of path (reverse there.0)) []) (sym out))
