-- How the lines of a path are made, layer by layer.
use Rattle.std.specs.Prelude.{◌≡◌, ◌≢◌, ℕ, Bool, List, [], ◌++◌, reverse, if◌then◌else◌, Result, Ok, Err}
use Rattle.ext_tree.specs.Tree.{Entries}
use Rattle.ext_host.specs.Held.{HeldFile}
use Rattle.ext_view.specs.declared.surveyed.SurveyItem.{SurveyItem}
use Rattle.ext_origin.specs.declared.origin.Origin.{Origin}
use Rattle.ext_explain.specs.Layers.{AreNamedLayers, IsLayerOf, NamedLayer, layers_from_top, origin_of, origins_of}
use Rattle.ext_explain.specs.declared.errors.ExplainErr.{ExplainErr}
use Rattle.ext_explain.specs.declared.errors.ExplainErr.TheVariants as errors

-- the line of an image was added, where it has one
abbrev pub AddsLineOf : Entries HeldFile → SurveyItem → List (List ℕ) → List Origin → List Origin → Type 0
AddsLineOf base item path old new = (named : NamedLayer) × IsLayerOf base item named × (new ≡ old ++ origin_of path named)

-- the lines of some images, in their order
abbrev pub HaveLinesInOrder : Entries HeldFile → List SurveyItem → List (List ℕ) → List Origin → Type 0
HaveLinesInOrder base items path origins =
    (images : List NamedLayer) × AreNamedLayers base items images × (origins ≡ origins_of path images)

-- the same, the last image first
abbrev pub HaveLinesFromTop : Entries HeldFile → List SurveyItem → List (List ℕ) → List Origin → Type 0
HaveLinesFromTop base items path origins =
    (images : List NamedLayer) × AreNamedLayers base items images × (origins ≡ origins_of path (reverse images))

-- those, where the path is in the hierarchies, and else none
abbrev pub HaveImageLines : Entries HeldFile → Bool → List SurveyItem → List (List ℕ) → List Origin → Type 0
HaveImageLines base inside items path origins =
    (images : List NamedLayer) × AreNamedLayers base items images × (origins ≡ (if inside then origins_of path (reverse images) else []))

-- the lines of all layers
abbrev pub HaveLines : Entries HeldFile → Bool → List SurveyItem → List (List ℕ) → List Origin → Type 0
HaveLines base inside items path origins =
    (images : List NamedLayer) × AreNamedLayers base items images × (origins ≡ origins_of path (layers_from_top inside images base))

-- the lines, of which there is one at least; or that there is none
abbrev pub SomeOrNone : List Origin → Result (List Origin) ExplainErr → Type 0
SomeOrNone origins (Ok lines) = (lines ≡ origins) × (origins ≢ [])
SomeOrNone origins (Err errors.NoEntry) = origins ≡ []
SomeOrNone origins (Err (errors.Survey e)) = ⊥
