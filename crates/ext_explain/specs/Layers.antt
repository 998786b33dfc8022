-- The layers of a view, and the lines that they have of a path.
use Rattle.std.specs.Prelude.{◌≡◌, ℕ, Bool, List, [], ◌∷◌, ◌++◌, reverse, if◌then◌else◌, Option, Some, None}
use Rattle.std.specs.List.{flat_map}
use Rattle.ext_tree.specs.Tree.{Entries}
use Rattle.ext_host.specs.Held.{HeldFile}
use Rattle.ext_view.specs.Matched.{AreMatched}
use Rattle.ext_view.specs.View.{IsImageOf}
use Rattle.ext_view.specs.declared.surveyed.SurveyItem.{SurveyItem}
use Rattle.ext_origin.specs.declared.origin.Finding.{Finding}
use Rattle.ext_origin.specs.declared.origin.Layer.{Layer}
use Rattle.ext_origin.specs.declared.origin.Layer.TheVariants.{Image, Base}
use Rattle.ext_origin.specs.declared.origin.Origin.{Origin}
use Rattle.ext_explain.specs.Finding.{finding_of}

-- a layer with what it has
pub record NamedLayer : Type 0 where
  pub layer : Layer
  pub entries : Entries HeldFile

-- the layer of an image
pub record IsLayerOf (base : Entries HeldFile) (item : SurveyItem) (named : NamedLayer) : Type 0 where
  pub layer : named.layer ≡ Image item.name
  pub image : IsImageOf base item named.entries

-- the layers of images, in their order
abbrev pub AreNamedLayers : Entries HeldFile → List SurveyItem → List NamedLayer → Type 0
AreNamedLayers base items images = AreMatched (IsLayerOf base) items images

-- the layer that lies under all images
abbrev pub base_layer : Entries HeldFile → NamedLayer
base_layer base = record { layer = Base; entries = base }

-- the layers of a view, the topmost first: at its hierarchies the images, the last on top, and then the base, and elsewhere
-- the base alone
abbrev pub layers_from_top : Bool → List NamedLayer → Entries HeldFile → List NamedLayer
layers_from_top inside images base = if inside then reverse images ++ base_layer base ∷ [] else base_layer base ∷ []

-- the line of a layer, where it has one
abbrev pub origin_where : Layer → Option Finding → List Origin
origin_where layer None = []
origin_where layer (Some finding) = record { layer = layer; finding = finding } ∷ []

-- the line of a layer that has an entry at the path, or hides there what lower layers have
abbrev pub origin_of : List (List ℕ) → NamedLayer → List Origin
origin_of path named = origin_where named.layer (finding_of named.entries path)

-- the lines of some layers, in their order
abbrev pub origins_of : List (List ℕ) → List NamedLayer → List Origin
origins_of path layers = flat_map (origin_of path) layers
