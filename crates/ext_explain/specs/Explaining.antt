-- What explaining a path gives. This project's own.
use Rattle.std.specs.Prelude.{◌≡◌, ◌≢◌, ℕ, Bool, List, [], Result, Ok, Err}
use Rattle.ext_text.specs.declared.extension.Extension.{Extension}
use Rattle.ext_tree.specs.Tree.{Entries}
use Rattle.ext_host.specs.Held.{HeldFile}
use Rattle.ext_host.specs.Host.{is_in}
use Rattle.ext_host.specs.Planning.{IsBaseTree}
use Rattle.ext_host.specs.Shelf.{Told}
use Rattle.ext_host.specs.declared.host.Host.{Host}
use Rattle.ext_view.specs.Hierarchies.{hierarchies_at}
use Rattle.ext_view.specs.Surveying.{IsSurveyOf, Surveys}
use Rattle.ext_view.specs.View.{chosen}
use Rattle.ext_view.specs.declared.surveyed.SurveyItem.{SurveyItem}
use Rattle.ext_origin.specs.declared.origin.Origin.{Origin}
use Rattle.ext_explain.specs.Layers.{AreNamedLayers, NamedLayer, layers_from_top, origins_of}
use Rattle.ext_explain.specs.declared.errors.ExplainErr.{ExplainErr}
use Rattle.ext_explain.specs.declared.errors.ExplainErr.TheVariants as errors

-- the lines of the layers of the view that a refresh would show: those of the chosen images, and of the base
pub record AreOrigins (told : HeldFile → Told) (host : Host) (base : Entries HeldFile) (class : Extension) (force : Bool)
    (path : List (List ℕ)) (origins : List Origin) : Type 0 where
  pub items : List SurveyItem
  pub surveyed : IsSurveyOf told host base class force items
  pub images : List NamedLayer
  pub are_images : AreNamedLayers base (chosen items) images
  pub lines : origins ≡ origins_of path (layers_from_top (is_in (hierarchies_at class host) path) images base)

-- those, where there are some; or that there are none, of a host that is surveyed; or what keeps it from being surveyed
abbrev pub Explains : (HeldFile → Told) → ℕ → ℕ → Host → Extension → Bool → List (List ℕ) → Result (List Origin) ExplainErr → Type 0
Explains told old new host class force path (Ok origins) =
    (base : Entries HeldFile) × IsBaseTree host base × AreOrigins told host base class force path origins × (origins ≢ [])
Explains told old new host class force path (Err errors.NoEntry) =
    (base : Entries HeldFile) × IsBaseTree host base × AreOrigins told host base class force path []
Explains told old new host class force path (Err (errors.Survey e)) = Surveys told old new host class force (Err e)
