-- What merging, unmerging and refreshing give.
use Rattle.std.specs.Prelude.{◌≡◌, ℕ, ◌<◌, Bool, true, false, List, [], length, Option, Some, None, Result, Ok, Err}
use Rattle.ext_lines.specs.declared.memory.OutOfMemory.{OutOfMemory}
use Rattle.ext_text.specs.declared.extension.Extension.{Extension}
use Rattle.ext_text.specs.declared.which.Which.{Which}
use Rattle.ext_tree.specs.Tree.{Entries}
use Rattle.ext_host.specs.Held.{HeldFile}
use Rattle.ext_host.specs.Limits.{PassLimit}
use Rattle.ext_host.specs.Planning.{IsBaseTree, PlansNext}
use Rattle.ext_host.specs.Shelf.{Told}
use Rattle.ext_host.specs.declared.host.Host.{Host}
use Rattle.ext_host.specs.declared.host.Plan.{Plan}
use Rattle.ext_view.specs.Hierarchies.{is_merged}
use Rattle.ext_view.specs.Surveying.{IsSurveyOf, SurveysAs}
use Rattle.ext_view.specs.View.{AreImagesOf, AreViewTrees, IsMergedHost, IsUnmerged, chosen, names_of}
use Rattle.ext_view.specs.declared.surveyed.SurveyItem.{SurveyItem}
use Rattle.ext_view.specs.declared.errors.ViewErr.{ViewErr}
use Rattle.ext_view.specs.declared.errors.ViewErr.TheVariants as errors
use Rattle.ext_view.specs.declared.outcome.Merge.{Merge}

-- none exactly where the class is not merged
abbrev pub Unmerges : Host → Extension → Result (Option Plan) OutOfMemory → Type 0
Unmerges host class (Ok None) = is_merged class host ≡ false
Unmerges host class (Ok (Some plan)) = (is_merged class host ≡ true) × IsUnmerged host class plan.next
Unmerges host class (Err e) = is_merged class host ≡ true

-- none exactly where nothing is chosen and the class is not merged
abbrev pub PlansView : Host → Extension → Entries HeldFile → List SurveyItem → Option Plan → Type 0
PlansView host class base items None = (items ≡ []) × (is_merged class host ≡ false)
PlansView host class base [] (Some plan) = (is_merged class host ≡ true) × IsMergedHost host class base [] plan.next
PlansView host class base items (Some plan) = IsMergedHost host class base items plan.next

-- the names of the chosen images, and the merged host
pub record IsRefreshed (told : HeldFile → Told) (host : Host) (base : Entries HeldFile) (class : Extension) (force : Bool)
    (merge : Merge) : Type 0 where
  pub items : List SurveyItem
  pub surveyed : IsSurveyOf told host base class force items
  pub names : merge.names ≡ names_of (chosen items)
  pub plan : PlansView host class base (chosen items) merge.plan

-- some image is chosen, and the trees of the merged host pass a limit
pub record IsTooLarge (told : HeldFile → Told) (host : Host) (base : Entries HeldFile) (class : Extension) (force : Bool)
    (which : Which) : Type 0 where
  pub items : List SurveyItem
  pub surveyed : IsSurveyOf told host base class force items
  pub non_empty : 0 < length (chosen items)
  pub images : List (Entries HeldFile)
  pub are_images : AreImagesOf base (chosen items) images
  pub root : Entries HeldFile
  pub lower : Entries HeldFile
  pub trees : AreViewTrees host class base images root lower
  pub passes : PassLimit which root lower

-- by the base of the host: the merged host and its names; or what keeps it from being surveyed; or that it is too large
abbrev pub RefreshesAs : (HeldFile → Told) → ℕ → ℕ → Host → Entries HeldFile → Extension → Bool → Result Merge ViewErr → Type 0
RefreshesAs told old new host base class force (Ok merge) = IsRefreshed told host base class force merge
RefreshesAs told old new host base class force (Err (errors.Limit which)) = IsTooLarge told host base class force which
RefreshesAs told old new host base class force (Err e) = SurveysAs told old new host base class force (Err e)

-- what refreshing a host gives
abbrev pub Refreshes : (HeldFile → Told) → ℕ → ℕ → Host → Extension → Bool → Result Merge ViewErr → Type 0
Refreshes told old new host class force (Err errors.OutOfMemory) = Unit {0}
Refreshes told old new host class force result =
    (base : Entries HeldFile) × IsBaseTree host base × RefreshesAs told old new host base class force result

-- a class that is merged is not merged again
abbrev pub Merges : (HeldFile → Told) → ℕ → ℕ → Host → Extension → Bool → Result Merge ViewErr → Type 0
Merges told old new host class force (Err errors.Merged) = is_merged class host ≡ true
Merges told old new host class force result = (is_merged class host ≡ false) × Refreshes told old new host class force result

-- the plan that merging or refreshing gives, where it gives one
abbrev pub GivesNext : Host → Result Merge ViewErr → Type 0
GivesNext host (Ok merge) = PlansNext host merge.plan
GivesNext host (Err e) = Unit {0}
