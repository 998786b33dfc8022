-- The commands `sysext` and `confext`, after systemd-sysext(8): what the host has of the class, what is merged of it, and the
-- host with another view or with none. This project's own are what a refresh would change, and where a path of what it would show
-- comes from. The refusals, the first that holds, in this order, which is this project's own too: the class is merged, to `merge`
-- alone; the host has no release file; it is faulty; the merged host would pass a limit; to `explain` alone, no layer has an entry
-- at the path, nor hides what is there.
use Rattle.std.specs.Prelude.{◌≡◌, ◌≢◌, ◌⊎◌, ℕ, Bool, true, false, List, [], map, Option, Some, None, Ok}
use Rattle.ext_text.specs.declared.extension.Extension.{Extension}
use Rattle.ext_tree.specs.Tree.{Entries}
use Rattle.ext_host.specs.Held.{HeldFile}
use Rattle.ext_host.specs.Host.{merged_names, present}
use Rattle.ext_host.specs.Shelf.{Told}
use Rattle.ext_host.specs.declared.host.Host.{Host}
use Rattle.ext_host.specs.declared.host.Plan.{Plan}
use Rattle.ext_host.specs.Planning.{IsBaseTree, PlansNext}
use Rattle.ext_release.specs.Release.{IsFirstFault}
use Rattle.ext_find.specs.HostRelease.{ReleaseFileAt}
use Rattle.ext_view.specs.Hierarchies.{is_merged}
use Rattle.ext_view.specs.Merging.{IsRefreshed, IsTooLarge, Unmerges}
use Rattle.ext_view.specs.Surveying.{HasHostRelease, IsSurveyOf}
use Rattle.ext_view.specs.declared.outcome.Merge.{Merge}
use Rattle.ext_view.specs.declared.surveyed.SurveyItem.{SurveyItem}
use Rattle.ext_view.specs.declared.surveyed.SurveyKind.{SurveyKind}
use Rattle.ext_view.specs.declared.surveyed.SurveyKind.TheVariants as surveyed
use Rattle.ext_changes.specs.Changes as changes
use Rattle.ext_origin.specs.declared.origin.Origin.{Origin}
use Rattle.ext_explain.specs.Explaining.{AreOrigins}
use Rattle.ext_explain.specs.ViewChanges.{AreViewChanges}
use Rattle.ext_cmd.specs.declared.answer.Answer.{Answer}
use Rattle.ext_cmd.specs.declared.answer.Answer.TheVariants as answers
use Rattle.ext_cmd.specs.declared.answer.Item.{Item}
use Rattle.ext_cmd.specs.declared.answer.ItemKind.{ItemKind}
use Rattle.ext_cmd.specs.declared.answer.ItemKind.TheVariants as kinds
use Rattle.ext_cmd.specs.declared.command.ViewCommand.{ViewCommand}
use Rattle.ext_cmd.specs.declared.command.ViewCommand.TheVariants as views
use Rattle.ext_cmd.specs.declared.refusal.Refusal.{Refusal}
use Rattle.ext_cmd.specs.declared.refusal.Refusal.TheVariants as refusals
use Rattle.ext_intents.specs.declared.intent.Intent.{Intent}
use Rattle.ext_intents.specs.declared.intent.Intent.TheVariants.{Changes, Answers, Refuses}

-- what `list` says of an item
abbrev pub listed_kind : SurveyKind → ItemKind
listed_kind surveyed.Masked = kinds.Masked
listed_kind surveyed.Raw = kinds.Raw
listed_kind (surveyed.Broken why) = kinds.Broken why
listed_kind (surveyed.BadRelease line) = kinds.BadRelease line
listed_kind (surveyed.Image verdict) = kinds.Image verdict

-- the item of one that was surveyed
abbrev pub listed_item : SurveyItem → Item
listed_item item = record { name = item.name; place = item.place; kind = listed_kind item.kind }

-- why the extensions of a host with this base are not looked at
abbrev pub IsNotSurveyed : (HeldFile → Told) → Entries HeldFile → Refusal → Type 0
IsNotSurveyed told base refusals.NoHostRelease = ReleaseFileAt base None
IsNotSurveyed told base (refusals.BadHostRelease line) = (bytes : List ℕ) × HasHostRelease told base bytes × IsFirstFault bytes line
IsNotSurveyed told base _ = ⊥

-- each item that is found in the base, and the verdicts on images that can be used
abbrev pub ListWantsOf : Host → (HeldFile → Told) → Entries HeldFile → Extension → Intent → Type 0
ListWantsOf host told base class intent =
    ((items : List SurveyItem) × IsSurveyOf told host base class false items × (intent ≡ Answers (answers.Found (map listed_item items))))
    ⊎ ((refusal : Refusal) × IsNotSurveyed told base refusal × (intent ≡ Refuses refusal))

-- what `list` wants of a host
abbrev pub ListWants : Host → (HeldFile → Told) → Extension → Intent → Type 0
ListWants host told class intent = (base : Entries HeldFile) × IsBaseTree host base × ListWantsOf host told base class intent

-- the names that are merged, or that none are
abbrev pub merged_told : Option (List (List ℕ)) → Answer
merged_told None = answers.Unmerged
merged_told (Some names) = answers.Merged names

-- the answer of `status`
abbrev pub status_intent : Host → Extension → Intent
status_intent host class = Answers (merged_told (merged_names class (present host)))

-- the host that is planned, where one is; else there is the answer alone
abbrev pub planned : Option Plan → Answer → Intent
planned None answer = Answers answer
planned (Some plan) answer = Changes plan.next answer

-- why there is no merged host
abbrev pub IsNotRefreshed : Host → (HeldFile → Told) → Entries HeldFile → Extension → Bool → Refusal → Type 0
IsNotRefreshed host told base class force (refusals.Limit which) = IsTooLarge told host base class force which
IsNotRefreshed host told base class force refusal = IsNotSurveyed told base refusal

-- the merged host, where it is within the limits, and the names of its images, the lowest first
abbrev pub RefreshWantsOf : Host → (HeldFile → Told) → Entries HeldFile → Extension → Bool → Intent → Type 0
RefreshWantsOf host told base class force intent =
    ((merge : Merge) × IsRefreshed told host base class force merge × PlansNext host merge.plan
    × (intent ≡ planned merge.plan (answers.Merged merge.names)))
    ⊎ ((refusal : Refusal) × IsNotRefreshed host told base class force refusal × (intent ≡ Refuses refusal))

-- what `refresh` wants of a host
abbrev pub RefreshWants : Host → (HeldFile → Told) → Extension → Bool → Intent → Type 0
RefreshWants host told class force intent =
    (base : Entries HeldFile) × IsBaseTree host base × RefreshWantsOf host told base class force intent

-- what `merge` wants of a host
abbrev pub MergeWants : Host → (HeldFile → Told) → Extension → Bool → Intent → Type 0
MergeWants host told class force intent =
    ((is_merged class host ≡ true) × (intent ≡ Refuses refusals.Merged))
    ⊎ ((is_merged class host ≡ false) × RefreshWants host told class force intent)

-- the unmerged host, where the class is merged
abbrev pub UnmergeWants : Host → Extension → Intent → Type 0
UnmergeWants host class intent =
    (plan : Option Plan) × Unmerges host class (Ok plan) × PlansNext host plan × (intent ≡ planned plan answers.Unmerged)

-- what the merged host would show otherwise than the base, at and below the hierarchies of the class
abbrev pub ChangesWantsOf : Host → (HeldFile → Told) → Entries HeldFile → Extension → Bool → Intent → Type 0
ChangesWantsOf host told base class force intent =
    ((list : changes.Changes) × AreViewChanges told host base class force list × (intent ≡ Answers (answers.Changes list)))
    ⊎ ((refusal : Refusal) × IsNotRefreshed host told base class force refusal × (intent ≡ Refuses refusal))

-- what `changes` wants of a host
abbrev pub ChangesWants : Host → (HeldFile → Told) → Extension → Bool → Intent → Type 0
ChangesWants host told class force intent =
    (base : Entries HeldFile) × IsBaseTree host base × ChangesWantsOf host told base class force intent

-- the layers of the merged host that have an entry at the path, or hide what is there, the topmost first
abbrev pub ExplainWantsOf : Host → (HeldFile → Told) → Entries HeldFile → Extension → Bool → List (List ℕ) → Intent → Type 0
ExplainWantsOf host told base class force path intent =
    ((origins : List Origin) × AreOrigins told host base class force path origins × (origins ≢ []) × (intent ≡ Answers (answers.Explained origins)))
    ⊎ ((AreOrigins told host base class force path [] × (intent ≡ Refuses (refusals.NoEntry path)))
    ⊎ ((refusal : Refusal) × IsNotSurveyed told base refusal × (intent ≡ Refuses refusal)))

-- what `explain` wants of a host
abbrev pub ExplainWants : Host → (HeldFile → Told) → Extension → Bool → List (List ℕ) → Intent → Type 0
ExplainWants host told class force path intent =
    (base : Entries HeldFile) × IsBaseTree host base × ExplainWantsOf host told base class force path intent

-- what each of these commands wants of a host
abbrev pub ViewWants : Host → (HeldFile → Told) → Extension → ViewCommand → Intent → Type 0
ViewWants host told class views.List intent = ListWants host told class intent
ViewWants host told class views.Status intent = intent ≡ status_intent host class
ViewWants host told class (views.Merge force) intent = MergeWants host told class force intent
ViewWants host told class views.Unmerge intent = UnmergeWants host class intent
ViewWants host told class (views.Refresh force) intent = RefreshWants host told class force intent
ViewWants host told class (views.Changes force) intent = ChangesWants host told class force intent
ViewWants host told class (views.Explain force path) intent = ExplainWants host told class force path intent
