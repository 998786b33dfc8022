-- A command of a class wants one thing, where it is told of each file what it has.
use Rattle.std.proofs.Common.{◌≡◌, ℕ, ◌+◌, ◌<◌, ◌≤◌, Bool, false, List, [], ◌∷◌, length, Option, Some, None, refl, sym, ap, ◌∙◌, subst, arith, inl, inr}
use Rattle.std.specs.Prelude.{◌⊎◌, Ok, map}
use Rattle.std.proofs.lemmas.Bool.{true≢false}
use Rattle.ext_text.specs.declared.extension.Extension.{Extension}
use Rattle.ext_text.specs.declared.which.Which.{Which}
use Rattle.ext_text.specs.declared.which.Which.TheVariants as limits
use Rattle.ext_tree.specs.Tree.{Entries, most_entries}
use Rattle.ext_release.specs.Laws.{NoFaultInRelease, OneFault}
use Rattle.ext_release.specs.Release.{IsFirstFault}
use Rattle.ext_host.specs.Held.{HeldFile}
use Rattle.ext_host.specs.Limits.{PassLimit}
use Rattle.ext_host.specs.Planning.{PlansNext}
use Rattle.ext_host.specs.Shelf.{Told}
use Rattle.ext_host.specs.Valid.{all_bytes, most_bytes}
use Rattle.ext_host.specs.declared.host.Host.{Host}
use Rattle.ext_host.specs.declared.host.Plan.{Plan}
use Rattle.ext_find.specs.HostRelease.{ReleaseFileAt, own_release, vendor_release}
use Rattle.ext_view.specs.Laws.{OneSurvey, TellsAll}
use Rattle.ext_view.specs.Merging.{IsRefreshed, IsTooLarge, PlansView, Unmerges}
use Rattle.ext_view.specs.Surveying.{HasHostRelease, IsSurveyOf}
use Rattle.ext_view.specs.View.{AreImagesOf, AreViewTrees, chosen}
use Rattle.ext_view.specs.declared.outcome.Merge.{Merge}
use Rattle.ext_view.specs.declared.surveyed.SurveyItem.{SurveyItem}
use Rattle.ext_view.proofs.ForCallers.{leads_to_file, one_base, one_host_bytes, one_pair_of_trees, one_refreshed, one_unmerged}
use Rattle.ext_origin.specs.declared.origin.Origin.{Origin}
use Rattle.ext_explain.specs.Explaining.{AreOrigins}
use Rattle.ext_explain.specs.Laws.{OneListOfChanges, OneListOfLines}
use Rattle.ext_cmd.specs.declared.answer.Answer.TheVariants as answers
use Rattle.ext_cmd.specs.declared.command.ViewCommand.{ViewCommand}
use Rattle.ext_cmd.specs.declared.command.ViewCommand.TheVariants as views
use Rattle.ext_cmd.specs.declared.refusal.Refusal.{Refusal}
use Rattle.ext_cmd.specs.declared.refusal.Refusal.TheVariants as refusals
use Rattle.ext_intents.specs.Views.{ChangesWants, ChangesWantsOf, ExplainWants, ExplainWantsOf, IsNotRefreshed, IsNotSurveyed, ListWants, ListWantsOf, MergeWants, RefreshWants, RefreshWantsOf, UnmergeWants, ViewWants, listed_item, planned}
use Rattle.ext_intents.specs.declared.intent.Intent.{Intent}
use Rattle.ext_intents.specs.declared.intent.Intent.TheVariants.{Answers, Refuses}

-- the laws of surveys, of release files and of what is told of a refresh that it rests on
pub record SurveyLaws : Type 0 where
  pub one_survey : OneSurvey
  pub not_both : NoFaultInRelease
  pub one_fault : OneFault
  pub one_lines : OneListOfLines
  pub one_changes : OneListOfChanges

-- the limit that two trees pass is one
one_limit : (root lower : Entries HeldFile) (x y : Which) → PassLimit x root lower → PassLimit y root lower → x ≡ y
one_limit root lower limits.Entries limits.Entries first second = refl
one_limit root lower limits.Entries limits.Bytes first second = absurd (let few = second.0 in omega arith)
one_limit root lower limits.Bytes limits.Entries first second = absurd (let few = first.0 in omega arith)
one_limit root lower limits.Bytes limits.Bytes first second = refl
one_limit root lower limits.Entries y first second = absurd second
one_limit root lower limits.Bytes y first second = absurd second
one_limit root lower x y first second = absurd first

-- trees that are within the limits pass none
not_passed : (root lower : Entries HeldFile) (which : Which) → length root + length lower ≤ most_entries → all_bytes root + all_bytes lower ≤ most_bytes → PassLimit which root lower → ⊥
not_passed root lower limits.Entries entries bytes passes = omega arith
not_passed root lower limits.Bytes entries bytes passes = let large = passes.1 in omega arith
not_passed root lower which entries bytes passes = passes

module _ (laws : SurveyLaws) (host : Host) (told : HeldFile → Told) (tells : TellsAll told) where
  module _ (base : Entries HeldFile) (class : Extension) (force : Bool) where
    -- why nothing is surveyed: there is no release file, or it is faulty
    abbrev Why : Refusal → Type 0
    Why refusal =
        ((refusal ≡ refusals.NoHostRelease) × ReleaseFileAt base None)
        ⊎ ((line : ℕ) × (refusal ≡ refusals.BadHostRelease line) × ((bytes : List ℕ) × HasHostRelease told base bytes × IsFirstFault bytes line))

    why_not : (refusal : Refusal) → IsNotSurveyed told base refusal → Why refusal
    why_not refusals.NoHostRelease not = inl (refl, not)
    why_not (refusals.BadHostRelease line) not = inr (line, refl, not)
    why_not refusal not = absurd not

    has_none : (bytes : List ℕ) → ReleaseFileAt base None → HasHostRelease told base bytes → ⊥
    has_none bytes none has = elim has.is_file [
      | inl own ↦ none.0 (leads_to_file base own_release has.file own)
      | inr vendor ↦ none.1 (leads_to_file base vendor_release has.file vendor.1)
    ]

    one_why : (x y : Refusal) → Why x → Why y → x ≡ y
    one_why x y (inl p) (inl q) = p.0 ∙ sym q.0
    one_why x y (inl p) (inr (line, is, (bytes, has, fault))) = absurd (has_none bytes p.1 has)
    one_why x y (inr (line, is, (bytes, has, fault))) (inl q) = absurd (has_none bytes q.1 has)
    one_why x y (inr (line, is, (bytes, has, fault))) (inr (other, also, (others, holds, wrong))) =
        is ∙ ap (λ line. refusals.BadHostRelease line) (laws.one_fault others line other (subst (λ bytes. IsFirstFault bytes line) (one_host_bytes told tells base bytes others has holds) fault) wrong) ∙ sym also

    not_surveyed_once : (x y : Refusal) → IsNotSurveyed told base x → IsNotSurveyed told base y → x ≡ y
    not_surveyed_once x y not also = one_why x y (why_not x not) (why_not y also)

    -- what is surveyed has a release file that reads
    no_why : (items : List SurveyItem) (refusal : Refusal) → IsSurveyOf told host base class force items → Why refusal → ⊥
    no_why items refusal is (inl p) = has_none is.is_release.bytes p.1 is.is_release.has
    no_why items refusal is (inr (line, same, (bytes, has, fault))) =
        laws.not_both is.is_release.bytes is.release line is.is_release.reads (subst (λ bytes. IsFirstFault bytes line) (one_host_bytes told tells base bytes is.is_release.bytes has is.is_release.has) fault)

    surveyed : (items : List SurveyItem) (refusal : Refusal) → IsSurveyOf told host base class force items → IsNotSurveyed told base refusal → ⊥
    surveyed items refusal is not = no_why items refusal is (why_not refusal not)

    -- the trees of a merged host that is valid pass no limit
    fits : (items : List SurveyItem) (plan : Option Plan) (images : List (Entries HeldFile)) (root lower : Entries HeldFile) (which : Which) → PlansView host class base items plan → PlansNext host plan → 0 < length items → AreImagesOf base items images → AreViewTrees host class base images root lower → PassLimit which root lower → ⊥
    fits [] plan images root lower which plans next some are trees passes = omega arith
    fits (item ∷ items) None images root lower which plans next some are trees passes = let long = ap length plans.0 in omega (arith, long)
    fits (item ∷ items) (Some plan) images root lower which view next some are trees passes =
        let one = one_pair_of_trees host class base (item ∷ items) images view.images root lower plan.next.root plan.next.lower are view.are_images trees view.trees in
        let most = next.valid.present.limits in
        not_passed plan.next.root plan.next.lower which most.entries most.bytes (subst (λ root. PassLimit which root plan.next.lower) one.0 (subst (λ lower. PassLimit which root lower) one.1 passes))

    not_too_large : (merge : Merge) (which : Which) → IsRefreshed told host base class force merge → PlansNext host merge.plan → IsTooLarge told host base class force which → ⊥
    not_too_large merge which is next large =
        let items = laws.one_survey told host base class force is.items large.items tells is.surveyed large.surveyed in
        fits (chosen large.items) merge.plan large.images large.root large.lower which (subst (λ items. PlansView host class base (chosen items) merge.plan) items is.plan) next large.non_empty large.are_images large.trees large.passes

    limit_once : (x y : Which) → IsTooLarge told host base class force x → IsTooLarge told host base class force y → x ≡ y
    limit_once x y is also =
        let items = laws.one_survey told host base class force is.items also.items tells is.surveyed also.surveyed in
        let one = one_pair_of_trees host class base (chosen also.items) is.images also.images is.root is.lower also.root also.lower (subst (λ items. AreImagesOf base (chosen items) is.images) items is.are_images) also.are_images is.trees also.trees in
        one_limit also.root also.lower x y (subst (λ root. PassLimit x root also.lower) one.0 (subst (λ lower. PassLimit x is.root lower) one.1 is.passes)) also.passes

    -- why there is no merged host: it passes a limit, or nothing is surveyed
    abbrev WhyNoMerge : Refusal → Type 0
    WhyNoMerge refusal = ((which : Which) × (refusal ≡ refusals.Limit which) × IsTooLarge told host base class force which) ⊎ IsNotSurveyed told base refusal

    why_no_merge : (refusal : Refusal) → IsNotRefreshed host told base class force refusal → WhyNoMerge refusal
    why_no_merge (refusals.Limit which) not = inl (which, refl, not)
    why_no_merge refusal not = inr not

    one_why_no_merge : (x y : Refusal) → WhyNoMerge x → WhyNoMerge y → x ≡ y
    one_why_no_merge x y (inl (which, is, large)) (inl (other, same, larger)) = is ∙ ap (λ which. refusals.Limit which) (limit_once which other large larger) ∙ sym same
    one_why_no_merge x y (inl (which, is, large)) (inr none) = absurd (surveyed large.items y large.surveyed none)
    one_why_no_merge x y (inr none) (inl (which, is, large)) = absurd (surveyed large.items x large.surveyed none)
    one_why_no_merge x y (inr none) (inr nothing) = not_surveyed_once x y none nothing

    not_refreshed_once : (x y : Refusal) → IsNotRefreshed host told base class force x → IsNotRefreshed host told base class force y → x ≡ y
    not_refreshed_once x y not also = one_why_no_merge x y (why_no_merge x not) (why_no_merge y also)

    merged_or_not : (merge : Merge) (refusal : Refusal) → IsRefreshed told host base class force merge → PlansNext host merge.plan → IsNotRefreshed host told base class force refusal → ⊥
    merged_or_not merge refusal is next not = elim (why_no_merge refusal not) [
      | inl why ↦ not_too_large merge why.0 is next why.2
      | inr none ↦ surveyed is.items refusal is.surveyed none
    ]

    refresh_of_once : (a b : Intent) → RefreshWantsOf host told base class force a → RefreshWantsOf host told base class force b → a ≡ b
    refresh_of_once a b (inl (x, is, next, wants)) (inl (y, also, other, same)) =
        wants ∙ ap (λ merge. planned merge.plan (answers.Merged merge.names)) (one_refreshed laws.one_survey told tells host base class force x y is also) ∙ sym same
    refresh_of_once a b (inl (x, is, next, wants)) (inr (refusal, not, same)) = absurd (merged_or_not x refusal is next not)
    refresh_of_once a b (inr (refusal, not, same)) (inl (x, is, next, wants)) = absurd (merged_or_not x refusal is next not)
    refresh_of_once a b (inr (x, not, wants)) (inr (y, nor, same)) = wants ∙ ap (λ refusal. Refuses refusal) (not_refreshed_once x y not nor) ∙ sym same

    changes_of_once : (a b : Intent) → ChangesWantsOf host told base class force a → ChangesWantsOf host told base class force b → a ≡ b
    changes_of_once a b (inl (x, is, wants)) (inl (y, also, same)) =
        wants ∙ ap (λ list. Answers (answers.Changes list)) (laws.one_changes told host base class force x y tells is also) ∙ sym same
    changes_of_once a b (inl (x, is, wants)) (inr (refusal, not, same)) = absurd (merged_or_not is.merge refusal is.refreshed is.planned not)
    changes_of_once a b (inr (refusal, not, same)) (inl (x, is, wants)) = absurd (merged_or_not is.merge refusal is.refreshed is.planned not)
    changes_of_once a b (inr (x, not, wants)) (inr (y, nor, same)) = wants ∙ ap (λ refusal. Refuses refusal) (not_refreshed_once x y not nor) ∙ sym same

    lines_of_once : (path : List (List ℕ)) (x y : List Origin) → AreOrigins told host base class force path x → AreOrigins told host base class force path y → x ≡ y
    lines_of_once path x y is also = laws.one_lines told host base class force path x y tells is also

    explain_of_once : (path : List (List ℕ)) (a b : Intent) → ExplainWantsOf host told base class force path a → ExplainWantsOf host told base class force path b → a ≡ b
    explain_of_once path a b (inl (x, is, some, wants)) (inl (y, also, more, same)) =
        wants ∙ ap (λ origins. Answers (answers.Explained origins)) (lines_of_once path x y is also) ∙ sym same
    explain_of_once path a b (inl (x, is, some, wants)) (inr (inl (none, same))) = absurd (some (lines_of_once path x [] is none))
    explain_of_once path a b (inl (x, is, some, wants)) (inr (inr (refusal, not, same))) = absurd (surveyed is.items refusal is.surveyed not)
    explain_of_once path a b (inr (inl (none, wants))) (inl (y, also, some, same)) = absurd (some (lines_of_once path y [] also none))
    explain_of_once path a b (inr (inl (none, wants))) (inr (inl (also, same))) = wants ∙ sym same
    explain_of_once path a b (inr (inl (none, wants))) (inr (inr (refusal, not, same))) = absurd (surveyed none.items refusal none.surveyed not)
    explain_of_once path a b (inr (inr (refusal, not, wants))) (inl (y, also, some, same)) = absurd (surveyed also.items refusal also.surveyed not)
    explain_of_once path a b (inr (inr (refusal, not, wants))) (inr (inl (none, same))) = absurd (surveyed none.items refusal none.surveyed not)
    explain_of_once path a b (inr (inr (x, not, wants))) (inr (inr (y, nor, same))) = wants ∙ ap (λ refusal. Refuses refusal) (not_surveyed_once x y not nor) ∙ sym same

  list_of_once : (base : Entries HeldFile) (class : Extension) (a b : Intent) → ListWantsOf host told base class a → ListWantsOf host told base class b → a ≡ b
  list_of_once base class a b (inl (x, is, wants)) (inl (y, also, same)) =
      wants ∙ ap (λ items. Answers (answers.Found (map listed_item items))) (laws.one_survey told host base class false x y tells is also) ∙ sym same
  list_of_once base class a b (inl (x, is, wants)) (inr (refusal, not, same)) = absurd (surveyed base class false x refusal is not)
  list_of_once base class a b (inr (refusal, not, same)) (inl (x, is, wants)) = absurd (surveyed base class false x refusal is not)
  list_of_once base class a b (inr (x, not, wants)) (inr (y, nor, same)) = wants ∙ ap (λ refusal. Refuses refusal) (not_surveyed_once base class false x y not nor) ∙ sym same

  list_once : (class : Extension) (a b : Intent) → ListWants host told class a → ListWants host told class b → a ≡ b
  list_once class a b (x, is, wants) (y, also, other) = list_of_once y class a b (subst (λ base. ListWantsOf host told base class a) (one_base host x y is also) wants) other

  refresh_once : (class : Extension) (force : Bool) (a b : Intent) → RefreshWants host told class force a → RefreshWants host told class force b → a ≡ b
  refresh_once class force a b (x, is, wants) (y, also, other) = refresh_of_once y class force a b (subst (λ base. RefreshWantsOf host told base class force a) (one_base host x y is also) wants) other

  changes_once : (class : Extension) (force : Bool) (a b : Intent) → ChangesWants host told class force a → ChangesWants host told class force b → a ≡ b
  changes_once class force a b (x, is, wants) (y, also, other) = changes_of_once y class force a b (subst (λ base. ChangesWantsOf host told base class force a) (one_base host x y is also) wants) other

  explain_once : (class : Extension) (force : Bool) (path : List (List ℕ)) (a b : Intent) → ExplainWants host told class force path a → ExplainWants host told class force path b → a ≡ b
  explain_once class force path a b (x, is, wants) (y, also, other) =
      explain_of_once y class force path a b (subst (λ base. ExplainWantsOf host told base class force path a) (one_base host x y is also) wants) other

  merging_once : (class : Extension) (force : Bool) (a b : Intent) → MergeWants host told class force a → MergeWants host told class force b → a ≡ b
  merging_once class force a b (inl x) (inl y) = x.1 ∙ sym y.1
  merging_once class force a b (inl x) (inr y) = absurd (true≢false (sym x.0 ∙ y.0))
  merging_once class force a b (inr x) (inl y) = absurd (true≢false (sym y.0 ∙ x.0))
  merging_once class force a b (inr x) (inr y) = refresh_once class force a b x.1 y.1

  unmerged_plan_once : (class : Extension) (x y : Option Plan) → Unmerges host class (Ok x) → Unmerges host class (Ok y) → x ≡ y
  unmerged_plan_once class None None is also = refl
  unmerged_plan_once class None (Some y) is also = absurd (true≢false (sym also.0 ∙ is))
  unmerged_plan_once class (Some x) None is also = absurd (true≢false (sym is.0 ∙ also))
  unmerged_plan_once class (Some x) (Some y) is also = let next = one_unmerged host class x.next y.next is.1 also.1 in (λ i. Some (record { next = next i }))

  unmerge_once : (class : Extension) (a b : Intent) → UnmergeWants host class a → UnmergeWants host class b → a ≡ b
  unmerge_once class a b (x, is, next, wants) (y, also, other, same) = wants ∙ ap (λ plan. planned plan answers.Unmerged) (unmerged_plan_once class x y is also) ∙ sym same

  pub view_once : (class : Extension) (command : ViewCommand) (a b : Intent) → ViewWants host told class command a → ViewWants host told class command b → a ≡ b
  view_once class views.List a b x y = list_once class a b x y
  view_once class views.Status a b x y = x ∙ sym y
  view_once class (views.Merge force) a b x y = merging_once class force a b x y
  view_once class views.Unmerge a b x y = unmerge_once class a b x y
  view_once class (views.Refresh force) a b x y = refresh_once class force a b x y
  view_once class (views.Changes force) a b x y = changes_once class force a b x y
  view_once class (views.Explain force path) a b x y = explain_once class force path a b x y
