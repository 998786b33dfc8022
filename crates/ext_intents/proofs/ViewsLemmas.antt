-- What the commands `sysext` and `confext` want: by what surveying and merging answer, and that it is fit.
use Rattle.std.proofs.Common.{◌≡◌, ℕ, Bool, false, List, [], ◌∷◌, Option, Some, None, Result, Ok, Err, inl, inr, refl, sym, ap, ◌∙◌, subst}
use Rattle.std.specs.Prelude.{Contains, IfErr, IfOk}
use Rattle.ext_text.specs.declared.extension.Extension.{Extension}
use Rattle.ext_text.specs.declared.extension.Extension.TheVariants.{Sysext, Confext}
use Rattle.ext_tree.specs.Tree.{Entries}
use Rattle.ext_host.specs.Held.{HeldFile}
use Rattle.ext_host.specs.Shelf.{Told}
use Rattle.ext_host.specs.declared.host.Host.{Host}
use Rattle.ext_host.specs.declared.host.Plan.{Plan}
use Rattle.ext_host.specs.Planning.{PlansNext}
use Rattle.ext_view.specs.Hierarchies.{is_merged}
use Rattle.ext_view.specs.Merging.{Merges, PlansView, Refreshes, Unmerges}
use Rattle.ext_view.specs.Surveying.{Surveys}
use Rattle.ext_view.specs.View.{chosen, with_view}
use Rattle.ext_view.specs.declared.errors.ViewErr.{ViewErr}
use Rattle.ext_view.specs.declared.errors.ViewErr.TheVariants as errors
use Rattle.ext_view.specs.declared.surveyed.SurveyItem.{SurveyItem}
use Rattle.ext_explain.specs.Explaining.{Explains}
use Rattle.ext_explain.specs.ViewChanges.{TellsChanges}
use Rattle.ext_explain.specs.declared.errors.ExplainErr.TheVariants as explain_errors
use Rattle.ext_cmd.specs.declared.answer.Answer.{Answer}
use Rattle.ext_cmd.specs.declared.command.ViewCommand.{ViewCommand}
use Rattle.ext_cmd.specs.declared.command.ViewCommand.TheVariants as views
use Rattle.ext_cmd.specs.declared.refusal.Refusal.TheVariants as refusals
use Rattle.ext_intents.specs.Causes.{IsSurveyFile, ViewCause, refused}
use Rattle.ext_intents.specs.Intents.{IsAnswerOrRefusal, IsFit, stays}
use Rattle.ext_intents.specs.Views.{ChangesWants, ExplainWants, ListWants, MergeWants, RefreshWants, RefreshWantsOf, ViewWants, planned}
use Rattle.ext_intents.specs.declared.intent.Intent.{Intent}
use Rattle.ext_intents.specs.declared.intent.Intent.TheVariants.{Refuses}
use Rattle.ext_intents.proofs.ViewFilesLemmas.{read_file}

pub list_refused : (told : HeldFile → Told) (old new : ℕ) (host : Host) (class : Extension) (e : ViewErr) → Surveys told old new host class false (Err e) → IfOk (refused e) (ListWants host told class)
list_refused told old new host class errors.OutOfMemory fails = tt
list_refused told old new host class errors.Merged (base, is, fails) = absurd fails
list_refused told old new host class errors.NoHostRelease (base, is, none) = (base, is, inr (refusals.NoHostRelease, none, refl))
list_refused told old new host class (errors.BadHostRelease line) (base, is, fault) = (base, is, inr (refusals.BadHostRelease line, fault, refl))
list_refused told old new host class (errors.Shelf e) fails = tt
list_refused told old new host class (errors.Limit which) (base, is, fails) = absurd fails

pub list_cause : (told : HeldFile → Told) (old new : ℕ) (host : Host) (class : Extension) (force : Bool) (e : ViewErr) → Surveys told old new host class force (Err e) → IfErr (refused e) (ViewCause (IsSurveyFile host class) host told old new)
list_cause told old new host class force errors.OutOfMemory fails = tt
list_cause told old new host class force errors.Merged fails = tt
list_cause told old new host class force errors.NoHostRelease fails = tt
list_cause told old new host class force (errors.BadHostRelease line) fails = tt
list_cause told old new host class force (errors.Shelf e) (base, is, (held, read, fault)) = record { held = held; is_read = (base, is, read); file = read_file host base class held is read; cause = fault }
list_cause told old new host class force (errors.Limit which) fails = tt

pub refresh_refused : (told : HeldFile → Told) (old new : ℕ) (host : Host) (class : Extension) (force : Bool) (e : ViewErr) → Refreshes told old new host class force (Err e) → IfOk (refused e) (RefreshWants host told class force)
refresh_refused told old new host class force errors.OutOfMemory fails = tt
refresh_refused told old new host class force errors.Merged (base, is, fails) = absurd fails
refresh_refused told old new host class force errors.NoHostRelease (base, is, none) = (base, is, inr (refusals.NoHostRelease, none, refl))
refresh_refused told old new host class force (errors.BadHostRelease line) (base, is, fault) = (base, is, inr (refusals.BadHostRelease line, fault, refl))
refresh_refused told old new host class force (errors.Shelf e) fails = tt
refresh_refused told old new host class force (errors.Limit which) (base, is, large) = (base, is, inr (refusals.Limit which, large, refl))

pub refresh_cause : (told : HeldFile → Told) (old new : ℕ) (host : Host) (class : Extension) (force : Bool) (e : ViewErr) → Refreshes told old new host class force (Err e) → IfErr (refused e) (ViewCause (IsSurveyFile host class) host told old new)
refresh_cause told old new host class force errors.OutOfMemory fails = tt
refresh_cause told old new host class force errors.Merged fails = tt
refresh_cause told old new host class force errors.NoHostRelease fails = tt
refresh_cause told old new host class force (errors.BadHostRelease line) fails = tt
refresh_cause told old new host class force (errors.Shelf e) (base, is, (held, read, fault)) = record { held = held; is_read = (base, is, read); file = read_file host base class held is read; cause = fault }
refresh_cause told old new host class force (errors.Limit which) fails = tt

if_ok_weaker : {T E : Type 0} (P Q : T → Type 0) (r : Result T E) → ((x : T) → P x → Q x) → IfOk r P → IfOk r Q
if_ok_weaker P Q (Ok x) weaker holds = weaker x holds
if_ok_weaker P Q (Err e) weaker holds = tt

other_refused : (told : HeldFile → Told) (old new : ℕ) (host : Host) (class : Extension) (force : Bool) (e : ViewErr) → is_merged class host ≡ false → Refreshes told old new host class force (Err e) → IfOk (refused e) (MergeWants host told class force)
other_refused told old new host class force e free fails = if_ok_weaker (RefreshWants host told class force) (MergeWants host told class force) (refused e) (λ intent wants. inr (free, wants)) (refresh_refused told old new host class force e fails)

pub merge_refused : (told : HeldFile → Told) (old new : ℕ) (host : Host) (class : Extension) (force : Bool) (e : ViewErr) → Merges told old new host class force (Err e) → IfOk (refused e) (MergeWants host told class force)
merge_refused told old new host class force errors.OutOfMemory fails = tt
merge_refused told old new host class force errors.Merged merged = inl (merged, refl)
merge_refused told old new host class force errors.NoHostRelease (free, fails) = other_refused told old new host class force errors.NoHostRelease free fails
merge_refused told old new host class force (errors.BadHostRelease line) (free, fails) = other_refused told old new host class force (errors.BadHostRelease line) free fails
merge_refused told old new host class force (errors.Shelf e) fails = tt
merge_refused told old new host class force (errors.Limit which) (free, fails) = other_refused told old new host class force (errors.Limit which) free fails

pub merge_cause : (told : HeldFile → Told) (old new : ℕ) (host : Host) (class : Extension) (force : Bool) (e : ViewErr) → Merges told old new host class force (Err e) → IfErr (refused e) (ViewCause (λ held. (is_merged class host ≡ false) × IsSurveyFile host class held) host told old new)
merge_cause told old new host class force errors.OutOfMemory fails = tt
merge_cause told old new host class force errors.Merged fails = tt
merge_cause told old new host class force errors.NoHostRelease fails = tt
merge_cause told old new host class force (errors.BadHostRelease line) fails = tt
merge_cause told old new host class force (errors.Shelf e) (free, fails) =
    let of = refresh_cause told old new host class force (errors.Shelf e) fails in
    record { held = of.held; is_read = (free, of.is_read); file = of.file; cause = of.cause }
merge_cause told old new host class force (errors.Limit which) fails = tt

pub changes_refused : (told : HeldFile → Told) (old new : ℕ) (host : Host) (class : Extension) (force : Bool) (e : ViewErr) → TellsChanges told old new host class force (Err e) → IfOk (refused e) (ChangesWants host told class force)
changes_refused told old new host class force errors.OutOfMemory fails = tt
changes_refused told old new host class force errors.Merged (base, is, fails) = absurd fails
changes_refused told old new host class force errors.NoHostRelease (base, is, none) = (base, is, inr (refusals.NoHostRelease, none, refl))
changes_refused told old new host class force (errors.BadHostRelease line) (base, is, fault) = (base, is, inr (refusals.BadHostRelease line, fault, refl))
changes_refused told old new host class force (errors.Shelf e) fails = tt
changes_refused told old new host class force (errors.Limit which) (base, is, large) = (base, is, inr (refusals.Limit which, large, refl))

pub changes_cause : (told : HeldFile → Told) (old new : ℕ) (host : Host) (class : Extension) (force : Bool) (e : ViewErr) → TellsChanges told old new host class force (Err e) → IfErr (refused e) (ViewCause (IsSurveyFile host class) host told old new)
changes_cause told old new host class force e fails = refresh_cause told old new host class force e fails

pub explain_refused : (told : HeldFile → Told) (old new : ℕ) (host : Host) (class : Extension) (force : Bool) (path : List (List ℕ)) (e : ViewErr) → Explains told old new host class force path (Err (explain_errors.Survey e))
    → IfOk (refused e) (ExplainWants host told class force path)
explain_refused told old new host class force path errors.OutOfMemory fails = tt
explain_refused told old new host class force path errors.Merged (base, is, fails) = absurd fails
explain_refused told old new host class force path errors.NoHostRelease (base, is, none) = (base, is, inr (inr (refusals.NoHostRelease, none, refl)))
explain_refused told old new host class force path (errors.BadHostRelease line) (base, is, fault) = (base, is, inr (inr (refusals.BadHostRelease line, fault, refl)))
explain_refused told old new host class force path (errors.Shelf e) fails = tt
explain_refused told old new host class force path (errors.Limit which) (base, is, fails) = absurd fails

pub explain_cause : (told : HeldFile → Told) (old new : ℕ) (host : Host) (class : Extension) (force : Bool) (path : List (List ℕ)) (e : ViewErr) → Explains told old new host class force path (Err (explain_errors.Survey e))
    → IfErr (refused e) (ViewCause (IsSurveyFile host class) host told old new)
explain_cause told old new host class force path e fails = list_cause told old new host class force e fails

-- no layer has a line at a path
pub no_line : (told : HeldFile → Told) (old new : ℕ) (host : Host) (class : Extension) (force : Bool) (path : List (List ℕ)) (intent : Intent) → Explains told old new host class force path (Err explain_errors.NoEntry)
    → intent ≡ Refuses (refusals.NoEntry path) → ExplainWants host told class force path intent
no_line told old new host class force path intent (base, is, none) same = (base, is, inr (inl (none, same)))

same_past : (class : Extension) (names : Option (List (List ℕ))) (root lower : Entries HeldFile) (host : Host) → (with_view class names root lower host).past ≡ host.past
same_past Sysext names root lower host = refl
same_past Confext names root lower host = refl

view_past : (host : Host) (class : Extension) (names : Option (List (List ℕ))) (next : Host) → next ≡ with_view class names next.root next.lower host → next.past ≡ host.past
view_past host class names next is = ap (λ (h : Host). h.past) is ∙ same_past class names next.root next.lower host

-- of the host of a plan
abbrev SamePast : Host → Option Plan → Type 0
SamePast host None = Unit {0}
SamePast host (Some plan) = plan.next.past ≡ host.past

merged_past : (host : Host) (class : Extension) (base : Entries HeldFile) (items : List SurveyItem) (plan : Option Plan) → PlansView host class base items plan → SamePast host plan
merged_past host class base items None is = tt
merged_past host class base [] (Some plan) (merged, is) = view_past host class None plan.next is.same
merged_past host class base (item ∷ items) (Some plan) is = view_past host class _ plan.next is.same

unmerged_past : (host : Host) (class : Extension) (plan : Option Plan) → Unmerges host class (Ok plan) → SamePast host plan
unmerged_past host class None is = tt
unmerged_past host class (Some plan) (merged, is) = view_past host class None plan.next is.same

planned_fits : (coming : ℕ) (host : Host) (plan : Option Plan) (answer : Answer) → PlansNext host plan → SamePast host plan → IsFit coming (Some host) (planned plan answer)
planned_fits coming host None answer next past = tt
planned_fits coming host (Some plan) answer next past = record { valid = next.valid; drawn = next.drawn; past = λ p has. stays (subst (λ pasts. Contains pasts p) past has) }

fit_of : (coming : ℕ) (host : Host) (a b : Intent) → b ≡ a → IsFit coming (Some host) a → IsFit coming (Some host) b
fit_of coming host a b is fit = subst (IsFit coming (Some host)) (sym is) fit

refresh_fits : (coming : ℕ) (host : Host) (told : HeldFile → Told) (class : Extension) (force : Bool) (intent : Intent) (base : Entries HeldFile) → RefreshWantsOf host told base class force intent → IsFit coming (Some host) intent
refresh_fits coming host told class force intent base (inl (merge, of, next, is)) = fit_of coming host _ intent is (planned_fits coming host merge.plan _ next (merged_past host class base (chosen of.items) merge.plan of.plan))
refresh_fits coming host told class force intent base (inr (refusal, not, is)) = fit_of coming host _ intent is tt

pub view_fits : (coming : ℕ) (host : Host) (told : HeldFile → Told) (class : Extension) (command : ViewCommand) (intent : Intent) → ViewWants host told class command intent → IsFit coming (Some host) intent
view_fits coming host told class views.List intent (base, is_base, inl (items, of, is)) = fit_of coming host _ intent is tt
view_fits coming host told class views.List intent (base, is_base, inr (refusal, not, is)) = fit_of coming host _ intent is tt
view_fits coming host told class views.Status intent is = fit_of coming host _ intent is tt
view_fits coming host told class (views.Merge force) intent (inl (merged, is)) = fit_of coming host _ intent is tt
view_fits coming host told class (views.Merge force) intent (inr (free, (base, is_base, wants))) = refresh_fits coming host told class force intent base wants
view_fits coming host told class views.Unmerge intent (plan, of, next, is) = fit_of coming host _ intent is (planned_fits coming host plan _ next (unmerged_past host class plan of))
view_fits coming host told class (views.Refresh force) intent (base, is_base, wants) = refresh_fits coming host told class force intent base wants
view_fits coming host told class (views.Changes force) intent (base, is_base, inl (list, are, is)) = fit_of coming host _ intent is tt
view_fits coming host told class (views.Changes force) intent (base, is_base, inr (refusal, not, is)) = fit_of coming host _ intent is tt
view_fits coming host told class (views.Explain force path) intent (base, is_base, inl (origins, are, some, is)) = fit_of coming host _ intent is tt
view_fits coming host told class (views.Explain force path) intent (base, is_base, inr (inl (none, is))) = fit_of coming host _ intent is tt
view_fits coming host told class (views.Explain force path) intent (base, is_base, inr (inr (refusal, not, is))) = fit_of coming host _ intent is tt

-- the commands of a class that want no other host
abbrev pub IsReplyingView : ViewCommand → Type 0
IsReplyingView views.List = Unit {0}
IsReplyingView views.Status = Unit {0}
IsReplyingView (views.Merge force) = ⊥
IsReplyingView views.Unmerge = ⊥
IsReplyingView (views.Refresh force) = ⊥
IsReplyingView (views.Changes force) = Unit {0}
IsReplyingView (views.Explain force path) = Unit {0}

reply_of : (a b : Intent) → b ≡ a → IsAnswerOrRefusal a → IsAnswerOrRefusal b
reply_of a b is replies = subst IsAnswerOrRefusal (sym is) replies

pub view_replies : (host : Host) (told : HeldFile → Told) (class : Extension) (command : ViewCommand) (intent : Intent) → IsReplyingView command → ViewWants host told class command intent → IsAnswerOrRefusal intent
view_replies host told class views.List intent replying (base, is_base, inl (items, of, is)) = reply_of _ intent is tt
view_replies host told class views.List intent replying (base, is_base, inr (refusal, not, is)) = reply_of _ intent is tt
view_replies host told class views.Status intent replying is = reply_of _ intent is tt
view_replies host told class (views.Merge force) intent replying wants = absurd replying
view_replies host told class views.Unmerge intent replying wants = absurd replying
view_replies host told class (views.Refresh force) intent replying wants = absurd replying
view_replies host told class (views.Changes force) intent replying (base, is_base, inl (list, are, is)) = reply_of _ intent is tt
view_replies host told class (views.Changes force) intent replying (base, is_base, inr (refusal, not, is)) = reply_of _ intent is tt
view_replies host told class (views.Explain force path) intent replying (base, is_base, inl (origins, are, some, is)) = reply_of _ intent is tt
view_replies host told class (views.Explain force path) intent replying (base, is_base, inr (inl (none, is))) = reply_of _ intent is tt
view_replies host told class (views.Explain force path) intent replying (base, is_base, inr (inr (refusal, not, is))) = reply_of _ intent is tt
