-- Refreshing leaves what unmerging and then merging leave.
use Rattle.std.specs.Prelude.{not}
use Rattle.std.proofs.Common.{◌≡◌, ◌≢◌, ℕ, ◌==◌, Bool, List, Option, Some, Ok, refl, sym, ap, ◌∙◌, subst, inl, inr, arith}
use Rattle.ext_text.specs.declared.extension.Extension.{Extension}
use Rattle.ext_text.specs.declared.extension.Extension.TheVariants as extensions
use Rattle.ext_depot.specs.Depot.{Files}
use Rattle.ext_disk.specs.Disk.{Tree}
use Rattle.ext_tree.specs.Tree.{Entries}
use Rattle.ext_host.specs.Held.{HeldFile}
use Rattle.ext_host.specs.Planning.{IsBaseTree}
use Rattle.ext_host.specs.Shelf.{Told, stored, untold}
use Rattle.ext_host.specs.declared.home.Home.{Home}
use Rattle.ext_host.specs.declared.host.Host.{Host}
use Rattle.ext_host.specs.declared.host.Plan.{Plan}
use Rattle.ext_gen.specs.Opened.{Generation}
use Rattle.ext_gen.specs.Preparing.{host_before}
use Rattle.ext_gen.specs.Store.{Stands, State, at, generation_in, none}
use Rattle.ext_gen.proofs.ForCallers.{current_is_opened, opened_is_valid, opened_is_valid_for}
use Rattle.ext_view.specs.Laws.{RefreshGivesUnmergeThenMerge, host_after}
use Rattle.ext_view.specs.Merging.{IsRefreshed, Unmerges}
use Rattle.ext_view.specs.View.{chosen}
use Rattle.ext_view.specs.declared.outcome.Merge.{Merge}
use Rattle.ext_cmd.specs.Replies.{answer_text}
use Rattle.ext_cmd.specs.declared.answer.Answer.TheVariants as answers
use Rattle.ext_cmd.specs.declared.command.ViewCommand.{ViewCommand}
use Rattle.ext_cmd.specs.declared.command.ViewCommand.TheVariants as views
use Rattle.ext_cmd.specs.declared.refusal.Refusal.TheVariants as refusals
use Rattle.ext_intents.specs.Intents.{Seen}
use Rattle.ext_intents.specs.Step.{WantsFirst, WantsOf}
use Rattle.ext_intents.specs.Views.{MergeWants, RefreshWants, UnmergeWants, ViewWants}
use Rattle.ext_intents.specs.declared.intent.Intent.{Intent}
use Rattle.ext_intents.specs.declared.intent.Intent.TheVariants.{Refuses}
use Rattle.ext_intents.proofs.ForCallers.{wants_alike}
use Rattle.ext_top.specs.Laws.{RefreshLeavesWhatBothLeave, view_of}
use Rattle.ext_top.specs.Machine.{Comes, Step, bytes_at, gives}
use Rattle.ext_top.proofs.AfterViewLemmas.{IsAfter, KeptUpTo, after_plan, kept_after, not_both, told_after}
use Rattle.ext_top.proofs.ViewFilesLemmas.{PlansViewOf, after_files, plan_view, unmerge_view}

first_refused : (class : Extension) (view : ViewCommand) (intent : Intent) → WantsFirst (view_of class view) intent → intent ≡ Refuses refusals.NoStore
first_refused extensions.Sysext view intent wants = wants
first_refused extensions.Confext view intent wants = wants

view_wants : (seen : Seen) (files : Option Files) (class : Extension) (view : ViewCommand) (intent : Intent) → WantsOf seen files (view_of class view) intent → ViewWants seen.host seen.told class view intent
view_wants seen files extensions.Sysext view intent wants = wants
view_wants seen files extensions.Confext view intent wants = wants

-- a state that is told has what it tells
stored_told : (bytes : List ℕ) → stored bytes ≢ untold
stored_told bytes same = cc

module _ (law : RefreshGivesUnmergeThenMerge) (t : Tree) (g : Generation) (contents : Home → List ℕ) (files : Option Files) (class : Extension) (force : Bool) (stands : Stands t (at g contents)) (u v w : State) (first second third : List ℕ) where
  abbrev told : HeldFile → Told
  told = λ held. stored (bytes_at (at g contents) held.body)

  abbrev Leaves : Type 0
  Leaves = (host_before (generation_in w) ≡ host_before (generation_in v)) × (third ≡ second)

  kept : KeptUpTo g.number g.host
  kept = (opened_is_valid_for g (current_is_opened g t stands.0)).kept

  kept_plan : (plan : Option Plan) → PlansViewOf g.host plan → KeptUpTo g.number (host_after g.host plan)
  kept_plan plan view = kept_after g.number g.number g.host (host_after g.host plan) (omega arith) (after_files g.host plan view) kept

  -- after the merge
  both_merged : (plan : Option Plan) (a : IsAfter g.number contents (host_after g.host plan) (answer_text answers.Unmerged) u first) (intent : Intent) (refreshed : Merge) (base : Entries HeldFile)
      → Unmerges g.host class (Ok plan) → IsBaseTree g.host base → IsRefreshed told g.host base class force refreshed
      → IsAfter g.number contents (host_after g.host refreshed.plan) (answer_text (answers.Merged refreshed.names)) w third
      → Comes (at a.g a.bytes) files intent (gives v second) → MergeWants (host_after g.host plan) told class force intent → Leaves
  both_merged plan a intent refreshed base unmerges is of c comes (inl (merged, refuses_is)) =
      absurd (not_both v second refusals.Merged (subst (λ i. Comes (at a.g a.bytes) files i (gives v second)) refuses_is comes))
  both_merged plan a intent refreshed base unmerges is of c comes (inr (free, (lies, is_lies, inl (merged, merges, next, plan_is)))) =
      let host = host_after g.host plan in
      let view : PlansViewOf host merged.plan = plan_view host class lies (chosen merges.items) merged.plan is_lies merges.plan in
      let before : KeptUpTo g.number host = kept_plan plan (unmerge_view g.host class plan unmerges) in
      let after : KeptUpTo a.g.number (host_after host merged.plan) = kept_after g.number a.g.number host (host_after host merged.plan) a.later (after_files host merged.plan view) before in
      let b = after_plan a.g a.bytes files host merged.plan (answers.Merged merged.names) v second a.host after view (subst (λ i. Comes (at a.g a.bytes) files i (gives v second)) plan_is comes) in
      let same = law told 0 0 g.host class force plan merged refreshed (λ held. stored_told (bytes_at (at g contents) held.body)) (opened_is_valid g (current_is_opened g t stands.0)) unmerges (free, (lies, is_lies, merges)) (base, is, of) in (
        ap (λ (s : State). host_before (generation_in s)) c.is ∙ (ap Some (c.host ∙ (same.1 ∙ sym b.host)) ∙ sym (ap (λ (s : State). host_before (generation_in s)) b.is)),
        c.text_is ∙ (ap (λ names. answer_text (answers.Merged names)) same.0 ∙ sym b.text_is),
      )
  both_merged plan a intent refreshed base unmerges is of c comes (inr (free, (lies, is_lies, inr (refusal, why, refuses_is)))) =
      absurd (not_both v second refusal (subst (λ i. Comes (at a.g a.bytes) files i (gives v second)) refuses_is comes))

  -- after the unmerge
  both_unmerged : (plan : Option Plan) (a : IsAfter g.number contents (host_after g.host plan) (answer_text answers.Unmerged) u first) (refreshed : Merge) (base : Entries HeldFile) → Unmerges g.host class (Ok plan) → IsBaseTree g.host base
      → IsRefreshed told g.host base class force refreshed → IsAfter g.number contents (host_after g.host refreshed.plan) (answer_text (answers.Merged refreshed.names)) w third → Step (at a.g a.bytes) files (view_of class (views.Merge force)) (gives v second) → Leaves
  both_unmerged plan a refreshed base unmerges is of c y =
      let host = host_after g.host plan in
      let later : HeldFile → Told = λ held. stored (bytes_at (at a.g a.bytes) held.body) in
      let here = subst (λ (h : Host). WantsOf (record { host = h; number = a.g.number; newest = not (a.g.text == 1); told = λ held. stored (bytes_at (at a.g a.bytes) held.body) }) files (view_of class (views.Merge force)) y.intent) a.host y.wants in
      let alike = told_after g a.g contents a.bytes host (kept_plan plan (unmerge_view g.host class plan unmerges)) a.kept in
      let wants = wants_alike host (λ held. stored (bytes_at (at a.g a.bytes) held.body)) told alike a.g.number (not (a.g.text == 1)) files (view_of class (views.Merge force)) y.intent here in
      both_merged plan a y.intent refreshed base unmerges is of c y.comes (view_wants (record { host = host; number = a.g.number; newest = not (a.g.text == 1); told = told }) files class (views.Merge force) y.intent wants)

  with_refreshed : (plan : Option Plan) (a : IsAfter g.number contents (host_after g.host plan) (answer_text answers.Unmerged) u first) (intent : Intent) → Unmerges g.host class (Ok plan) → Step u files (view_of class (views.Merge force)) (gives v second)
      → Comes (at g contents) files intent (gives w third) → RefreshWants g.host told class force intent → Leaves
  with_refreshed plan a intent unmerges y comes (base, is, inl (refreshed, of, next, plan_is)) =
      let view : PlansViewOf g.host refreshed.plan = plan_view g.host class base (chosen of.items) refreshed.plan is of.plan in
      let c = after_plan g contents files g.host refreshed.plan (answers.Merged refreshed.names) w third refl (kept_plan refreshed.plan view) view (subst (λ i. Comes (at g contents) files i (gives w third)) plan_is comes) in
      both_unmerged plan a refreshed base unmerges is of c (subst (λ s. Step s files (view_of class (views.Merge force)) (gives v second)) a.is y)
  with_refreshed plan a intent unmerges y comes (base, is, inr (refusal, why, refuses_is)) =
      absurd (not_both w third refusal (subst (λ i. Comes (at g contents) files i (gives w third)) refuses_is comes))

  both_leave : Step (at g contents) files (view_of class views.Unmerge) (gives u first) → Step u files (view_of class (views.Merge force)) (gives v second) → Step (at g contents) files (view_of class (views.Refresh force)) (gives w third) → Leaves
  both_leave x y z =
      let seen : Seen = record { host = g.host; number = g.number; newest = not (g.text == 1); told = told } in
      let unmerging : UnmergeWants g.host class x.intent = view_wants (record { host = g.host; number = g.number; newest = not (g.text == 1); told = told }) files class views.Unmerge x.intent x.wants in
      let refreshing : RefreshWants g.host told class force z.intent = view_wants (record { host = g.host; number = g.number; newest = not (g.text == 1); told = told }) files class (views.Refresh force) z.intent z.wants in
      let view = unmerge_view g.host class unmerging.0 unmerging.1 in
      let a = after_plan g contents files g.host unmerging.0 answers.Unmerged u first refl (kept_plan unmerging.0 view) view (subst (λ i. Comes (at g contents) files i (gives u first)) unmerging.3 x.comes) in
      with_refreshed unmerging.0 a z.intent unmerging.1 y z.comes refreshing

pub refresh_leaves : RefreshGivesUnmergeThenMerge → RefreshLeavesWhatBothLeave
refresh_leaves law t none u v w files class force first second third stands x y z =
    absurd (not_both u first refusals.NoStore (subst (λ i. Comes none files i (gives u first)) (first_refused class views.Unmerge x.intent x.wants) x.comes))
refresh_leaves law t (at g contents) u v w files class force first second third stands x y z = both_leave law t g contents files class force stands u v w first second third x y z
