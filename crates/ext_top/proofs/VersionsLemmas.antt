-- Added versions stay as long as nothing touches them, and protected ones stay.
use Rattle.std.proofs.Common.{◌≡◌, ◌⊎◌, ℕ, ◌+◌, true, cond, List, ◌++◌, length, drop, inl, inr, Option, Some, None, sym, ap, ◌∙◌, subst}
use Rattle.ext_text.specs.Path.{is_prefix}
use Rattle.ext_depot.specs.Depot.{Files}
use Rattle.ext_tree.specs.Tree.{Entries, lookup}
use Rattle.ext_tree.proofs.ForCallers.{prefix_split}
use Rattle.ext_host.specs.Held.{HeldFile}
use Rattle.ext_host.specs.Planning.{IsBaseTree}
use Rattle.ext_host.specs.Shelf.{stored}
use Rattle.ext_host.specs.declared.home.Home.{Home}
use Rattle.ext_host.specs.declared.host.Host.{Host}
use Rattle.ext_transfer.specs.declared.transfer.Transfer.{Transfer}
use Rattle.ext_installed.specs.Installed.{AreInstalled}
use Rattle.ext_installed.specs.declared.instance.Instances.{Instances}
use Rattle.ext_updated.specs.Pieces.{piece_at, seen_at}
use Rattle.ext_updated.proofs.ForCallers.{files_decide}
use Rattle.ext_update.specs.Update.{UpdateWants}
use Rattle.ext_update.specs.Vacuum.{VacuumWants}
use Rattle.ext_update.specs.declared.planned.Update.{Update}
use Rattle.ext_update.specs.declared.planned.Update.TheVariants as updated
use Rattle.ext_update.specs.declared.planned.Vacuum.{Vacuum}
use Rattle.ext_update.specs.declared.planned.Vacuum.TheVariants as vacuumed
use Rattle.ext_update.specs.declared.updates.Updates.{Updates}
use Rattle.ext_update.proofs.ForCallers.{updates_keep_protected, vacuums_keep_protected}
use Rattle.ext_gen.specs.Opened.{Generation}
use Rattle.ext_gen.specs.Store.{State, at, none}
use Rattle.ext_view.specs.Laws.{MergingKeepsTheBase}
use Rattle.ext_cmd.specs.Replies.{answer_text}
use Rattle.ext_cmd.specs.declared.answer.Answer.TheVariants as answers
use Rattle.ext_cmd.specs.declared.command.Command.TheVariants.{Sysupdate}
use Rattle.ext_cmd.specs.declared.command.UpdateVerb.{UpdateVerb}
use Rattle.ext_cmd.specs.declared.command.UpdateVerb.TheVariants as verbs
use Rattle.ext_cmd.specs.declared.refusal.Refusal.{Refusal}
use Rattle.ext_cmd.specs.declared.refusal.Refusal.TheVariants.{NoStore}
use Rattle.ext_intents.specs.Intents.{IsAnswerOrRefusal, IsPlanned}
use Rattle.ext_intents.specs.Sysupdate as asked
use Rattle.ext_intents.specs.Updates.{AreOn, AreUpdates}
use Rattle.ext_intents.specs.Updating.{update_intent, vacuum_intent}
use Rattle.ext_intents.specs.declared.intent.Intent.{Intent}
use Rattle.ext_intents.specs.declared.intent.Intent.TheVariants.{Answers, Changes, Checks, Refuses, Shows}
use Rattle.ext_intents.proofs.ForCallers.{update_replies}
use Rattle.ext_top.specs.Exits.{IsOnTheWay}
use Rattle.ext_top.specs.Laws.{AddedVersionsStay, AddsVersion, KeepsProtected, ProtectedVersionsStay}
use Rattle.ext_top.specs.Machine.{Comes, IsNextState, Step, bytes_at, gives, refuses}
use Rattle.ext_top.specs.Untouched.{After, IsUntouched}
use Rattle.ext_top.specs.Updating.{writes_in}
use Rattle.ext_top.proofs.BaseStaysLemmas.{IfChanges, found_instances, update_changes, vacuum_changes, writes_base}
use Rattle.ext_top.proofs.UntouchedLemmas.{IsGood, first_untouched, lines_good, manifest_stays, next_good, next_installed, next_same, stands_good, step_planned}
use Rattle.ext_top.proofs.WayLemmas.{on_the_way_is_after_some}

state_same : (u v : State) (a b : List ℕ) → gives u a ≡ gives v b → u ≡ v
state_same u v a b same = cc

reply_same : (u v : State) (a b : List ℕ) → gives u a ≡ gives v b → a ≡ b
reply_same u v a b same = cc

not_refused : (v : State) (reply : List ℕ) (refusal : Refusal) → gives v reply ≡ refuses refusal → ⊥
not_refused v reply refusal same = cc

-- an answer leaves the state
answered : (s v : State) (files : Option Files) (intent : Intent) (reply : List ℕ) → IsAnswerOrRefusal intent → Comes s files intent (gives v reply) → v ≡ s
answered s v files (Changes next answer) reply replies comes = absurd replies
answered s v files (Answers answer) reply replies is = state_same v s reply (answer_text answer) is
answered s v files Checks reply replies comes = absurd replies
answered s v files (Shows held) reply replies comes = absurd replies
answered s v files (Refuses refusal) reply replies is = absurd (not_refused v reply refusal is)

module _ (g : Generation) (contents : Home → List ℕ) (files : Option Files) (component : Option (List ℕ)) (v : State) (reply : List ℕ) where
  -- these are the updates of the host with this base
  abbrev AreHere : Entries HeldFile → Updates → Type 0
  AreHere base updates = AreUpdates (λ held. stored (bytes_at (at g contents) held.body)) files g.host base component updates

  -- these transfers are on, by the host with this base
  abbrev AreOnHere : Entries HeldFile → List Transfer → Type 0
  AreOnHere base transfers = AreOn (λ held. stored (bytes_at (at g contents) held.body)) files g.host base component transfers

  -- it is planned in the coming generation
  abbrev IsComing : Intent → Type 0
  IsComing = IfChanges (IsPlanned (g.number + 1) (Some g.host))

  -- an update that changed the state
  record DoneUpdate (wanted : Option (List ℕ)) : Type 0 where
    base : Entries HeldFile
    is : IsBaseTree g.host base
    updates : Updates
    are : AreHere base updates
    version : List ℕ
    next : Host
    wants : UpdateWants files g.host updates wanted (updated.Changes version next)
    planned : IsPlanned (g.number + 1) (Some g.host) next
    state : IsNextState (at g contents) files next v
    reply_is : reply ≡ answer_text (answers.Updated version)

  -- room that was made
  record DoneVacuum : Type 0 where
    base : Entries HeldFile
    is : IsBaseTree g.host base
    transfers : List Transfer
    instances : Instances
    on : AreOnHere base transfers
    are : AreInstalled base transfers instances
    removed : List (List (List ℕ))
    next : Host
    wants : VacuumWants g.host transfers instances.items (vacuumed.Changes removed next)
    planned : IsPlanned (g.number + 1) (Some g.host) next
    state : IsNextState (at g contents) files next v

  module _ (base : Entries HeldFile) (is : IsBaseTree g.host base) (updates : Updates) (are : AreHere base updates) where
    planned_update : (wanted : Option (List ℕ)) (update : Update) → UpdateWants files g.host updates wanted update → IsComing (update_intent wanted update)
        → Comes (at g contents) files (update_intent wanted update) (gives v reply) → (v ≡ at g contents) ⊎ DoneUpdate wanted
    planned_update wanted updated.Unchanged wants planned same = inl (state_same v (at g contents) reply _ same)
    planned_update wanted (updated.Changes version next) wants planned (inl (w, free, state, same)) = inr (record {
      base = base;
      is = is;
      updates = updates;
      are = are;
      version = version;
      next = next;
      wants = wants;
      planned = planned;
      state = subst (IsNextState (at g contents) files next) (sym (state_same v w reply _ same)) state;
      reply_is = reply_same v w reply _ same;
    })
    planned_update wanted (updated.Changes version next) wants planned (inr (refusal, refused, same)) = absurd (not_refused v reply refusal same)
    planned_update wanted (updated.Refused reason) wants planned same = absurd (not_refused v reply _ same)

  module _ (base : Entries HeldFile) (is : IsBaseTree g.host base) (transfers : List Transfer) (instances : Instances) (on : AreOnHere base transfers) (are : AreInstalled base transfers instances) where
    planned_vacuum : (vacuum : Vacuum) → VacuumWants g.host transfers instances.items vacuum → IsComing (vacuum_intent vacuum)
        → Comes (at g contents) files (vacuum_intent vacuum) (gives v reply) → (v ≡ at g contents) ⊎ DoneVacuum
    planned_vacuum vacuumed.Unchanged wants planned same = inl (state_same v (at g contents) reply _ same)
    planned_vacuum (vacuumed.Changes removed next) wants planned (inl (w, free, state, same)) = inr (record {
      base = base;
      is = is;
      transfers = transfers;
      instances = instances;
      on = on;
      are = are;
      removed = removed;
      next = next;
      wants = wants;
      planned = planned;
      state = subst (IsNextState (at g contents) files next) (sym (state_same v w reply _ same)) state;
    })
    planned_vacuum (vacuumed.Changes removed next) wants planned (inr (refusal, refused, same)) = absurd (not_refused v reply refusal same)
    planned_vacuum (vacuumed.Refused reason) wants planned same = absurd (not_refused v reply _ same)

  -- of what is wanted
  abbrev WantsHere : UpdateVerb → Intent → Type 0
  WantsHere verb intent = asked.VerbWants g.host (λ held. stored (bytes_at (at g contents) held.body)) files component verb intent

  done_update : (wanted : Option (List ℕ)) (intent : Intent) → WantsHere (verbs.Update wanted) intent → IsComing intent → Comes (at g contents) files intent (gives v reply) → (v ≡ at g contents) ⊎ DoneUpdate wanted
  done_update wanted intent (base, is, inl (updates, are, (update, wants, plans, same))) planned comes =
      planned_update base is updates are wanted update wants (subst IsComing same planned) (subst (λ i. Comes (at g contents) files i (gives v reply)) same comes)
  done_update wanted intent (base, is, inr (refusal, lacking, same)) planned comes =
      absurd (not_refused v reply refusal (subst (λ i. Comes (at g contents) files i (gives v reply)) same comes))

  done_vacuum : (intent : Intent) → WantsHere verbs.Vacuum intent → IsComing intent → Comes (at g contents) files intent (gives v reply) → (v ≡ at g contents) ⊎ DoneVacuum
  done_vacuum intent (base, is, inl (transfers, instances, on, are, (vacuum, wants, plans, same))) planned comes =
      planned_vacuum base is transfers instances on are vacuum wants (subst IsComing same planned) (subst (λ i. Comes (at g contents) files i (gives v reply)) same comes)
  done_vacuum intent (base, is, inr (refusal, lacking, same)) planned comes =
      absurd (not_refused v reply refusal (subst (λ i. Comes (at g contents) files i (gives v reply)) same comes))

  module _ (good : IsGood (at g contents)) where
    adds : MergingKeepsTheBase → (wanted : Option (List ℕ)) → DoneUpdate wanted → AddsVersion After (at g contents) v files component wanted reply
    adds law wanted done =
        let changes = update_changes g contents files component done.base done.updates done.is done.are wanted done.version done.next done.wants in
        record {
          update = changes.0;
          reply_is = done.reply_is ∙ ap (λ v. answer_text (answers.Updated v)) (sym changes.3);
          stays = λ x later piece among apart lead.
              let stand = changes.1.resources piece among in
              let manifest = stand.1.0 in
              record {
                manifest = manifest;
                path_is = stand.1.2;
                as_put = files_decide (λ q. lookup done.next.root q) (seen_at piece) manifest (λ q below.
                    let prefix = subst (λ p. is_prefix p q ≡ true) stand.1.2 below in
                    let rest = drop (length piece.path) q in
                    ap (lookup done.next.root) (prefix_split piece.path q prefix) ∙ stand.0 rest ∙ sym (ap (λ b. cond b (piece_at piece rest) None) prefix)) stand.1.3;
                installed = manifest_stays law v x files later manifest (next_good (at g contents) good files done.next v done.planned done.state)
                    (next_installed (at g contents) good files done.next v manifest done.state stand.1.1) (subst (λ p. IsUntouched p v files later) (sym stand.1.2) apart) lead;
              };
        }

    keeps_updated : (wanted : Option (List ℕ)) → DoneUpdate wanted → KeepsProtected (at g contents) v files component
    keeps_updated wanted done =
        let changes = update_changes g contents files component done.base done.updates done.is done.are wanted done.version done.next done.wants in
        record {
          transfers = done.updates.transfers;
          instances = done.updates.installed;
          finds = found_instances g contents files component done.base done.updates.transfers done.updates.installed done.is done.are.active done.are.installed;
          stands = λ item rest is.
              next_same (at g contents) good files done.next v (item.path ++ rest) done.state
              (writes_base g contents done.next (writes_in changes.0) changes.1 (item.path ++ rest)
              (updates_keep_protected files g.host done.next done.updates wanted done.version item done.wants is rest));
        }

    keeps_vacuumed : DoneVacuum → KeepsProtected (at g contents) v files component
    keeps_vacuumed done =
        let changes = vacuum_changes g contents files component done.base done.transfers done.instances done.is done.on done.are done.removed done.next done.wants in
        record {
          transfers = done.transfers;
          instances = done.instances;
          finds = found_instances g contents files component done.base done.transfers done.instances done.is done.on done.are;
          stands = λ item rest is.
              next_same (at g contents) good files done.next v (item.path ++ rest) done.state
              (writes_base g contents done.next _ changes.1 (item.path ++ rest)
              (vacuums_keep_protected g.host done.next done.transfers done.instances.items done.removed item done.wants is rest));
        }

or_more : {A B C : Type 0} → (B → C) → A ⊎ B → A ⊎ C
or_more more (inl a) = inl a
or_more more (inr b) = inr (more b)

no_store : (v : State) (files : Option Files) (intent : Intent) (reply : List ℕ) → intent ≡ Refuses NoStore → Comes none files intent (gives v reply) → ⊥
no_store v files intent reply is comes = not_refused v reply NoStore (subst (λ i. Comes none files i (gives v reply)) is comes)

some_state : (g : Generation) (contents : Home → List ℕ) → at g contents ≡ none → ⊥
some_state g contents same = cc

added_at : MergingKeepsTheBase → (u v : State) (files : Option Files) (component wanted : Option (List ℕ)) (reply : List ℕ) → IsGood u → Step u files (Sysupdate component (verbs.Update wanted)) (gives v reply)
    → (v ≡ u) ⊎ AddsVersion After u v files component wanted reply
added_at law none v files component wanted reply good step = absurd (no_store v files step.intent reply step.wants step.comes)
added_at law (at g contents) v files component wanted reply good step =
    or_more (adds g contents files component v reply good law wanted)
    (done_update g contents files component v reply wanted step.intent step.wants
    (step_planned (at g contents) files (Sysupdate component (verbs.Update wanted)) step.intent good (λ same. absurd (some_state g contents same)) step.wants) step.comes)

pub added_versions_stay : MergingKeepsTheBase → AddedVersionsStay After
added_versions_stay law t s u v files lines component wanted reply stands formed after comes =
    added_at law u v files component wanted reply (lines_good s u files lines (stands_good t s stands) formed after) comes

pub added_on_the_way : MergingKeepsTheBase → AddedVersionsStay IsOnTheWay
added_on_the_way law t s u v files lines component wanted reply stands formed after comes =
    or_more (λ (adds : AddsVersion After u v files component wanted reply). record {
      update = adds.update;
      reply_is = adds.reply_is;
      stays = λ x later piece among apart on.
          let some = on_the_way_is_after_some v x files later on in
          adds.stays x some.0 piece among (first_untouched piece.path v files some.0 some.1 (subst (IsUntouched piece.path v files) some.2 apart)) some.3;
    }) (added_versions_stay law t s u v files lines component wanted reply stands formed after comes)

protected_at : (u v : State) (files : Option Files) (component : Option (List ℕ)) (verb : UpdateVerb) (reply : List ℕ) → IsGood u → Step u files (Sysupdate component verb) (gives v reply)
    → (v ≡ u) ⊎ KeepsProtected u v files component
protected_at none v files component verb reply good step = absurd (no_store v files step.intent reply step.wants step.comes)
protected_at (at g contents) v files component verbs.List reply good step =
    inl (answered (at g contents) v files step.intent reply (update_replies g.host (λ held. stored (bytes_at (at g contents) held.body)) files component verbs.List step.intent tt step.wants) step.comes)
protected_at (at g contents) v files component verbs.CheckNew reply good step =
    inl (answered (at g contents) v files step.intent reply (update_replies g.host (λ held. stored (bytes_at (at g contents) held.body)) files component verbs.CheckNew step.intent tt step.wants) step.comes)
protected_at (at g contents) v files component (verbs.Update wanted) reply good step =
    or_more (keeps_updated g contents files component v reply good wanted)
    (done_update g contents files component v reply wanted step.intent step.wants
    (step_planned (at g contents) files (Sysupdate component (verbs.Update wanted)) step.intent good (λ same. absurd (some_state g contents same)) step.wants) step.comes)
protected_at (at g contents) v files component verbs.Vacuum reply good step =
    or_more (keeps_vacuumed g contents files component v reply good)
    (done_vacuum g contents files component v reply step.intent step.wants
    (step_planned (at g contents) files (Sysupdate component verbs.Vacuum) step.intent good (λ same. absurd (some_state g contents same)) step.wants) step.comes)
protected_at (at g contents) v files component verbs.Features reply good step =
    inl (answered (at g contents) v files step.intent reply (update_replies g.host (λ held. stored (bytes_at (at g contents) held.body)) files component verbs.Features step.intent tt step.wants) step.comes)

pub protected_versions_stay : ProtectedVersionsStay
protected_versions_stay t s u v files lines component verb reply stands formed after comes =
    protected_at u v files component verb reply (lines_good s u files lines (stands_good t s stands) formed after) comes
