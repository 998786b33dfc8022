-- What a command that touches no path related to one wants of a host: another host whose base has the same at and below that path,
-- and whose installed manifest of that path is the same.
use Rattle.std.proofs.Common.{◌≡◌, ◌==◌, ℕ, Bool, true, false, cond, not, ◌&&◌, ◌||◌, if◌then◌else◌, List, [], ◌∷◌, ◌++◌, inl, inr, Option, Some, None, is_some, Ok, refl, sym, ap, ◌∙◌, subst, arith}
use Rattle.std.specs.Prelude.{Contains}
use Rattle.std.specs.Ordering.{eq_by_cmp}
use Rattle.std.specs.FinMap.Entries.{where_key}
use Rattle.std.proofs.Math.Bool.{or_comm}
use Rattle.std.proofs.lemmas.Bool.{and_parts, false_from_ne_true, false≢true, true≢false}
use Rattle.ext_lines.specs.ByteOrder.{bytes_cmp}
use Rattle.ext_text.specs.Path.{are_related, is_prefix, path_cmp}
use Rattle.ext_text.specs.SortedPaths.{is_among, meets}
use Rattle.ext_text.specs.declared.arch.Arch.{Arch}
use Rattle.ext_text.specs.declared.extension.Extension.{Extension}
use Rattle.ext_text.specs.declared.extension.Extension.TheVariants as extensions
use Rattle.ext_text.specs.declared.scope.Scope.{Scope}
use Rattle.ext_text.specs.declared.which.Which.{Which}
use Rattle.ext_text.proofs.ForCallers.{prefix_trans, same_name, tied_name}
use Rattle.ext_depot.specs.Depot.{Files}
use Rattle.ext_depot.specs.declared.depot_text.DepotText.{DepotText}
use Rattle.ext_depot.specs.declared.depot_text.DepotText.TheVariants.{Absent, TooLong, Whole}
use Rattle.ext_tree.specs.Cut.{cut}
use Rattle.ext_tree.specs.Graft.{IsGraft}
use Rattle.ext_tree.specs.Tree.{Entries, is_directory, lookup}
use Rattle.ext_tree.specs.declared.entry.Entry.{Entry}
use Rattle.ext_tree.specs.declared.entry.Entry.TheVariants.{Dir, Opaque, File, Link, Hide}
use Rattle.ext_tree.specs.declared.stamp.Stamp.{Stamp}
use Rattle.ext_tree.proofs.ForCallers.{find-join, grafted_apart, is_cut, lookup_where, prefix_split}
use Rattle.ext_host.specs.Held.{HeldFile}
use Rattle.ext_host.specs.Host.{IsBase, base_at, hierarchies_in, is_in, merged_hierarchies, present}
use Rattle.ext_host.specs.Limits.{passed_limit}
use Rattle.ext_host.specs.ReadOnly.{is_read_only}
use Rattle.ext_host.specs.Planning.{IsBaseTree, IsPlannedHost}
use Rattle.ext_host.specs.Shelf.{Told, stored}
use Rattle.ext_host.specs.Valid.{HasItems, IsValidHost}
use Rattle.ext_host.specs.declared.home.Home.{Home}
use Rattle.ext_host.specs.declared.host.Host.{Host}
use Rattle.ext_host.specs.declared.host.Plan.{Plan}
use Rattle.ext_host.specs.declared.manifest.Manifest.{Manifest}
use Rattle.ext_host.specs.declared.past.Past.{Past}
use Rattle.ext_transfer.specs.declared.transfer.Transfer.{Transfer}
use Rattle.ext_installed.specs.Installed.{AreInstalled}
use Rattle.ext_installed.specs.declared.instance.Instances.{Instances}
use Rattle.ext_updated.specs.Pieces.{piece_at}
use Rattle.ext_updated.specs.declared.piece.Piece.{Piece}
use Rattle.ext_updated.proofs.ForCallers.{any_among}
use Rattle.ext_update.specs.Laws.{StandsAsBefore}
use Rattle.ext_update.specs.Stages.{Writes, items_of, touched_by}
use Rattle.ext_update.specs.Steps.{IfUpdated, IfVacuumed}
use Rattle.ext_update.specs.Update as updating
use Rattle.ext_update.specs.Update.{writes_of}
use Rattle.ext_update.specs.Vacuum.{VacuumWants, no_writes}
use Rattle.ext_update.specs.declared.planned.Update.{Update}
use Rattle.ext_update.specs.declared.planned.Update.TheVariants as updated
use Rattle.ext_update.specs.declared.planned.Vacuum.{Vacuum}
use Rattle.ext_update.specs.declared.planned.Vacuum.TheVariants as vacuumed
use Rattle.ext_update.specs.declared.updates.Updates.{Updates}
use Rattle.ext_update.proofs.ForCallers.{manifests_are_kept, other_parts_stay, resources_stand, untouched_stand, update_writes, vacuum_removes}
use Rattle.ext_attached.specs.Going.{cut_paths, detached}
use Rattle.ext_attached.specs.declared.going.By.TheVariants.{Name}
use Rattle.ext_port.specs.Laws.{added_of}
use Rattle.ext_port.specs.Starting.{cut_of}
use Rattle.ext_gen.specs.Opened.{Generation}
use Rattle.ext_gen.specs.Store.{State, at, none}
use Rattle.ext_view.specs.Laws.{MergingKeepsTheBase}
use Rattle.ext_view.specs.Merging.{PlansView, Unmerges}
use Rattle.ext_view.specs.View.{IsMergedHost, chosen, with_view}
use Rattle.ext_view.specs.declared.surveyed.SurveyItem.{SurveyItem}
use Rattle.ext_cmd.specs.declared.answer.Answer.{Answer}
use Rattle.ext_cmd.specs.declared.answer.Answer.TheVariants as answers
use Rattle.ext_cmd.specs.declared.answer.Answer.TheVariants.{Done, Unchanged}
use Rattle.ext_cmd.specs.declared.command.Chosen.{Chosen}
use Rattle.ext_cmd.specs.declared.command.Command.{Command}
use Rattle.ext_cmd.specs.declared.command.Command.TheVariants.{Init, ImportFs, Remove, Sysext, Confext, Tree, Cat, Compare, Check, Layer, Migrate, Batch, Sample, Sysupdate, Components}
use Rattle.ext_cmd.specs.declared.command.Command.TheVariants.{Mark, History, HistoryChanges, Rollback, Forget, Portable}
use Rattle.ext_cmd.specs.declared.command.UpdateVerb.{UpdateVerb}
use Rattle.ext_cmd.specs.declared.command.UpdateVerb.TheVariants as verbs
use Rattle.ext_cmd.specs.declared.command.ViewCommand.{ViewCommand}
use Rattle.ext_cmd.specs.declared.command.ViewCommand.TheVariants as views
use Rattle.ext_cmd.specs.Portable.{ask_of, extensions_of}
use Rattle.ext_cmd.specs.declared.portable.AttachWords.{AttachWords}
use Rattle.ext_cmd.specs.declared.portable.PortCommand.{PortCommand}
use Rattle.ext_cmd.specs.declared.portable.PortCommand.TheVariants as services
use Rattle.ext_cmd.specs.declared.refusal.Refusal.TheVariants.{NoEntry, NotDirectory, ReadOnly}
use Rattle.ext_intents.specs.Cat.{cat_at}
use Rattle.ext_intents.specs.Change.{changed_at}
use Rattle.ext_intents.specs.Import.{FittingImportWants, OpenImportWants, TextWants, TreeWants, sized, within}
use Rattle.ext_intents.specs.Init.{IsNewHost}
use Rattle.ext_intents.specs.Intents.{IsAnswerOrRefusal}
use Rattle.ext_intents.specs.Marks.{forget_of, mark_in}
use Rattle.ext_intents.specs.Migrate.{migrate_intent}
use Rattle.ext_intents.specs.Portable.{AttachWants, DetachWants, PortWants}
use Rattle.ext_intents.specs.Remove.{remove_intent}
use Rattle.ext_intents.specs.Step.{WantsFirst, WantsOf}
use Rattle.ext_intents.specs.Tree.{meant_path, text_below, tree_at, tree_intent}
use Rattle.ext_intents.specs.Views.{MergeWants, RefreshWants, ViewWants, planned}
use Rattle.ext_intents.specs.declared.intent.Intent.{Intent}
use Rattle.ext_intents.specs.declared.intent.Intent.TheVariants.{Answers, Changes, Checks, Refuses, Shows}
use Rattle.ext_intents.specs.Sysupdate.{VerbWants}
use Rattle.ext_intents.specs.Updates.{AreOn, AreUpdates}
use Rattle.ext_intents.specs.Updating.{ByUpdate, ByVacuum, update_intent, vacuum_intent}
use Rattle.ext_intents.proofs.ForCallers.{components_reply, history_changes_reply, history_reply, port_replies, update_replies, view_replies}
use Rattle.ext_top.specs.Machine.{bytes_at}
use Rattle.ext_top.specs.Services.{TouchesByAttaching, TouchesByService}
use Rattle.ext_top.specs.Untouched.{CommandTouches, TouchesByVerb, base_in, installed_in}
use Rattle.ext_top.specs.Updating.{FindsInstances, MakesRoomIn, UpdatesHost, writes_in}
use Rattle.ext_top.proofs.ServicesLemmas.{IsChangedAt, attached_changes, attached_leaves, detached_changes, filter_has}

-- where another host is wanted, this holds of that one
abbrev pub IfChanges : (Host → Type 0) → Intent → Type 0
IfChanges P (Changes host answer) = P host
IfChanges P (Answers answer) = Unit {0}
IfChanges P Checks = Unit {0}
IfChanges P (Shows held) = Unit {0}
IfChanges P (Refuses refusal) = Unit {0}

-- what is wanted is the same
of_same : (P : Host → Type 0) (a b : Intent) → b ≡ a → IfChanges P a → IfChanges P b
of_same P a b is holds = subst (IfChanges P) (sym is) holds

-- two paths at or above one are related
either_true : (x y a b : Bool) → x ≡ true → y ≡ true → (a || b) ≡ true → ((x && a) || (y && b)) ≡ true
either_true true true a b x y both = both
either_true false y a b x y' both = absurd (false≢true x)
either_true true false a b x y both = absurd (false≢true y)

both_related : (a b q : List (List ℕ)) → is_prefix a q ≡ true → is_prefix b q ≡ true → are_related a b ≡ true
both_related [] b q first second = refl
both_related (n ∷ a) [] q first second = refl
both_related (n ∷ a) (m ∷ b) [] first second = absurd (false≢true first)
both_related (n ∷ a) (m ∷ b) (k ∷ q) first second =
    let x = and_parts (eq_by_cmp bytes_cmp n k) (is_prefix a q) first in
    let y = and_parts (eq_by_cmp bytes_cmp m k) (is_prefix b q) second in
    let same : n ≡ m = same_name n k x.0 ∙ sym (same_name m k y.0) in
    either_true (eq_by_cmp bytes_cmp n m) (eq_by_cmp bytes_cmp m n) (is_prefix a b) (is_prefix b a) (tied_name n m same) (tied_name m n (sym same)) (both_related a b q x.1 y.1)

second_related : (a b : List (List ℕ)) → is_prefix b a ≡ true → are_related a b ≡ true
second_related a b is = elim (is_prefix a b) as (λ x. (x || is_prefix b a) ≡ true) [ true ↦ refl | false ↦ is ]

-- what is at or below a path that is not related to another is neither at nor below that, nor above it
not_below : (other path q : List (List ℕ)) → are_related other path ≡ false → is_prefix path q ≡ true → is_prefix other q ≡ false
not_below other path q apart below = false_from_ne_true (is_prefix other q) (λ over. true≢false (sym (both_related other path q over below) ∙ apart))

not_above : (other path q : List (List ℕ)) → are_related other path ≡ false → is_prefix path q ≡ true → is_prefix q other ≡ false
not_above other path q apart below = false_from_ne_true (is_prefix q other) (λ over. true≢false (sym (second_related other path (prefix_trans path q other below over)) ∙ apart))

-- the base of another host has at and below the path what the state's has, and a manifest of the path that is installed stays so
pub record NextKeeps (path : List (List ℕ)) (s : State) (next : Host) : Type 0 where
  pub base : (q : List (List ℕ)) → is_prefix path q ≡ true → base_at (hierarchies_in next) (present next) q ≡ base_in s q
  pub installed : (manifest : Manifest) → manifest.path ≡ path → Contains (installed_in s) manifest → Contains next.kept manifest

-- a host has a base
base_is : (host : Host) → (es : Entries HeldFile) × IsBase host es
base_is host =
    let merged = merged_hierarchies (hierarchies_in host) (present host) in
    let under = where_key path_cmp (is_in merged) host.lower in
    let seen = where_key path_cmp (λ p. not (is_in merged p)) host.root in (
      under ++ seen,
      λ p.
          find-join path_cmp p under seen
          ∙ ap (λ o. cond (is_some o) o (lookup seen p)) (lookup_where (is_in merged) p host.lower)
          ∙ ap (λ o. cond (is_some (cond (is_in merged p) (lookup host.lower p) None)) (cond (is_in merged p) (lookup host.lower p) None) o) (lookup_where (λ q. not (is_in merged q)) p host.root)
          ∙ both (is_in merged p) (lookup host.lower p) (lookup host.root p),
    )
  where
    or_none : (o : Option (Entry HeldFile)) → cond (is_some o) o None ≡ o
    or_none None = refl
    or_none (Some e) = refl

    both : (b : Bool) (x y : Option (Entry HeldFile)) → cond (is_some (cond b x None)) (cond b x None) (cond (not b) y None) ≡ (if b then x else y)
    both true x y = or_none x
    both false x y = refl

-- what a host that is written over another one has of it, and of what was written
pub record IsWrittenOver (host next : Host) (writes : Writes) : Type 0 where
  pub rest : next ≡ record host { root = next.root; kept = next.kept }
  pub stands : (path : List (List ℕ)) → meets (touched_by (items_of writes)) path ≡ false → StandsAsBefore host.root next.root path
  pub manifests : IsValidHost next → (manifest : Manifest) → Contains host.kept manifest → meets (touched_by (items_of writes)) manifest.path ≡ false → Contains next.kept manifest
  pub resources : (piece : Piece HeldFile) → Contains writes.resources piece
      → ((rest : List (List ℕ)) → lookup next.root (piece.path ++ rest) ≡ piece_at piece rest)
      × ((manifest : Manifest) × Contains next.kept manifest × (manifest.path ≡ piece.path) × HasItems (λ path. lookup next.root path) manifest)

module _ (g : Generation) (contents : Home → List ℕ) where
  -- where what is seen is the same, the base of the host that is written is
  pub writes_base : (next : Host) (writes : Writes) → IsWrittenOver g.host next writes → (q : List (List ℕ)) → lookup next.root q ≡ lookup g.host.root q
      → base_at (hierarchies_in next) (present next) q ≡ base_in (at g contents) q
  writes_base next writes wants q same =
      ap (λ (h : Host). base_at (hierarchies_in h) (present h) q) wants.rest
      ∙ ap (λ o. if is_in (merged_hierarchies (hierarchies_in g.host) (present g.host)) q then lookup g.host.lower q else o) same

  module _ (files : Option Files) (component : Option (List ℕ)) (base : Entries HeldFile) (updates : Updates) (is : IsBaseTree g.host base)
      (are : AreUpdates (λ held. stored (bytes_at (at g contents) held.body)) files g.host base component updates) where
    -- an update that changes the host, and what it writes
    pub update_changes : (wanted : Option (List ℕ)) (version : List ℕ) (next : Host) → updating.UpdateWants files g.host updates wanted (updated.Changes version next)
        → (update : UpdatesHost (at g contents) files component wanted) × IsWrittenOver g.host next (writes_in update) × (update.updates ≡ updates) × (update.version ≡ version)
    update_changes wanted version next wants =
        let all = update_writes files g.host next updates wanted version wants in (
          record {
            updates = updates;
            finds = record { seen = record { host = g.host; number = g.number; newest = not (g.text == 1); told = λ held. stored (bytes_at (at g contents) held.body) }; is_seen = refl; base = base; is_base = is; are = are };
            version = version;
            next = next;
            wants = wants;
            resources = all.0;
            told = all.2;
            division = all.1;
            divides = all.3;
          },
          record {
            rest = other_parts_stay g.host next (writes_of updates version all.0 all.1) all.4;
            stands = λ path apart. untouched_stand g.host next (writes_of updates version all.0 all.1) path all.4 apart;
            manifests = λ valid manifest has apart. (manifests_are_kept g.host next (writes_of updates version all.0 all.1) [] all.4 valid tt).kept manifest has apart;
            resources = λ piece has. resources_stand g.host next (writes_of updates version all.0 all.1) piece all.4 has;
          },
          refl,
          refl,
        )

  module _ (files : Option Files) (component : Option (List ℕ)) (base : Entries HeldFile) (transfers : List Transfer) (instances : Instances) (is : IsBaseTree g.host base)
      (on : AreOn (λ held. stored (bytes_at (at g contents) held.body)) files g.host base component transfers) (are : AreInstalled base transfers instances) where
    -- the transfers that are on and their instances, as they are found
    abbrev pub found_instances : FindsInstances (at g contents) files component transfers instances
    found_instances = record {
      seen = record { host = g.host; number = g.number; newest = not (g.text == 1); told = λ held. stored (bytes_at (at g contents) held.body) };
      is_seen = refl;
      base = base;
      is_base = is;
      are_on = on;
      are = are;
    }

    -- room that is made, and what goes for it
    pub vacuum_changes : (removed : List (List (List ℕ))) (next : Host) → VacuumWants g.host transfers instances.items (vacuumed.Changes removed next)
        → (room : MakesRoomIn (at g contents) files component) × IsWrittenOver g.host next (no_writes room.division)
    vacuum_changes removed next wants =
        let all = vacuum_removes g.host next transfers instances.items removed wants in (
          record {
            transfers = transfers;
            instances = instances;
            finds = found_instances;
            removed = removed;
            next = next;
            wants = wants;
            division = all.0;
            divides = all.1;
            all = all.2;
          },
          record {
            rest = other_parts_stay g.host next (no_writes all.0) all.3;
            stands = λ path apart. untouched_stand g.host next (no_writes all.0) path all.3 apart;
            manifests = λ valid manifest has apart. (manifests_are_kept g.host next (no_writes all.0) [] all.3 valid tt).kept manifest has apart;
            resources = λ piece has. resources_stand g.host next (no_writes all.0) piece all.3 has;
          },
        )

module _ (path : List (List ℕ)) (g : Generation) (contents : Home → List ℕ) where
  abbrev Stays : Intent → Type 0
  Stays = IfChanges (NextKeeps path (at g contents))

  -- what is told of the host's files
  abbrev told_here : HeldFile → Told
  told_here held = stored (bytes_at (at g contents) held.body)

  -- a change at a path that is not related
  changed_keeps : (other : List (List ℕ)) (root : Entries HeldFile) → are_related other path ≡ false
      → ((q : List (List ℕ)) → is_prefix other q ≡ false → is_prefix q other ≡ false → lookup root q ≡ lookup g.host.root q)
      → NextKeeps path (at g contents) (changed_at g.host other root)
  changed_keeps other root apart same = record {
    base = λ q below.
        ap (λ o. if is_in (merged_hierarchies (hierarchies_in g.host) (present g.host)) q then lookup g.host.lower q else o)
        (same q (not_below other path q apart below) (not_above other path q apart below));
    installed = λ manifest is has.
        filter_has (λ (m : Manifest). not (are_related m.path other)) g.host.kept manifest has
        (ap not (ap (λ p. are_related p other) is ∙ or_comm (is_prefix path other) (is_prefix other path) ∙ apart));
  }

  -- `import-fs`
  graft_apart : (other : List (List ℕ)) (part root : Entries HeldFile) → IsGraft g.host.root other part root
      → (q : List (List ℕ)) → is_prefix other q ≡ false → is_prefix q other ≡ false → lookup root q ≡ lookup g.host.root q
  graft_apart [] part root is q apart out = absurd (true≢false apart)
  graft_apart (name ∷ other) part root is q apart out = is.each q ∙ grafted_apart g.host.root part (name ∷ other) q (omega arith) out apart

  within_keeps : (next : Host) (limit : Option Which) → NextKeeps path (at g contents) next → Stays (within next limit)
  within_keeps next None keeps = keeps
  within_keeps next (Some which) keeps = tt

  fitting_keeps : (resource other : List (List ℕ)) (es : Entries Stamp) (intent : Intent) → are_related other path ≡ false → FittingImportWants g.host resource other es intent → Stays intent
  fitting_keeps resource other es intent apart (inl (fit, (root, grafted, is))) =
      let next = changed_at g.host other root in
      of_same (NextKeeps path (at g contents)) (sized next) intent is
      (within_keeps next (passed_limit next.root next.lower) (changed_keeps other root apart (graft_apart other _ root grafted)))
  fitting_keeps resource other es intent apart (inr (large, is)) = of_same (NextKeeps path (at g contents)) _ intent is tt

  open_keeps : (resource other : List (List ℕ)) (es : Entries Stamp) (intent : Intent) → are_related other path ≡ false → OpenImportWants g.host resource other es intent → Stays intent
  open_keeps resource other es intent apart (inl (free, wants)) = fitting_keeps resource other es intent apart wants
  open_keeps resource other es intent apart (inr (over, under, is)) = of_same (NextKeeps path (at g contents)) _ intent is tt

  tree_keeps : (resource other : List (List ℕ)) (es : Entries Stamp) (intent : Intent) → are_related other path ≡ false → TreeWants g.host resource other es intent → Stays intent
  tree_keeps resource other es intent apart (inl (free, wants)) = open_keeps resource other es intent apart wants
  tree_keeps resource other es intent apart (inr (locked, (over, is_over, is))) = of_same (NextKeeps path (at g contents)) _ intent is tt

  text_keeps : (resource other : List (List ℕ)) (found : DepotText) (intent : Intent) → are_related other path ≡ false → TextWants g.host resource other found intent → Stays intent
  text_keeps resource other Absent intent apart is = of_same (NextKeeps path (at g contents)) _ intent is tt
  text_keeps resource other TooLong intent apart is = of_same (NextKeeps path (at g contents)) _ intent is tt
  text_keeps resource other (Whole bytes) intent apart (inl (es, text, wants)) = tree_keeps resource other es intent apart wants
  text_keeps resource other (Whole bytes) intent apart (inr (line, fault, is)) = of_same (NextKeeps path (at g contents)) _ intent is tt

  -- `remove`
  cut_apart : (other q : List (List ℕ)) → is_prefix other q ≡ false → lookup (cut other g.host.root) q ≡ lookup g.host.root q
  cut_apart other q apart = is_cut other g.host.root q ∙ ap (λ b. if b then None else lookup g.host.root q) apart

  remove_keeps : (other : List (List ℕ)) → are_related other path ≡ false → Stays (remove_intent g.host other)
  remove_keeps other apart =
      elim (not (is_some (lookup g.host.root other))) as (λ b. Stays (if b then Refuses (NoEntry other) else if is_read_only g.host other then Refuses (ReadOnly other) else Changes (changed_at g.host other (cut other g.host.root)) Done)) [
        | true ↦ tt
        | false ↦ elim (is_read_only g.host other) as (λ b. Stays (if b then Refuses (ReadOnly other) else Changes (changed_at g.host other (cut other g.host.root)) Done)) [
          | true ↦ tt
          | false ↦ changed_keeps other (cut other g.host.root) apart (λ q out _. cut_apart other q out)
        ]
      ]

  -- `sysupdate`
  none_meets : (ps : List (List (List ℕ))) → ((other : List (List ℕ)) → is_among ps other ≡ true → are_related other path ≡ false) → meets ps path ≡ false
  none_meets ps apart = false_from_ne_true (meets ps path) (λ met. let a = any_among (λ p. are_related p path) ps met in true≢false (sym a.2 ∙ apart a.0 a.1))

  writes_keep : (next : Host) (writes : Writes) → IsWrittenOver g.host next writes → IsValidHost next → meets (touched_by (items_of writes)) path ≡ false → NextKeeps path (at g contents) next
  writes_keep next writes wants valid apart =
      let stands = wants.stands path apart in
      record {
        base = λ q below.
            let split = prefix_split path q below in
            writes_base g contents next writes wants q (ap (lookup next.root) split ∙ stands _ ∙ sym (ap (lookup g.host.root) split));
        installed = λ manifest is has. wants.manifests valid manifest has (subst (λ p. meets (touched_by (items_of writes)) p ≡ false) (sym is) apart);
      }

  module _ (files : Option Files) (component : Option (List ℕ)) (base : Entries HeldFile) (updates : Updates) (is : IsBaseTree g.host base) (are : AreUpdates told_here files g.host base component updates) where
    updated_keeps : (wanted : Option (List ℕ)) (update : Update) → ((other : List (List ℕ)) → TouchesByVerb (at g contents) files component (verbs.Update wanted) other → are_related other path ≡ false)
        → updating.UpdateWants files g.host updates wanted update → IfUpdated (IsPlannedHost g.host) update → Stays (update_intent wanted update)
    updated_keeps wanted updated.Unchanged apart wants plans_it = tt
    updated_keeps wanted (updated.Changes version next) apart wants plans_it =
        let all = update_changes g contents files component base updates is are wanted version next wants in
        writes_keep next (writes_in all.0) all.1 plans_it.valid (none_meets (touched_by (items_of (writes_in all.0))) (λ other among. apart other (all.0, among)))
    updated_keeps wanted (updated.Refused reason) apart wants plans_it = tt

    by_update_keeps : (wanted : Option (List ℕ)) (intent : Intent) → ((other : List (List ℕ)) → TouchesByVerb (at g contents) files component (verbs.Update wanted) other → are_related other path ≡ false)
        → ByUpdate files g.host wanted updates intent → Stays intent
    by_update_keeps wanted intent apart (update, wants, plans_it, same) = of_same (NextKeeps path (at g contents)) _ intent same (updated_keeps wanted update apart wants plans_it)

  module _ (files : Option Files) (component : Option (List ℕ)) (base : Entries HeldFile) (transfers : List Transfer) (instances : Instances) (is : IsBaseTree g.host base)
      (on : AreOn told_here files g.host base component transfers) (are : AreInstalled base transfers instances) where
    vacuumed_keeps : (vacuum : Vacuum) → ((other : List (List ℕ)) → TouchesByVerb (at g contents) files component verbs.Vacuum other → are_related other path ≡ false)
        → VacuumWants g.host transfers instances.items vacuum → IfVacuumed (IsPlannedHost g.host) vacuum → Stays (vacuum_intent vacuum)
    vacuumed_keeps vacuumed.Unchanged apart wants plans_it = tt
    vacuumed_keeps (vacuumed.Changes removed next) apart wants plans_it =
        let all = vacuum_changes g contents files component base transfers instances is on are removed next wants in
        writes_keep next (no_writes all.0.division) all.1 plans_it.valid
        (subst (λ ps. meets ps path ≡ false) all.0.all (none_meets all.0.removed (λ other among. apart other (all.0, among))))
    vacuumed_keeps (vacuumed.Refused reason) apart wants plans_it = tt

    by_vacuum_keeps : (intent : Intent) → ((other : List (List ℕ)) → TouchesByVerb (at g contents) files component verbs.Vacuum other → are_related other path ≡ false) → ByVacuum g.host transfers instances.items intent → Stays intent
    by_vacuum_keeps intent apart (vacuum, wants, plans_it, same) = of_same (NextKeeps path (at g contents)) _ intent same (vacuumed_keeps vacuum apart wants plans_it)

  reply_keeps : (intent : Intent) → IsAnswerOrRefusal intent → Stays intent
  reply_keeps (Changes next answer) replies = absurd replies
  reply_keeps (Answers answer) replies = tt
  reply_keeps Checks replies = tt
  reply_keeps (Shows held) replies = tt
  reply_keeps (Refuses refusal) replies = tt

  verb_keeps : (files : Option Files) (component : Option (List ℕ)) (verb : UpdateVerb) (intent : Intent) → ((other : List (List ℕ)) → TouchesByVerb (at g contents) files component verb other → are_related other path ≡ false)
      → VerbWants g.host told_here files component verb intent → Stays intent
  verb_keeps files component verbs.List intent apart wants = reply_keeps intent (update_replies g.host told_here files component verbs.List intent tt wants)
  verb_keeps files component verbs.CheckNew intent apart wants = reply_keeps intent (update_replies g.host told_here files component verbs.CheckNew intent tt wants)
  verb_keeps files component (verbs.Update wanted) intent apart (base, is, inl (updates, are, by)) = by_update_keeps files component base updates is are wanted intent apart by
  verb_keeps files component (verbs.Update wanted) intent apart (base, is, inr (refusal, lacking, same)) = of_same (NextKeeps path (at g contents)) _ intent same tt
  verb_keeps files component verbs.Vacuum intent apart (base, is, inl (transfers, instances, on, are, by)) = by_vacuum_keeps files component base transfers instances is on are intent apart by
  verb_keeps files component verbs.Vacuum intent apart (base, is, inr (refusal, lacking, same)) = of_same (NextKeeps path (at g contents)) _ intent same tt
  verb_keeps files component verbs.Features intent apart wants = reply_keeps intent (update_replies g.host told_here files component verbs.Features intent tt wants)

  -- `portable`
  changes_keep : (next : Host) (paths : List (List (List ℕ))) → IsChangedAt g.host next paths → ((other : List (List ℕ)) → is_among paths other ≡ true → are_related other path ≡ false) → NextKeeps path (at g contents) next
  changes_keep next paths changed apart =
      let none = none_meets paths apart in
      record {
        base = λ q below.
            ap (λ (h : Host). base_at (hierarchies_in h) (present h) q) changed.rest
            ∙ ap (λ o. if is_in (merged_hierarchies (hierarchies_in g.host) (present g.host)) q then lookup g.host.lower q else o) (changed.stands path q none below);
        installed = λ manifest is has. changed.manifests manifest has (subst (λ p. meets paths p ≡ false) (sym is) none);
      }

  attach_keeps : (again : Bool) (words : AttachWords) (intent : Intent) → ((other : List (List ℕ)) → TouchesByAttaching (at g contents) again words other → are_related other path ≡ false) → AttachWants g.host told_here again words intent → Stays intent
  attach_keeps again words intent apart (inl (attach, attached, planned, is)) =
      of_same (NextKeeps path (at g contents)) _ intent is
      (changes_keep attach.plan.next (cut_of again words.image g.host ++ added_of (ask_of words) attach.plan.next)
      (attached_changes again g.host (ask_of words) attach.plan.next (attached_leaves told_here again g.host (ask_of words) (extensions_of words) attach attached))
      (λ other among. apart other (record { seen = record { host = g.host; number = g.number; newest = not (g.text == 1); told = told_here }; is_seen = refl; attach = attach; attached = attached }, among)))
  attach_keeps again words intent apart (inr (refusal, fails, is)) = of_same (NextKeeps path (at g contents)) _ intent is tt

  detach_keeps : (name : List ℕ) (intent : Intent) → ((other : List (List ℕ)) → TouchesByService (at g contents) (services.Detach name) other → are_related other path ≡ false) → DetachWants g.host name intent → Stays intent
  detach_keeps name intent apart (inl (plan, detaches, is)) =
      of_same (NextKeeps path (at g contents)) _ intent is
      (subst (NextKeeps path (at g contents)) (sym detaches.2)
      (changes_keep (detached Name name g.host) (cut_paths Name name g.host) (detached_changes Name name g.host)
      (λ other among. apart other (record { host = g.host; number = g.number; newest = not (g.text == 1); told = told_here }, refl, among))))
  detach_keeps name intent apart (inr (error, refusal, fails, told, is)) = of_same (NextKeeps path (at g contents)) _ intent is tt

  service_keeps : (command : PortCommand) (intent : Intent) → ((other : List (List ℕ)) → TouchesByService (at g contents) command other → are_related other path ≡ false) → PortWants g.host told_here command intent → Stays intent
  service_keeps services.List intent apart wants = reply_keeps intent (port_replies g.host told_here services.List intent tt wants)
  service_keeps (services.Inspect image prefixes) intent apart wants = reply_keeps intent (port_replies g.host told_here (services.Inspect image prefixes) intent tt wants)
  service_keeps (services.IsAttached name) intent apart wants = reply_keeps intent (port_replies g.host told_here (services.IsAttached name) intent tt wants)
  service_keeps (services.Attach words) intent apart wants = attach_keeps false words intent apart wants
  service_keeps (services.Detach name) intent apart wants = detach_keeps name intent apart wants
  service_keeps (services.Reattach words) intent apart wants = attach_keeps true words intent apart wants

  -- commands on extensions
  kept_with : (class : Extension) (names : Option (List (List ℕ))) (root lower : Entries HeldFile) → (with_view class names root lower g.host).kept ≡ g.host.kept
  kept_with extensions.Sysext names root lower = refl
  kept_with extensions.Confext names root lower = refl

  merged_kept : (class : Extension) (base : Entries HeldFile) (items : List SurveyItem) (next : Host) → IsMergedHost g.host class base items next → next.kept ≡ g.host.kept
  merged_kept class base [] next is = ap (λ (h : Host). h.kept) is.same ∙ kept_with class None next.root next.lower
  merged_kept class base (item ∷ items) next is = ap (λ (h : Host). h.kept) is.same ∙ kept_with class _ next.root next.lower

  merged_of : (class : Extension) (base : Entries HeldFile) (items : List SurveyItem) (plan : Plan) → PlansView g.host class base items (Some plan) → IsMergedHost g.host class base items plan.next
  merged_of class base [] plan plans = plans.1
  merged_of class base (item ∷ items) plan plans = plans

  -- the same host
  same_keeps : NextKeeps path (at g contents) g.host
  same_keeps = record { base = λ q below. refl; installed = λ manifest is has. has }

  module _ (law : MergingKeepsTheBase) (valid : IsValidHost g.host) where
    merged_keeps : (class : Extension) (base : Entries HeldFile) (items : List SurveyItem) (next : Host) → IsBase g.host base → IsMergedHost g.host class base items next → NextKeeps path (at g contents) next
    merged_keeps class base items next is merged = record {
      base = λ q below. sym (law g.host class base items next valid is merged q) ∙ is q;
      installed = λ manifest _ has. subst (λ l. Contains l manifest) (sym (merged_kept class base items next merged)) has;
    }

    view_plan_keeps : (class : Extension) (base : Entries HeldFile) (items : List SurveyItem) (plan : Option Plan) (answer : Answer) → IsBase g.host base → PlansView g.host class base items plan → Stays (planned plan answer)
    view_plan_keeps class base items None answer is plans = tt
    view_plan_keeps class base items (Some plan) answer is plans = merged_keeps class base items plan.next is (merged_of class base items plan plans)

    refresh_keeps : (told : HeldFile → Told) (class : Extension) (force : Bool) (intent : Intent) → RefreshWants g.host told class force intent → Stays intent
    refresh_keeps told class force intent (base, is, inl (merge, refreshed, next, plan_is)) =
        of_same (NextKeeps path (at g contents)) _ intent plan_is (view_plan_keeps class base (chosen refreshed.items) merge.plan (answers.Merged merge.names) is.is_base refreshed.plan)
    refresh_keeps told class force intent (base, is, inr (refusal, why, refuses_is)) = of_same (NextKeeps path (at g contents)) _ intent refuses_is tt

    merge_keeps : (told : HeldFile → Told) (class : Extension) (force : Bool) (intent : Intent) → MergeWants g.host told class force intent → Stays intent
    merge_keeps told class force intent (inl (merged, is)) = of_same (NextKeeps path (at g contents)) _ intent is tt
    merge_keeps told class force intent (inr (free, wants)) = refresh_keeps told class force intent wants

    unmerge_plan_keeps : (class : Extension) (plan : Option Plan) → Unmerges g.host class (Ok plan) → Stays (planned plan answers.Unmerged)
    unmerge_plan_keeps class None unmerges = tt
    unmerge_plan_keeps class (Some plan) unmerges = let base = base_is g.host in merged_keeps class base.0 [] plan.next base.1 unmerges.1

    view_keeps : (told : HeldFile → Told) (class : Extension) (view : ViewCommand) (intent : Intent) → ViewWants g.host told class view intent → Stays intent
    view_keeps told class views.List intent wants = reply_keeps intent (view_replies g.host told class views.List intent tt wants)
    view_keeps told class views.Status intent wants = reply_keeps intent (view_replies g.host told class views.Status intent tt wants)
    view_keeps told class (views.Merge force) intent wants = merge_keeps told class force intent wants
    view_keeps told class views.Unmerge intent (plan, unmerges, next, is) = of_same (NextKeeps path (at g contents)) _ intent is (unmerge_plan_keeps class plan unmerges)
    view_keeps told class (views.Refresh force) intent wants = refresh_keeps told class force intent wants
    view_keeps told class (views.Changes force) intent wants = reply_keeps intent (view_replies g.host told class (views.Changes force) intent tt wants)
    view_keeps told class (views.Explain force other) intent wants = reply_keeps intent (view_replies g.host told class (views.Explain force other) intent tt wants)

    -- commands that want no other host
    tree_at_keeps : (other : List (List ℕ)) (entry : Option (Entry HeldFile)) → Stays (tree_at g.host other entry)
    tree_at_keeps other None = tt
    tree_at_keeps other (Some entry) = elim (is_directory entry) as (λ b. Stays (if b then Answers (answers.Tree (text_below g.host other)) else Refuses (NotDirectory other))) [ true ↦ tt | false ↦ tt ]

    tree_text_keeps : (other : List (List ℕ)) → Stays (tree_intent g.host other)
    tree_text_keeps [] = tt
    tree_text_keeps (name ∷ other) = tree_at_keeps (name ∷ other) (lookup g.host.root (name ∷ other))

    cat_keeps : (other : List (List ℕ)) (entry : Option (Entry HeldFile)) → Stays (cat_at other entry)
    cat_keeps other None = tt
    cat_keeps other (Some (Dir attributes)) = tt
    cat_keeps other (Some (Opaque attributes)) = tt
    cat_keeps other (Some (File attributes held)) = tt
    cat_keeps other (Some (Link owner target)) = tt
    cat_keeps other (Some Hide) = tt

    migrate_keeps : (newest : Bool) → Stays (migrate_intent g.host newest)
    migrate_keeps newest = elim newest as (λ b. Stays (if b then Answers Unchanged else Changes g.host Done)) [ true ↦ tt | false ↦ same_keeps ]

    -- commands of marks
    forget_keeps : (number : ℕ) (found : Option Past) → Stays (forget_of g.host number found)
    forget_keeps number None = tt
    forget_keeps number (Some mark) = record { base = λ q below. refl; installed = λ manifest is has. has }

    -- each command
    pub wants_keep : (files : Option Files) (command : Command) (intent : Intent) → ((other : List (List ℕ)) → CommandTouches (at g contents) files command other → are_related other path ≡ false)
        → WantsOf (record { host = g.host; number = g.number; newest = not (g.text == 1); told = told_here }) files command intent → Stays intent
    wants_keep files (Init arch scope hierarchies) intent apart is = of_same (NextKeeps path (at g contents)) _ intent is tt
    wants_keep files (ImportFs resource other) intent apart (found, text, wants) = text_keeps resource other found intent (apart other refl) wants
    wants_keep files (Remove other) intent apart is = of_same (NextKeeps path (at g contents)) _ intent is (remove_keeps other (apart other refl))
    wants_keep files (Sysext view) intent apart wants = view_keeps told_here extensions.Sysext view intent wants
    wants_keep files (Confext view) intent apart wants = view_keeps told_here extensions.Confext view intent wants
    wants_keep files (Tree other) intent apart is = of_same (NextKeeps path (at g contents)) _ intent is (tree_text_keeps (meant_path other))
    wants_keep files (Cat other) intent apart is = of_same (NextKeeps path (at g contents)) _ intent is (cat_keeps other (lookup g.host.root other))
    wants_keep files (Compare a b) intent apart is = of_same (NextKeeps path (at g contents)) _ intent is tt
    wants_keep files Check intent apart is = of_same (NextKeeps path (at g contents)) _ intent is tt
    wants_keep files Layer intent apart is = absurd is
    wants_keep files Migrate intent apart is = of_same (NextKeeps path (at g contents)) _ intent is (migrate_keeps (not (g.text == 1)))
    wants_keep files Batch intent apart is = absurd is
    wants_keep files (Sample images) intent apart is = absurd is
    wants_keep files (Sysupdate component verb) intent apart wants = verb_keeps files component verb intent apart wants
    wants_keep files Components intent apart wants = reply_keeps intent (components_reply g.host intent wants)
    wants_keep files (Mark keep) intent apart wants = of_same (NextKeeps path (at g contents)) _ intent wants.1 (record { base = λ q below. refl; installed = λ manifest is has. has })
    wants_keep files History intent apart wants = reply_keeps intent (history_reply g.host intent wants)
    wants_keep files (HistoryChanges mark) intent apart wants = reply_keeps intent (history_changes_reply g.host mark intent wants)
    wants_keep files (Rollback mark) intent apart is = let touched : are_related [] path ≡ false = apart [] tt in absurd (true≢false touched)
    wants_keep files (Forget mark) intent apart is = of_same (NextKeeps path (at g contents)) _ intent is (forget_keeps mark (mark_in mark g.host.past))
    wants_keep files (Portable command) intent apart wants = service_keeps command intent apart wants

-- a new host has nothing in its base, and no manifest was installed before
bare : (b : Bool) (root lower : Entries HeldFile) (q : List (List ℕ)) → root ≡ [] → lower ≡ [] → (if b then lookup lower q else lookup root q) ≡ None
bare true root lower q empty none_under = ap (λ es. lookup es q) none_under
bare false root lower q empty none_under = ap (λ es. lookup es q) empty

init_keeps : (path : List (List ℕ)) (arch : Arch) (scope : Scope) (hierarchies : Chosen) (host : Host) → IsNewHost arch scope hierarchies host → NextKeeps path none host
init_keeps path arch scope hierarchies host is = record {
  base = λ q below. bare (is_in (merged_hierarchies (hierarchies_in host) (present host)) q) host.root host.lower q is.root is.lower;
  installed = λ manifest _ (k, lt, same). absurd (omega arith);
}

-- each command where there is no host
pub first_wants_keep : (path : List (List ℕ)) (command : Command) (intent : Intent) → WantsFirst command intent → IfChanges (NextKeeps path none) intent
first_wants_keep path (Init arch scope hierarchies) intent (host, new, is) = of_same (NextKeeps path none) _ intent is (init_keeps path arch scope hierarchies host new)
first_wants_keep path (ImportFs resource other) intent is = of_same (NextKeeps path none) _ intent is tt
first_wants_keep path (Remove other) intent is = of_same (NextKeeps path none) _ intent is tt
first_wants_keep path (Sysext view) intent is = of_same (NextKeeps path none) _ intent is tt
first_wants_keep path (Confext view) intent is = of_same (NextKeeps path none) _ intent is tt
first_wants_keep path (Tree other) intent is = of_same (NextKeeps path none) _ intent is tt
first_wants_keep path (Cat other) intent is = of_same (NextKeeps path none) _ intent is tt
first_wants_keep path (Compare a b) intent is = of_same (NextKeeps path none) _ intent is tt
first_wants_keep path Check intent is = of_same (NextKeeps path none) _ intent is tt
first_wants_keep path Layer intent is = absurd is
first_wants_keep path Migrate intent is = of_same (NextKeeps path none) _ intent is tt
first_wants_keep path Batch intent is = absurd is
first_wants_keep path (Sample images) intent is = absurd is
first_wants_keep path (Sysupdate component verb) intent is = of_same (NextKeeps path none) _ intent is tt
first_wants_keep path Components intent is = of_same (NextKeeps path none) _ intent is tt
first_wants_keep path (Mark keep) intent is = of_same (NextKeeps path none) _ intent is tt
first_wants_keep path History intent is = of_same (NextKeeps path none) _ intent is tt
first_wants_keep path (HistoryChanges mark) intent is = of_same (NextKeeps path none) _ intent is tt
first_wants_keep path (Rollback mark) intent is = of_same (NextKeeps path none) _ intent is tt
first_wants_keep path (Forget mark) intent is = of_same (NextKeeps path none) _ intent is tt
first_wants_keep path (Portable command) intent is = of_same (NextKeeps path none) _ intent is tt
