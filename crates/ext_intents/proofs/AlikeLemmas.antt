-- What a command wants rests on what is told of the host's files, and on nothing else that is told.
use Rattle.std.proofs.Common.{ℕ, Bool, false, Option, List, [], ◌∷◌, inl, inr, subst}
use Rattle.std.specs.FinMap.{FinMap}
use Rattle.ext_lines.specs.ByteOrder.{bytes_cmp}
use Rattle.ext_text.specs.declared.extension.Extension.{Extension}
use Rattle.ext_text.specs.declared.extension.Extension.TheVariants as extensions
use Rattle.ext_text.specs.declared.which.Which.{Which}
use Rattle.ext_depot.specs.Depot.{Files}
use Rattle.ext_tree.specs.Tree.{Entries}
use Rattle.ext_host.specs.Held.{HeldFile}
use Rattle.ext_host.specs.Shelf.{Told}
use Rattle.ext_host.specs.declared.host.Host.{Host}
use Rattle.ext_host.specs.Planning.{IsBaseTree}
use Rattle.ext_find.specs.HostRelease.{IsGiven}
use Rattle.ext_find.specs.declared.found.FoundItem.{FoundItem}
use Rattle.ext_find.specs.declared.found.FoundKind.{FoundKind}
use Rattle.ext_find.specs.declared.found.FoundKind.TheVariants as found
use Rattle.ext_view.specs.Matched.{AreMatched}
use Rattle.ext_view.specs.Merging.{IsRefreshed, IsTooLarge}
use Rattle.ext_view.specs.Surveying.{HasHostRelease, IsHostRelease, IsItemOf, IsJudged, IsKindOf, IsSurveyOf}
use Rattle.ext_view.specs.declared.outcome.Merge.{Merge}
use Rattle.ext_view.specs.declared.surveyed.SurveyItem.{SurveyItem}
use Rattle.ext_view.specs.declared.surveyed.SurveyKind.{SurveyKind}
use Rattle.ext_changes.specs.Changes as changes
use Rattle.ext_origin.specs.declared.origin.Origin.{Origin}
use Rattle.ext_explain.specs.Explaining.{AreOrigins}
use Rattle.ext_explain.specs.ViewChanges.{AreViewChanges}
use Rattle.ext_cmd.specs.declared.command.Command.{Command}
use Rattle.ext_cmd.specs.declared.command.Command.TheVariants.{Init, ImportFs, Remove, Sysext, Confext, Tree, Cat, Compare, Check, Layer, Migrate, Batch, Sample, Sysupdate, Components}
use Rattle.ext_cmd.specs.declared.command.Command.TheVariants.{Mark, History, HistoryChanges, Rollback, Forget, Portable}
use Rattle.ext_cmd.specs.declared.command.ViewCommand.{ViewCommand}
use Rattle.ext_cmd.specs.declared.command.ViewCommand.TheVariants as views
use Rattle.ext_cmd.specs.declared.refusal.Refusal.{Refusal}
use Rattle.ext_cmd.specs.declared.refusal.Refusal.TheVariants as refusals
use Rattle.ext_intents.specs.Step.{TellAlike, WantsOf}
use Rattle.ext_intents.specs.Views.{ChangesWants, ExplainWants, IsNotRefreshed, IsNotSurveyed, ListWantsOf, MergeWants, RefreshWants, RefreshWantsOf, ViewWants}
use Rattle.ext_intents.specs.declared.intent.Intent.{Intent}
use Rattle.ext_intents.proofs.PortableAlikeLemmas.{port_alike}
use Rattle.ext_intents.proofs.UpdateAlikeLemmas.{update_alike}
use Rattle.ext_intents.proofs.ViewFilesLemmas.{host_file, image_file}

matched_weaker : {X Y : Type 0} (R S : X → Y → Type 0) (xs : List X) (ys : List Y) → ((x : X) (y : Y) → R x y → S x y) → AreMatched R xs ys → AreMatched S xs ys
matched_weaker R S [] [] weaker all = tt
matched_weaker R S [] (y ∷ ys) weaker all = absurd all
matched_weaker R S (x ∷ xs) [] weaker all = absurd all
matched_weaker R S (x ∷ xs) (y ∷ ys) weaker all = (weaker x y all.0, matched_weaker R S xs ys weaker all.1)

module _ (host : Host) (told other : HeldFile → Told) (alike : TellAlike host told other) where
  host_alike : (base : Entries HeldFile) (bytes : List ℕ) → IsBaseTree host base → HasHostRelease told base bytes → HasHostRelease other base bytes
  host_alike base bytes is has = record {
    file = has.file;
    is_file = has.is_file;
    given = subst (λ t. IsGiven t has.file bytes) (alike has.file (host_file host base has.file is has.is_file)) has.given;
  }

  release_alike : (base : Entries HeldFile) (release : FinMap bytes_cmp (List ℕ)) → IsBaseTree host base → IsHostRelease told base release → IsHostRelease other base release
  release_alike base release is reads = record { bytes = reads.bytes; has = host_alike base reads.bytes is reads.has; reads = reads.reads }

  judged_alike : (base : Entries HeldFile) (class : Extension) (force : Bool) (release : FinMap bytes_cmp (List ℕ)) (place : List (List ℕ)) (name : List ℕ) (kind : SurveyKind) → IsBaseTree host base
      → IsJudged told host base class force release place name kind → IsJudged other host base class force release place name kind
  judged_alike base class force release place name kind is judged = record {
    file = judged.file;
    is_file = judged.is_file;
    bytes = judged.bytes;
    given = subst (λ t. IsGiven t judged.file judged.bytes) (alike judged.file (image_file host base class place name judged.file is judged.is_file)) judged.given;
    makes = judged.makes;
  }

  kind_alike : (base : Entries HeldFile) (class : Extension) (force : Bool) (release : FinMap bytes_cmp (List ℕ)) (place : List (List ℕ)) (name : List ℕ) (found_kind : FoundKind) (kind : SurveyKind) → IsBaseTree host base
      → IsKindOf told host base class force release place name found_kind kind → IsKindOf other host base class force release place name found_kind kind
  kind_alike base class force release place name found.Masked kind is of = of
  kind_alike base class force release place name found.Raw kind is of = of
  kind_alike base class force release place name (found.Broken why) kind is of = of
  kind_alike base class force release place name found.Image kind is of = judged_alike base class force release place name kind is of

  item_alike : (base : Entries HeldFile) (class : Extension) (force : Bool) (release : FinMap bytes_cmp (List ℕ)) → IsBaseTree host base → (found_item : FoundItem) (item : SurveyItem)
      → IsItemOf told host base class force release found_item item → IsItemOf other host base class force release found_item item
  item_alike base class force release is found_item item of = record {
    name = of.name;
    place = of.place;
    kind = kind_alike base class force release found_item.place found_item.name found_item.kind item.kind is of.kind;
  }

  survey_alike : (base : Entries HeldFile) (class : Extension) (force : Bool) (items : List SurveyItem) → IsBaseTree host base → IsSurveyOf told host base class force items → IsSurveyOf other host base class force items
  survey_alike base class force items is of = record {
    release = of.release;
    is_release = release_alike base of.release is of.is_release;
    surveyed = record {
      found_items = of.surveyed.found_items;
      are_found = of.surveyed.are_found;
      each = matched_weaker (IsItemOf told host base class force of.release) (IsItemOf other host base class force of.release) of.surveyed.found_items items (item_alike base class force of.release is) of.surveyed.each;
    };
  }

  refreshed_alike : (base : Entries HeldFile) (class : Extension) (force : Bool) (merge : Merge) → IsBaseTree host base → IsRefreshed told host base class force merge → IsRefreshed other host base class force merge
  refreshed_alike base class force merge is of = record { items = of.items; surveyed = survey_alike base class force of.items is of.surveyed; names = of.names; plan = of.plan }

  large_alike : (base : Entries HeldFile) (class : Extension) (force : Bool) (which : Which) → IsBaseTree host base → IsTooLarge told host base class force which → IsTooLarge other host base class force which
  large_alike base class force which is of = record {
    items = of.items;
    surveyed = survey_alike base class force of.items is of.surveyed;
    non_empty = of.non_empty;
    images = of.images;
    are_images = of.are_images;
    root = of.root;
    lower = of.lower;
    trees = of.trees;
    passes = of.passes;
  }

  not_surveyed_alike : (base : Entries HeldFile) (refusal : Refusal) → IsBaseTree host base → IsNotSurveyed told base refusal → IsNotSurveyed other base refusal
  not_surveyed_alike base refusals.NoHostRelease is not = not
  not_surveyed_alike base (refusals.BadHostRelease line) is (bytes, has, fault) = (bytes, host_alike base bytes is has, fault)
  not_surveyed_alike base refusals.NoStore is not = absurd not
  not_surveyed_alike base refusals.StoreExists is not = absurd not
  not_surveyed_alike base refusals.Merged is not = absurd not
  not_surveyed_alike base (refusals.ReadOnly path) is not = absurd not
  not_surveyed_alike base (refusals.Limit which) is not = absurd not
  not_surveyed_alike base (refusals.NoEntry path) is not = absurd not
  not_surveyed_alike base (refusals.NotDirectory path) is not = absurd not
  not_surveyed_alike base (refusals.NotFile path) is not = absurd not
  not_surveyed_alike base (refusals.BadTree line path) is not = absurd not
  not_surveyed_alike base (refusals.NotInDepot path) is not = absurd not
  not_surveyed_alike base (refusals.Mismatch path listed found) is not = absurd not
  not_surveyed_alike base refusals.NoTransfers is not = absurd not
  not_surveyed_alike base (refusals.BadTransfer line why file) is not = absurd not
  not_surveyed_alike base (refusals.BadManifest line path) is not = absurd not
  not_surveyed_alike base refusals.NoneNewer is not = absurd not
  not_surveyed_alike base (refusals.NoSuchVersion version) is not = absurd not
  not_surveyed_alike base (refusals.NoRoom count file) is not = absurd not
  not_surveyed_alike base (refusals.Clash path) is not = absurd not
  not_surveyed_alike base (refusals.BadFeature line why file) is not = absurd not
  not_surveyed_alike base refusals.NoneOn is not = absurd not
  not_surveyed_alike base (refusals.NoMark mark) is not = absurd not
  not_surveyed_alike base refusals.NoSuchImage is not = absurd not
  not_surveyed_alike base refusals.NotPortable is not = absurd not
  not_surveyed_alike base (refusals.BadRelease line) is not = absurd not
  not_surveyed_alike base (refusals.PrefixForbidden prefix) is not = absurd not
  not_surveyed_alike base refusals.NoUnits is not = absurd not
  not_surveyed_alike base refusals.NoProfile is not = absurd not
  not_surveyed_alike base (refusals.UnitExists path) is not = absurd not
  not_surveyed_alike base refusals.AlreadyAttached is not = absurd not
  not_surveyed_alike base refusals.NotAttached is not = absurd not
  not_surveyed_alike base (refusals.NoExtension extension) is not = absurd not
  not_surveyed_alike base (refusals.Extension extension why) is not = absurd not

  not_refreshed_alike : (base : Entries HeldFile) (class : Extension) (force : Bool) (refusal : Refusal) → IsBaseTree host base → IsNotRefreshed host told base class force refusal → IsNotRefreshed host other base class force refusal
  not_refreshed_alike base class force (refusals.Limit which) is not = large_alike base class force which is not
  not_refreshed_alike base class force refusals.NoHostRelease is not = not
  not_refreshed_alike base class force (refusals.BadHostRelease line) is not = not_surveyed_alike base (refusals.BadHostRelease line) is not
  not_refreshed_alike base class force refusals.NoStore is not = absurd not
  not_refreshed_alike base class force refusals.StoreExists is not = absurd not
  not_refreshed_alike base class force refusals.Merged is not = absurd not
  not_refreshed_alike base class force (refusals.ReadOnly path) is not = absurd not
  not_refreshed_alike base class force (refusals.NoEntry path) is not = absurd not
  not_refreshed_alike base class force (refusals.NotDirectory path) is not = absurd not
  not_refreshed_alike base class force (refusals.NotFile path) is not = absurd not
  not_refreshed_alike base class force (refusals.BadTree line path) is not = absurd not
  not_refreshed_alike base class force (refusals.NotInDepot path) is not = absurd not
  not_refreshed_alike base class force (refusals.Mismatch path listed found) is not = absurd not
  not_refreshed_alike base class force refusals.NoTransfers is not = absurd not
  not_refreshed_alike base class force (refusals.BadTransfer line why file) is not = absurd not
  not_refreshed_alike base class force (refusals.BadManifest line path) is not = absurd not
  not_refreshed_alike base class force refusals.NoneNewer is not = absurd not
  not_refreshed_alike base class force (refusals.NoSuchVersion version) is not = absurd not
  not_refreshed_alike base class force (refusals.NoRoom count file) is not = absurd not
  not_refreshed_alike base class force (refusals.Clash path) is not = absurd not
  not_refreshed_alike base class force (refusals.BadFeature line why file) is not = absurd not
  not_refreshed_alike base class force refusals.NoneOn is not = absurd not
  not_refreshed_alike base class force (refusals.NoMark mark) is not = absurd not
  not_refreshed_alike base class force refusals.NoSuchImage is not = absurd not
  not_refreshed_alike base class force refusals.NotPortable is not = absurd not
  not_refreshed_alike base class force (refusals.BadRelease line) is not = absurd not
  not_refreshed_alike base class force (refusals.PrefixForbidden prefix) is not = absurd not
  not_refreshed_alike base class force refusals.NoUnits is not = absurd not
  not_refreshed_alike base class force refusals.NoProfile is not = absurd not
  not_refreshed_alike base class force (refusals.UnitExists path) is not = absurd not
  not_refreshed_alike base class force refusals.AlreadyAttached is not = absurd not
  not_refreshed_alike base class force refusals.NotAttached is not = absurd not
  not_refreshed_alike base class force (refusals.NoExtension extension) is not = absurd not
  not_refreshed_alike base class force (refusals.Extension extension why) is not = absurd not

  list_alike : (base : Entries HeldFile) (class : Extension) (intent : Intent) → IsBaseTree host base → ListWantsOf host told base class intent → ListWantsOf host other base class intent
  list_alike base class intent is (inl (items, of, wants)) = inl (items, survey_alike base class false items is of, wants)
  list_alike base class intent is (inr (refusal, not, wants)) = inr (refusal, not_surveyed_alike base refusal is not, wants)

  refresh_of_alike : (base : Entries HeldFile) (class : Extension) (force : Bool) (intent : Intent) → IsBaseTree host base → RefreshWantsOf host told base class force intent → RefreshWantsOf host other base class force intent
  refresh_of_alike base class force intent is (inl (merge, of, next, wants)) = inl (merge, refreshed_alike base class force merge is of, next, wants)
  refresh_of_alike base class force intent is (inr (refusal, not, wants)) = inr (refusal, not_refreshed_alike base class force refusal is not, wants)

  refresh_alike : (class : Extension) (force : Bool) (intent : Intent) → RefreshWants host told class force intent → RefreshWants host other class force intent
  refresh_alike class force intent (base, is, wants) = (base, is, refresh_of_alike base class force intent is wants)

  merge_alike : (class : Extension) (force : Bool) (intent : Intent) → MergeWants host told class force intent → MergeWants host other class force intent
  merge_alike class force intent (inl merged) = inl merged
  merge_alike class force intent (inr (free, wants)) = inr (free, refresh_alike class force intent wants)

  view_changes_alike : (base : Entries HeldFile) (class : Extension) (force : Bool) (list : changes.Changes) → IsBaseTree host base → AreViewChanges told host base class force list → AreViewChanges other host base class force list
  view_changes_alike base class force list is of = record { merge = of.merge; refreshed = refreshed_alike base class force of.merge is of.refreshed; planned = of.planned; are_changes = of.are_changes }

  changes_alike : (class : Extension) (force : Bool) (intent : Intent) → ChangesWants host told class force intent → ChangesWants host other class force intent
  changes_alike class force intent (base, is, inl (list, of, wants)) = (base, is, inl (list, view_changes_alike base class force list is of, wants))
  changes_alike class force intent (base, is, inr (refusal, not, wants)) = (base, is, inr (refusal, not_refreshed_alike base class force refusal is not, wants))

  origins_alike : (base : Entries HeldFile) (class : Extension) (force : Bool) (path : List (List ℕ)) (origins : List Origin) → IsBaseTree host base → AreOrigins told host base class force path origins → AreOrigins other host base class force path origins
  origins_alike base class force path origins is of = record { items = of.items; surveyed = survey_alike base class force of.items is of.surveyed; images = of.images; are_images = of.are_images; lines = of.lines }

  explain_alike : (class : Extension) (force : Bool) (path : List (List ℕ)) (intent : Intent) → ExplainWants host told class force path intent → ExplainWants host other class force path intent
  explain_alike class force path intent (base, is, inl (origins, of, some, wants)) = (base, is, inl (origins, origins_alike base class force path origins is of, some, wants))
  explain_alike class force path intent (base, is, inr (inl (none, wants))) = (base, is, inr (inl (origins_alike base class force path [] is none, wants)))
  explain_alike class force path intent (base, is, inr (inr (refusal, not, wants))) = (base, is, inr (inr (refusal, not_surveyed_alike base refusal is not, wants)))

  view_alike : (class : Extension) (command : ViewCommand) (intent : Intent) → ViewWants host told class command intent → ViewWants host other class command intent
  view_alike class views.List intent (base, is, wants) = (base, is, list_alike base class intent is wants)
  view_alike class views.Status intent wants = wants
  view_alike class (views.Merge force) intent wants = merge_alike class force intent wants
  view_alike class views.Unmerge intent wants = wants
  view_alike class (views.Refresh force) intent wants = refresh_alike class force intent wants
  view_alike class (views.Changes force) intent wants = changes_alike class force intent wants
  view_alike class (views.Explain force path) intent wants = explain_alike class force path intent wants

  -- the same is wanted of the host where the same is told of its files
  pub wants_alike : (number : ℕ) (newest : Bool) (files : Option Files) (command : Command) (intent : Intent) → WantsOf (record { host = host; number = number; newest = newest; told = told }) files command intent → WantsOf (record { host = host; number = number; newest = newest; told = other }) files command intent
  wants_alike number newest files (Init arch scope hierarchies) intent wants = wants
  wants_alike number newest files (ImportFs resource path) intent wants = wants
  wants_alike number newest files (Remove path) intent wants = wants
  wants_alike number newest files (Sysext view) intent wants = view_alike extensions.Sysext view intent wants
  wants_alike number newest files (Confext view) intent wants = view_alike extensions.Confext view intent wants
  wants_alike number newest files (Tree path) intent wants = wants
  wants_alike number newest files (Cat path) intent wants = wants
  wants_alike number newest files (Compare a b) intent wants = wants
  wants_alike number newest files Check intent wants = wants
  wants_alike number newest files Layer intent wants = wants
  wants_alike number newest files Batch intent wants = wants
  wants_alike number newest files (Sample images) intent wants = wants
  wants_alike number newest files (Sysupdate component verb) intent wants = update_alike host told other alike files component verb intent wants
  wants_alike number newest files Components intent wants = wants
  wants_alike number newest files Migrate intent wants = wants
  wants_alike number newest files (Mark keep) intent wants = wants
  wants_alike number newest files History intent wants = wants
  wants_alike number newest files (HistoryChanges mark) intent wants = wants
  wants_alike number newest files (Rollback mark) intent wants = wants
  wants_alike number newest files (Forget mark) intent wants = wants
  wants_alike number newest files (Portable command) intent wants = port_alike host told other alike command intent wants
