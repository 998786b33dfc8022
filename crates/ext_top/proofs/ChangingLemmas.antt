-- A command that may change nothing wants no other host, so a run of it leaves the disk as it was.
use Rattle.std.proofs.Common.{◌≡◌, ℕ, Bool, true, false, List, [], ◌∷◌, inl, inr, Option, Some, None, Result, refl, sym, ◌∙◌, ap, subst, if◌then◌else◌}
use Rattle.ext_text.specs.declared.extension.Extension.{Extension}
use Rattle.ext_text.specs.declared.extension.Extension.TheVariants as extensions
use Rattle.ext_disk.specs.Disk.{BothTold, DiskState, Told}
use Rattle.ext_depot.specs.Depot.{Files}
use Rattle.ext_tree.specs.Tree.{is_directory, lookup}
use Rattle.ext_tree.specs.declared.entry.Entry.{Entry}
use Rattle.ext_tree.specs.declared.entry.Entry.TheVariants.{Dir, Opaque, File, Link, Hide}
use Rattle.ext_host.specs.Held.{HeldFile}
use Rattle.ext_host.specs.Shelf.{Told as ToldFile}
use Rattle.ext_host.specs.declared.host.Host.{Host}
use Rattle.ext_store_files.proofs.ForCallers.{told_map, told_then}
use Rattle.ext_gen.specs.Opening.{KeepsNow}
use Rattle.ext_gen.specs.Opened.{Generation}
use Rattle.ext_cmd.proofs.ForCallers.{one_command}
use Rattle.ext_cmd.specs.declared.command.Command.{Command}
use Rattle.ext_cmd.specs.declared.command.Command.TheVariants.{Init, ImportFs, Remove, Sysext, Confext, Tree, Cat, Compare, Check, Layer, Migrate, Batch, Sample, Sysupdate, Components}
use Rattle.ext_cmd.specs.declared.command.Command.TheVariants.{Mark, History, HistoryChanges, Rollback, Forget, Portable}
use Rattle.ext_cmd.specs.declared.command.UpdateVerb.{UpdateVerb}
use Rattle.ext_cmd.specs.declared.command.UpdateVerb.TheVariants as verbs
use Rattle.ext_cmd.specs.declared.command.ViewCommand.{ViewCommand}
use Rattle.ext_cmd.specs.declared.command.ViewCommand.TheVariants as views
use Rattle.ext_cmd.specs.declared.portable.PortCommand.{PortCommand}
use Rattle.ext_cmd.specs.declared.portable.PortCommand.TheVariants as services
use Rattle.ext_cmd.specs.declared.answer.Answer.TheVariants as answers
use Rattle.ext_cmd.specs.declared.refusal.Refusal.TheVariants as refusals
use Rattle.ext_intents.specs.Cat.{cat_at}
use Rattle.ext_intents.specs.Intents.{IsAnswerOrRefusal, Seen}
use Rattle.ext_intents.specs.Step.{Wants, WantsFirst, WantsOf}
use Rattle.ext_intents.specs.Tree.{meant_path, text_below, tree_at, tree_intent}
use Rattle.ext_intents.specs.Views.{ViewWants}
use Rattle.ext_intents.specs.declared.intent.Intent.{Intent}
use Rattle.ext_intents.specs.declared.intent.Intent.TheVariants.{Answers, Changes, Checks, Refuses, Shows}
use Rattle.ext_intents.proofs.ForCallers.{IsReplying, IsReplyingPort, IsReplyingView, components_reply, history_changes_reply, history_reply, port_replies, update_replies, view_replies}
use Rattle.ext_top.specs.Applying.{seen_on}
use Rattle.ext_top.specs.Changing.{StaysUnlessChanging, may_change, may_service_change, may_verb_change, may_view_change}
use Rattle.ext_top.specs.Chain.{LinesRun, RunsOn}
use Rattle.ext_top.specs.Devices.{DeviceStates, StoreSide, store_side_of}
use Rattle.ext_top.specs.Exits.{does}
use Rattle.ext_top.specs.Running.{Kind, Runs, RunsCommand, RunsKind, alone, run_kind, one_line, source_lines}
use Rattle.ext_top.specs.Working.{StaysTold, WantsOn, WorksFor, WorksAsWanted, next_of}
use Rattle.ext_cmd.specs.declared.refusal.Refusal.{Refusal}
use Rattle.ext_top.specs.declared.stop.Stop.{Stop}
use Rattle.ext_top.specs.declared.status.Status.{Status}
use Rattle.ext_top.proofs.WorkingLemmas.{stays_since, stays_told}
use Rattle.ext_top.specs.declared.status.Status.TheVariants.{Done, Refused, Usage, ReadFault, WriteFault, DiskFault, DepotFault, OutOfMemory, BadStore, Unfinished, TooLong}

no_next_below : (host : Host) (path : List (List ℕ)) (directory : Bool) → next_of (if directory then Answers (answers.Tree (text_below host path)) else Refuses (refusals.NotDirectory path)) ≡ None
no_next_below host path true = refl
no_next_below host path false = refl

no_next_at : (host : Host) (path : List (List ℕ)) (found : Option (Entry HeldFile)) → next_of (tree_at host path found) ≡ None
no_next_at host path None = refl
no_next_at host path (Some entry) = no_next_below host path (is_directory entry)

no_next_of_tree : (host : Host) (path : List (List ℕ)) → next_of (tree_intent host path) ≡ None
no_next_of_tree host [] = refl
no_next_of_tree host (name ∷ path) = no_next_at host (name ∷ path) (lookup host.root (name ∷ path))

no_next_of_cat : (path : List (List ℕ)) (found : Option (Entry HeldFile)) → next_of (cat_at path found) ≡ None
no_next_of_cat path None = refl
no_next_of_cat path (Some (Dir attributes)) = refl
no_next_of_cat path (Some (Opaque attributes)) = refl
no_next_of_cat path (Some (File attributes held)) = refl
no_next_of_cat path (Some (Link owner target)) = refl
no_next_of_cat path (Some Hide) = refl

no_next_of_reply : (intent : Intent) → IsAnswerOrRefusal intent → next_of intent ≡ None
no_next_of_reply (Changes next answer) replies = absurd replies
no_next_of_reply (Answers answer) replies = refl
no_next_of_reply Checks replies = refl
no_next_of_reply (Shows held) replies = refl
no_next_of_reply (Refuses refusal) replies = refl

-- a command of a class that may change nothing only replies
is_view_replying : (view : ViewCommand) → may_view_change view ≡ false → IsReplyingView view
is_view_replying views.List reads = tt
is_view_replying views.Status reads = tt
is_view_replying (views.Merge force) reads = cc
is_view_replying views.Unmerge reads = cc
is_view_replying (views.Refresh force) reads = cc
is_view_replying (views.Changes force) reads = tt
is_view_replying (views.Explain force path) reads = tt

no_next_of_view : (host : Host) (told : HeldFile → ToldFile) (class : Extension) (view : ViewCommand) (intent : Intent) → may_view_change view ≡ false → ViewWants host told class view intent → next_of intent ≡ None
no_next_of_view host told class view intent reads wants = no_next_of_reply intent (view_replies host told class view intent (is_view_replying view reads) wants)

-- a verb that may change nothing only replies
is_replying : (verb : UpdateVerb) → may_verb_change verb ≡ false → IsReplying verb
is_replying verbs.List reads = tt
is_replying verbs.CheckNew reads = tt
is_replying (verbs.Update wanted) reads = cc
is_replying verbs.Vacuum reads = cc
is_replying verbs.Features reads = tt

-- a command of portable services that may change nothing only replies
is_service_replying : (command : PortCommand) → may_service_change command ≡ false → IsReplyingPort command
is_service_replying services.List reads = tt
is_service_replying (services.Inspect image prefixes) reads = tt
is_service_replying (services.IsAttached name) reads = tt
is_service_replying (services.Attach words) reads = cc
is_service_replying (services.Detach name) reads = cc
is_service_replying (services.Reattach words) reads = cc

no_next_seen : (seen : Seen) (files : Option Files) (command : Command) (intent : Intent) → may_change command ≡ false → WantsOf seen files command intent → next_of intent ≡ None
no_next_seen seen files (Init arch scope hierarchies) intent reads wants = cc
no_next_seen seen files (ImportFs resource path) intent reads wants = cc
no_next_seen seen files (Remove path) intent reads wants = cc
no_next_seen seen files (Sysext view) intent reads wants = no_next_of_view seen.host seen.told extensions.Sysext view intent reads wants
no_next_seen seen files (Confext view) intent reads wants = no_next_of_view seen.host seen.told extensions.Confext view intent reads wants
no_next_seen seen files (Tree path) intent reads wants = ap next_of wants ∙ no_next_of_tree seen.host (meant_path path)
no_next_seen seen files (Cat path) intent reads wants = ap next_of wants ∙ no_next_of_cat path (lookup seen.host.root path)
no_next_seen seen files (Compare a b) intent reads wants = ap next_of wants
no_next_seen seen files Check intent reads wants = ap next_of wants
no_next_seen seen files Layer intent reads wants = absurd wants
no_next_seen seen files Migrate intent reads wants = cc
no_next_seen seen files Batch intent reads wants = absurd wants
no_next_seen seen files (Sample images) intent reads wants = absurd wants
no_next_seen seen files (Sysupdate component verb) intent reads wants = no_next_of_reply intent (update_replies seen.host seen.told files component verb intent (is_replying verb reads) wants)
no_next_seen seen files Components intent reads wants = no_next_of_reply intent (components_reply seen.host intent wants)
no_next_seen seen files (Mark keep) intent reads wants = cc
no_next_seen seen files History intent reads wants = no_next_of_reply intent (history_reply seen.host intent wants)
no_next_seen seen files (HistoryChanges mark) intent reads wants = no_next_of_reply intent (history_changes_reply seen.host mark intent wants)
no_next_seen seen files (Rollback mark) intent reads wants = cc
no_next_seen seen files (Forget mark) intent reads wants = cc
no_next_seen seen files (Portable command) intent reads wants = no_next_of_reply intent (port_replies seen.host seen.told command intent (is_service_replying command reads) wants)

no_next_first : (command : Command) (intent : Intent) → may_change command ≡ false → WantsFirst command intent → next_of intent ≡ None
no_next_first (Init arch scope hierarchies) intent reads wants = cc
no_next_first (ImportFs resource path) intent reads wants = cc
no_next_first (Remove path) intent reads wants = cc
no_next_first (Sysext view) intent reads wants = ap next_of wants
no_next_first (Confext view) intent reads wants = ap next_of wants
no_next_first (Tree path) intent reads wants = ap next_of wants
no_next_first (Cat path) intent reads wants = ap next_of wants
no_next_first (Compare a b) intent reads wants = ap next_of wants
no_next_first Check intent reads wants = ap next_of wants
no_next_first Layer intent reads wants = absurd wants
no_next_first Migrate intent reads wants = cc
no_next_first Batch intent reads wants = absurd wants
no_next_first (Sample images) intent reads wants = absurd wants
no_next_first (Sysupdate component verb) intent reads wants = ap next_of wants
no_next_first Components intent reads wants = ap next_of wants
no_next_first (Mark keep) intent reads wants = cc
no_next_first History intent reads wants = ap next_of wants
no_next_first (HistoryChanges mark) intent reads wants = ap next_of wants
no_next_first (Rollback mark) intent reads wants = cc
no_next_first (Forget mark) intent reads wants = cc
no_next_first (Portable command) intent reads wants = ap next_of wants

no_next : (seen : Option Seen) (files : Option Files) (command : Command) (intent : Intent) → may_change command ≡ false → Wants seen files command intent → next_of intent ≡ None
no_next None files command intent reads wants = no_next_first command intent reads wants
no_next (Some seen) files command intent reads wants = no_next_seen seen files command intent reads wants

works_stay : (W : Intent → Type 0) (from : Option Generation) (d e : Told) → ((intent : Intent) → W intent → next_of intent ≡ None) → WorksFor W from d e → StaysTold d e
works_stay W from d e none (inl still) = still
works_stay W from d e none (inr (intent, wants, works)) = subst (λ next. WorksAsWanted from next d e) (none intent wants) works

line_stays : (command : Command) (opened : Option Generation) (disk : DiskState) (files : Option Files) (x y : Option Told) → may_change command ≡ false → BothTold (WorksFor (WantsOn opened disk files command) opened) x y → BothTold StaysTold x y
line_stays command opened disk files x y reads works =
    told_map (WorksFor (WantsOn opened disk files command) opened) StaysTold
    (λ d e works. works_stay (WantsOn opened disk files command) opened d e (λ intent wants. no_next (seen_on opened disk) files command intent reads wants) works) x y works

-- so it is of a list of one
lines_stay : (command : Command) (opened : Option Generation) (old : StoreSide) (result : Result (Option Refusal) Stop) (new : StoreSide) → may_change command ≡ false → LinesRun None (does command ∷ []) opened old result new
    → BothTold StaysTold old.disk.told new.disk.told
lines_stay command opened old result new reads (inl (stop, is, end, runs)) = line_stays command opened old.disk old.depot.contents old.disk.told new.disk.told reads runs.works
lines_stay command opened old result new reads (inr (written, mid, runs, more)) =
    line_stays command opened old.disk old.depot.contents old.disk.told new.disk.told reads
    (subst (λ (side : StoreSide). BothTold (WorksFor (WantsOn opened old.disk old.depot.contents command) opened) old.disk.told side.disk.told) (sym more.1) runs.works)

store_stays : (command : Command) (old new : StoreSide) (status : Status) → may_change command ≡ false → RunsOn false (does command ∷ []) old new status → BothTold StaysTold old.disk.told new.disk.told
store_stays command old new status reads (inl through) =
    told_then KeepsNow StaysTold StaysTold stays_since old.disk.told through.start.disk.told new.disk.told through.opens.keeps
    (lines_stay command through.opened through.start through.result new reads through.runs)
store_stays command old new status reads (inr closed) = stays_told old.disk.told new.disk.told closed.keeps

stays_itself : (x : Option Told) → BothTold StaysTold x x
stays_itself None = tt
stays_itself (Some d) = record { now = λ p. refl; appended = refl }

left_alone : (old new : DeviceStates) → new.disk ≡ old.disk → BothTold StaysTold old.disk.told new.disk.told
left_alone old new same = subst (λ disk. BothTold StaysTold old.disk.told disk.told) (sym same) (stays_itself old.disk.told)

-- a batch may change a store
batch_changes : (command : Command) → run_kind command ≡ source_lines → may_change command ≡ true
batch_changes (Init arch scope hierarchies) is = cc
batch_changes (ImportFs resource path) is = cc
batch_changes (Remove path) is = cc
batch_changes (Sysext view) is = cc
batch_changes (Confext view) is = cc
batch_changes (Tree path) is = cc
batch_changes (Cat path) is = cc
batch_changes (Compare a b) is = cc
batch_changes Check is = cc
batch_changes Layer is = cc
batch_changes Migrate is = cc
batch_changes Batch is = refl
batch_changes (Sample images) is = cc
batch_changes (Sysupdate component verb) is = cc
batch_changes Components is = cc
batch_changes (Mark keep) is = cc
batch_changes History is = cc
batch_changes (HistoryChanges mark) is = cc
batch_changes (Rollback mark) is = cc
batch_changes (Forget mark) is = cc
batch_changes (Portable command) is = cc

kind_stays : (kind : Kind) (command : Command) (old new : DeviceStates) (status : Status) → run_kind command ≡ kind → RunsKind kind command old new status → may_change command ≡ false → BothTold StaysTold old.disk.told new.disk.told
kind_stays alone command old new status is runs reads = left_alone old new runs.disk
kind_stays source_lines command old new status is runs reads = let may : may_change command ≡ true = batch_changes command is in cc
kind_stays one_line command old new status is runs reads = store_stays command (store_side_of old) (store_side_of new) status reads runs.runs.on_any

words_stay : (words : List (List ℕ)) (old new : DeviceStates) (status : Status) → RunsCommand words old new status → StaysUnlessChanging words old new
words_stay words old new status ran command formed same reads =
    let one : ran.command ≡ command = one_command ran.command command ran.well_formed formed (sym ran.same ∙ same) in
    kind_stays (run_kind ran.command) ran.command old new status refl ran.runs (ap may_change one ∙ reads)

pub run_stays_unless_changing : (words : List (List ℕ)) (old new : DeviceStates) (status : Status) → Runs words old new status → StaysUnlessChanging words old new
run_stays_unless_changing words old new (Usage place) ran command formed same reads = left_alone old new (ap (λ d. d.disk) ran.1)
run_stays_unless_changing words old new OutOfMemory (inl untouched) command formed same reads = left_alone old new (ap (λ d. d.disk) untouched)
run_stays_unless_changing words old new OutOfMemory (inr ran) command formed same reads = words_stay words old new OutOfMemory ran command formed same reads
run_stays_unless_changing words old new Done ran command formed same reads = words_stay words old new Done ran command formed same reads
run_stays_unless_changing words old new (Refused refusal) ran command formed same reads = words_stay words old new (Refused refusal) ran command formed same reads
run_stays_unless_changing words old new ReadFault ran command formed same reads = words_stay words old new ReadFault ran command formed same reads
run_stays_unless_changing words old new WriteFault ran command formed same reads = words_stay words old new WriteFault ran command formed same reads
run_stays_unless_changing words old new DiskFault ran command formed same reads = words_stay words old new DiskFault ran command formed same reads
run_stays_unless_changing words old new DepotFault ran command formed same reads = words_stay words old new DepotFault ran command formed same reads
run_stays_unless_changing words old new (BadStore why) ran command formed same reads = words_stay words old new (BadStore why) ran command formed same reads
run_stays_unless_changing words old new Unfinished ran command formed same reads = words_stay words old new Unfinished ran command formed same reads
run_stays_unless_changing words old new TooLong ran command formed same reads = words_stay words old new TooLong ran command formed same reads
