-- What is said of a damage that a command ends with: it read a file there.
use Rattle.std.proofs.Common.{◌≡◌, ℕ, inr, None, Option, Result, Some, Ok, Err, subst}
use Rattle.std.specs.Prelude.{IfErr}
use Rattle.ext_disk.specs.Disk.{BothTold, DiskState}
use Rattle.ext_io.specs.SinkState.{SinkState}
use Rattle.ext_depot.specs.Depot.{DepotState}
use Rattle.ext_host.specs.Held.{HeldFile}
use Rattle.ext_host.specs.Shelf as shelf
use Rattle.ext_host.specs.Shelf.{IsKeptAs, ShelfCause}
use Rattle.ext_host.specs.declared.damage.Damage.{Damage}
use Rattle.ext_host.specs.declared.shelf.ShelfErr.{ShelfErr}
use Rattle.ext_host.specs.declared.shelf.ShelfErr.TheVariants as shelf_errors
use Rattle.ext_store_files.specs.declared.fault.StoreFault.TheVariants as store_faults
use Rattle.ext_gen.specs.Opened.{Generation}
use Rattle.ext_gen.specs.Opening.{KeepsNow}
use Rattle.ext_gen.specs.declared.bad_store.BadStore.TheVariants as bad
use Rattle.ext_cmd.specs.declared.command.Command.{Command}
use Rattle.ext_cmd.specs.declared.refusal.Refusal.{Refusal}
use Rattle.ext_intents.specs.Causes.{IsStepFile, StepCause}
use Rattle.ext_intents.specs.declared.intent.Intent.{Intent}
use Rattle.ext_intents.specs.declared.intent.Intent.TheVariants.{Answers, Changes, Checks, Refuses, Shows}
use Rattle.ext_intents.specs.declared.plan_err.PlanErr.{PlanErr}
use Rattle.ext_intents.specs.declared.plan_err.PlanErr.TheVariants as plan_errors
use Rattle.ext_top.specs.Applying.{WhereDamaged, apply_err_of_shelf, of_plan}
use Rattle.ext_top.specs.Lines.{WhereLineDamaged, stop_of_apply}
use Rattle.ext_top.specs.Replying.{ReplyCause, TextCause}
use Rattle.ext_top.specs.Working.{AppliedSo, FindsDamage, IsReplyTo, Met, ReadsDamage, SeesDamage, WantsOn}
use Rattle.ext_top.specs.declared.applied.Applied.{Applied}
use Rattle.ext_top.specs.declared.applied.Reply.{Reply}
use Rattle.ext_top.specs.declared.applied.Reply.TheVariants.{Text, File, Refused}
use Rattle.ext_top.specs.declared.apply_err.ApplyErr.{ApplyErr}
use Rattle.ext_top.specs.declared.apply_err.ApplyErr.TheVariants as apply_errors
use Rattle.ext_top.specs.declared.stop.Stop.{Stop}
use Rattle.ext_top.specs.declared.stop.Stop.TheVariants as stops
use Rattle.ext_top.proofs.WorkingLemmas.{reads_since}

pub damage_map : (P Q : Damage → Type 0) → ((damage : Damage) → P damage → Q damage) → (e : ApplyErr) → WhereDamaged P e → WhereDamaged Q e
damage_map P Q map (apply_errors.Fault store_faults.OutOfMemory) says = tt
damage_map P Q map (apply_errors.Fault store_faults.DiskFault) says = tt
damage_map P Q map (apply_errors.Fault store_faults.DepotFault) says = tt
damage_map P Q map (apply_errors.Fault (store_faults.Damaged damage)) says = map damage says
damage_map P Q map apply_errors.Unfinished says = tt

damages_map : (P Q : Damage → Type 0) → ((damage : Damage) → P damage → Q damage) → (result : Result Applied ApplyErr) → IfErr result (WhereDamaged P) → IfErr result (WhereDamaged Q)
damages_map P Q map (Ok applied) says = tt
damages_map P Q map (Err e) says = damage_map P Q map e says

-- nothing is said where each file is read
damage_said : (e : ApplyErr) → WhereDamaged (λ damage. Unit {0}) e
damage_said (apply_errors.Fault store_faults.OutOfMemory) = tt
damage_said (apply_errors.Fault store_faults.DiskFault) = tt
damage_said (apply_errors.Fault store_faults.DepotFault) = tt
damage_said (apply_errors.Fault (store_faults.Damaged damage)) = tt
damage_said apply_errors.Unfinished = tt

pub damages_said : (result : Result Applied ApplyErr) → IfErr result (WhereDamaged (λ damage. Unit {0}))
damages_said (Ok applied) = tt
damages_said (Err e) = damage_said e

-- a file that is read to find what is wanted
pub step_damage : (g : Generation) (command : Command) (told : HeldFile → shelf.Told) (old new before after : ℕ) (error : PlanErr) → StepCause (IsStepFile g.host command) g.host told old new before after error
    → WhereDamaged (SeesDamage (Some g) command) (of_plan error)
step_damage g command told old new before after plan_errors.DepotFault cause = tt
step_damage g command told old new before after (plan_errors.Shelf shelf_errors.OutOfMemory) cause = tt
step_damage g command told old new before after (plan_errors.Shelf shelf_errors.Fault) cause = tt
step_damage g command told old new before after (plan_errors.Shelf (shelf_errors.Damaged damage)) cause = (cause.held, cause.is_read, cause.cause.0)
step_damage g command told old new before after plan_errors.OutOfMemory cause = tt

-- a file that is shown
pub file_damage : (old new : ℕ) (told : shelf.Told) (held : HeldFile) (error : ShelfErr) → ShelfCause old new told held error → WhereDamaged (λ damage. IsKeptAs held damage.home damage.listed) (apply_err_of_shelf error)
file_damage old new told held shelf_errors.OutOfMemory cause = tt
file_damage old new told held shelf_errors.Fault cause = tt
file_damage old new told held (shelf_errors.Damaged damage) cause = cause.0

-- what is found while that is done which is wanted
pub carried_damage : (command : Command) (from : Option Generation) (old mid : DiskState) (later depot : DepotState) (intent : Intent) (result : Result Applied ApplyErr) → BothTold KeepsNow old.told mid.told → later.contents ≡ depot.contents → WantsOn from old depot.contents command intent
    → IfErr result (WhereDamaged (ReadsDamage intent from mid later)) → IfErr result (WhereDamaged (FindsDamage command from old depot))
carried_damage command from old mid later depot intent result keeps same wants says =
    damages_map (ReadsDamage intent from mid later) (FindsDamage command from old depot) (λ damage reads. inr (intent, wants, reads_since from old mid later depot keeps same damage intent reads)) result says

-- of a line whose command was not carried out
pub undone_damage : (P : Damage → Type 0) (e : ApplyErr) → WhereDamaged P e → WhereLineDamaged P (stop_of_apply e)
undone_damage P (apply_errors.Fault store_faults.OutOfMemory) says = tt
undone_damage P (apply_errors.Fault store_faults.DiskFault) says = tt
undone_damage P (apply_errors.Fault store_faults.DepotFault) says = tt
undone_damage P (apply_errors.Fault (store_faults.Damaged damage)) says = says
undone_damage P apply_errors.Unfinished says = tt

-- of one whose reply was not written
text_damage : (P : Damage → Type 0) (k l : SinkState) (stop : Stop) → TextCause k l stop → WhereLineDamaged P stop
text_damage P k l stops.WriteFault cause = tt
text_damage P k l stops.DiskFault cause = tt
text_damage P k l stops.DepotFault cause = tt
text_damage P k l stops.OutOfMemory cause = tt
text_damage P k l (stops.BadStore why) cause = absurd cause
text_damage P k l stops.Unfinished cause = tt

not_refused : (why : Refusal) → None ≡ Some why → ⊥
not_refused why same = cc

shows_damage : (from : Option Generation) (old mid : DiskState) (depot : DepotState) (after : Option Generation) (held : HeldFile) (damage : Damage) (intent : Intent) → Met intent from old mid depot None after → IsReplyTo intent from (File held)
    → IsKeptAs held damage.home damage.listed → ReadsDamage intent from old depot damage
shows_damage from old mid depot after held damage (Changes next answer) met is kept = absurd is
shows_damage from old mid depot after held damage (Answers answer) met is kept = absurd is
shows_damage from old mid depot after held damage Checks met is kept = tt
shows_damage from old mid depot after held damage (Shows file) met is kept = subst (λ (h : HeldFile). IsKeptAs h damage.home damage.listed) is kept
shows_damage from old mid depot after held damage (Refuses why) met is kept = absurd (not_refused why met.1)

pub unwritten_damage : (command : Command) (from opened : Option Generation) (old mid : DiskState) (depot : DepotState) (reply : Reply) (k l : SinkState) (d e : DiskState) (stop : Stop) → AppliedSo (WantsOn from old depot.contents command) from old mid depot (record { opened = opened; reply = reply })
    → ReplyCause reply k l d e stop → WhereLineDamaged (FindsDamage command from old depot) stop
unwritten_damage command from opened old mid depot (Text text) k l d e stop applied cause = text_damage (FindsDamage command from old depot) k l stop cause
unwritten_damage command from opened old mid depot (File held) k l d e stops.WriteFault applied cause = tt
unwritten_damage command from opened old mid depot (File held) k l d e stops.DiskFault applied cause = tt
unwritten_damage command from opened old mid depot (File held) k l d e stops.DepotFault applied cause = tt
unwritten_damage command from opened old mid depot (File held) k l d e stops.OutOfMemory applied cause = tt
unwritten_damage command from opened old mid depot (File held) k l d e (stops.BadStore (bad.Broken line)) applied cause = tt
unwritten_damage command from opened old mid depot (File held) k l d e (stops.BadStore (bad.Damaged damage)) (intent, wants, met, is) cause =
    inr (intent, wants, shows_damage from old mid depot opened held damage intent met is cause.0)
unwritten_damage command from opened old mid depot (File held) k l d e stops.Unfinished applied cause = tt
unwritten_damage command from opened old mid depot (Refused refusal) k l d e stop applied cause = text_damage (FindsDamage command from old depot) k l stop cause
