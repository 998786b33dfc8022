-- What is said of an unfinished command: it wants a host that passes no limit of a store.
use Rattle.std.proofs.Common.{◌≡◌, None, Option, Result, Ok, Err, refl}
use Rattle.std.specs.Prelude.{IfErr}
use Rattle.ext_disk.specs.Disk.{DiskState}
use Rattle.ext_io.specs.SinkState.{SinkState}
use Rattle.ext_depot.specs.Depot.{DepotState}
use Rattle.ext_host.specs.declared.host.Host.{Host}
use Rattle.ext_store_files.specs.declared.fault.StoreFault.TheVariants as store_faults
use Rattle.ext_gen.specs.Opened.{Generation}
use Rattle.ext_gen.specs.Preparing.{LimitSays, limit_of}
use Rattle.ext_gen.specs.declared.errors.StoreErr.{StoreErr}
use Rattle.ext_gen.specs.declared.errors.StoreErr.TheVariants as store_errors
use Rattle.ext_cmd.specs.declared.answer.Answer.{Answer}
use Rattle.ext_cmd.specs.declared.refusal.Refusal.{Refusal}
use Rattle.ext_intents.specs.declared.intent.Intent.{Intent}
use Rattle.ext_intents.specs.declared.intent.Intent.TheVariants.{Changes}
use Rattle.ext_top.specs.Applying.{RestCause, SeeCause, WhereUnfinished, refusal_from}
use Rattle.ext_top.specs.Lines.{WhereLineUnfinished, stop_of_apply}
use Rattle.ext_top.specs.Replying.{ReplyCause, TextCause}
use Rattle.ext_top.specs.Working.{WantsWithin}
use Rattle.ext_top.specs.declared.applied.Applied.{Applied}
use Rattle.ext_top.specs.declared.applied.Reply.{Reply}
use Rattle.ext_top.specs.declared.applied.Reply.TheVariants.{Text, File, Refused}
use Rattle.ext_top.specs.declared.apply_err.ApplyErr.{ApplyErr}
use Rattle.ext_top.specs.declared.apply_err.ApplyErr.TheVariants as apply_errors
use Rattle.ext_top.specs.declared.stop.Stop.{Stop}
use Rattle.ext_top.specs.declared.stop.Stop.TheVariants as stops

unfinished_map : (P Q : Type 0) → (P → Q) → (e : ApplyErr) → WhereUnfinished P e → WhereUnfinished Q e
unfinished_map P Q map (apply_errors.Fault fault) says = tt
unfinished_map P Q map apply_errors.Unfinished says = map says

pub errs_map : (P Q : Type 0) → (P → Q) → (result : Result Applied ApplyErr) → IfErr result (WhereUnfinished P) → IfErr result (WhereUnfinished Q)
errs_map P Q map (Ok applied) says = tt
errs_map P Q map (Err e) says = unfinished_map P Q map e says

-- a command that reads alone is never unfinished
pub see_unfinished : (P : Type 0) (from : Option Generation) (old new : DiskState) (before after : DepotState) (e : ApplyErr) → SeeCause from old new before after e → WhereUnfinished P e
see_unfinished P from old new before after (apply_errors.Fault fault) cause = tt
see_unfinished P from old new before after apply_errors.Unfinished cause = absurd cause

pub rest_unfinished : (P : Type 0) (from : Option Generation) (old new : DiskState) (result : Result Applied ApplyErr) → IfErr result (RestCause from old new) → IfErr result (WhereUnfinished P)
rest_unfinished P from old new (Ok applied) cause = tt
rest_unfinished P from old new (Err (apply_errors.Fault fault)) cause = tt
rest_unfinished P from old new (Err apply_errors.Unfinished) cause = absurd cause

-- a preparation that is unfinished passed no limit
abbrev pub UnpreparedWithin : Option Generation → Host → Result Refusal ApplyErr → Type 0
UnpreparedWithin from next (Ok refusal) = Unit {0}
UnpreparedWithin from next (Err e) = WhereUnfinished (limit_of from next ≡ None) e

pub unprepared_within : (from : Option Generation) (next : Host) (error : StoreErr) → LimitSays {T = Generation} (limit_of from next) (Err error) → UnpreparedWithin from next (refusal_from error)
unprepared_within from next (store_errors.Fault fault) says = tt
unprepared_within from next (store_errors.Broken line) says = tt
unprepared_within from next (store_errors.Mismatch path listed found) says = tt
unprepared_within from next (store_errors.NotInDepot path) says = tt
unprepared_within from next store_errors.Unfinished says = says
unprepared_within from next (store_errors.Limit which) says = tt

pub changes_within : (next : Host) (answer : Answer) (from : Option Generation) → limit_of from next ≡ None → WantsWithin (λ wanted. wanted ≡ Changes next answer) from
changes_within next answer from none = (next, answer, refl, none)

pub wider_within : (W V : Intent → Type 0) (from : Option Generation) → ((intent : Intent) → W intent → V intent) → WantsWithin W from → WantsWithin V from
wider_within W V from wider (next, answer, is, none) = (next, answer, wider (Changes next answer) is, none)

-- a line is unfinished where its command is
pub undone_unfinished : (P : Type 0) (e : ApplyErr) → WhereUnfinished P e → WhereLineUnfinished P (stop_of_apply e)
undone_unfinished P (apply_errors.Fault store_faults.OutOfMemory) says = tt
undone_unfinished P (apply_errors.Fault store_faults.DiskFault) says = tt
undone_unfinished P (apply_errors.Fault store_faults.DepotFault) says = tt
undone_unfinished P (apply_errors.Fault (store_faults.Damaged damage)) says = tt
undone_unfinished P apply_errors.Unfinished says = says

text_unfinished : (P : Type 0) (k l : SinkState) (stop : Stop) → TextCause k l stop → WhereLineUnfinished P stop
text_unfinished P k l stops.WriteFault cause = tt
text_unfinished P k l stops.DiskFault cause = tt
text_unfinished P k l stops.DepotFault cause = tt
text_unfinished P k l stops.OutOfMemory cause = tt
text_unfinished P k l (stops.BadStore why) cause = tt
text_unfinished P k l stops.Unfinished cause = absurd cause

pub unwritten_unfinished : (P : Type 0) (reply : Reply) (k l : SinkState) (d e : DiskState) (stop : Stop) → ReplyCause reply k l d e stop → WhereLineUnfinished P stop
unwritten_unfinished P (Text text) k l d e stop cause = text_unfinished P k l stop cause
unwritten_unfinished P (File held) k l d e stops.WriteFault cause = tt
unwritten_unfinished P (File held) k l d e stops.DiskFault cause = tt
unwritten_unfinished P (File held) k l d e stops.DepotFault cause = tt
unwritten_unfinished P (File held) k l d e stops.OutOfMemory cause = tt
unwritten_unfinished P (File held) k l d e (stops.BadStore why) cause = tt
unwritten_unfinished P (File held) k l d e stops.Unfinished cause = absurd cause
unwritten_unfinished P (Refused refusal) k l d e stop cause = text_unfinished P k l stop cause
