-- What is said of an intent that is carried out on a store that was opened so, or on none: all that is said of a command that wants it.
use Rattle.std.specs.Prelude.{◌≡◌, Option, IfErr, IfOk, Result}
use Rattle.ext_disk.specs.Disk.{BothTold, DiskState}
use Rattle.ext_disk.specs.Since.{Follows}
use Rattle.ext_depot.specs.Depot.{DepotState, IsKept}
use Rattle.ext_gen.specs.Opened.{Generation}
use Rattle.ext_intents.specs.declared.intent.Intent.{Intent}
use Rattle.ext_top.specs.Applying.{AppliesTold, ApplyCause, IsShownReply, PointsAs, WhereDamaged, WhereUnfinished}
use Rattle.ext_top.specs.Machine.{Comes}
use Rattle.ext_top.specs.Working.{IsReplyTo, LeavesCurrent, Met, ReadsDamage, WantsWithin, WorksFor, refused_by}
use Rattle.ext_top.specs.declared.applied.Applied.{Applied}
use Rattle.ext_top.specs.declared.apply_err.ApplyErr.{ApplyErr}

-- from this disk and depot to those, with this result
pub record CarriesOut (intent : Intent) (from : Option Generation) (old new : DiskState) (before after : DepotState)
    (result : Result Applied ApplyErr) : Type 0 where
  pub follows : Follows old new
  pub kept : IsKept before after
  pub applies : BothTold (AppliesTold (λ s. Comes s before.contents intent) from result) old.told new.told
  pub shown : IfOk result (λ applied. IsShownReply from old new applied.reply)
  pub works : BothTold (WorksFor (λ wanted. wanted ≡ intent) from) old.told new.told
  pub met : IfOk result (λ applied. Met intent from old new before (refused_by applied.reply) applied.opened)
  pub points : IfOk result (λ applied. PointsAs new applied.opened)
  pub current : BothTold (LeavesCurrent result) old.told new.told
  pub replies : IfOk result (λ applied. IsReplyTo intent from applied.reply)
  pub unfinished : IfErr result (WhereUnfinished (WantsWithin (λ wanted. wanted ≡ intent) from))
  pub damaged : IfErr result (WhereDamaged (ReadsDamage intent from old before))
  pub cause : IfErr result (ApplyCause from old new before after)
