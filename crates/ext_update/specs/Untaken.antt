-- How a resource that can't be taken is told: by a refusal, or by that nothing was planned.
use Rattle.std.specs.Prelude.{ℕ, Result, Ok, Err}
use Rattle.ext_text.specs.Causes.{Rose}
use Rattle.ext_text.specs.declared.which.Which.TheVariants as limits
use Rattle.ext_resources.specs.declared.resource_err.ResourceErr.{ResourceErr}
use Rattle.ext_resources.specs.declared.resource_err.ResourceErr.TheVariants as untaken
use Rattle.ext_update.specs.declared.planned.Update.{Update}
use Rattle.ext_update.specs.declared.planned.Update.TheVariants.{Refused}
use Rattle.ext_update.specs.declared.refusal.UpdateRefusal.TheVariants as refusals
use Rattle.ext_update.specs.declared.update_err.UpdateErr.{UpdateErr}
use Rattle.ext_update.specs.declared.update_err.UpdateErr.TheVariants as errors

-- by a refusal, or by that nothing was planned
abbrev pub not_taken : ResourceErr → Result Update UpdateErr
not_taken untaken.OutOfMemory = Err errors.OutOfMemory
not_taken untaken.Fault = Err errors.DepotFault
not_taken (untaken.NotInDepot path) = Ok (Refused (refusals.NotInDepot path))
not_taken (untaken.FileTooLarge path) = Ok (Refused (refusals.Limit limits.File))
not_taken (untaken.TextTooLong path) = Ok (Refused (refusals.Limit limits.Text))
not_taken (untaken.Mismatch path listed found) = Ok (Refused (refusals.Mismatch path listed found))
not_taken (untaken.BadTree path line) = Ok (Refused (refusals.BadTree path line))

-- why nothing was planned: a fault of the depot only where it counted one
abbrev pub UpdateCause : ℕ → ℕ → UpdateErr → Type 0
UpdateCause before after errors.DepotFault = Rose before after
UpdateCause before after errors.OutOfMemory = Unit {0}
