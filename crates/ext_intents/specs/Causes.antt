-- Why nothing was planned.
use Rattle.std.specs.Prelude.{◌≡◌, ℕ, false, Result, Ok, Err}
use Rattle.ext_text.specs.Causes.{Rose}
use Rattle.ext_text.specs.declared.extension.Extension.{Extension}
use Rattle.ext_text.specs.declared.extension.Extension.TheVariants as extensions
use Rattle.ext_tree.specs.Tree.{Entries}
use Rattle.ext_host.specs.Drawn.{IsFileOf, trees_of}
use Rattle.ext_host.specs.Held.{HeldFile}
use Rattle.ext_host.specs.Planning.{IsBaseTree}
use Rattle.ext_host.specs.Shelf.{Told}
use Rattle.ext_host.specs.declared.host.Host.{Host}
use Rattle.ext_host.specs.declared.shelf.ShelfErr.{ShelfErr}
use Rattle.ext_find.specs.HostRelease.{ShelfFault}
use Rattle.ext_view.specs.Hierarchies.{is_merged}
use Rattle.ext_view.specs.Surveying.{IsRead}
use Rattle.ext_view.specs.declared.errors.ViewErr.{ViewErr}
use Rattle.ext_view.specs.declared.errors.ViewErr.TheVariants as errors
use Rattle.ext_cmd.specs.declared.command.Command.{Command}
use Rattle.ext_cmd.specs.declared.command.Command.TheVariants.{Sysext, Confext, Sysupdate, Portable}
use Rattle.ext_cmd.specs.declared.command.ViewCommand.{ViewCommand}
use Rattle.ext_cmd.specs.declared.command.ViewCommand.TheVariants as views
use Rattle.ext_cmd.specs.declared.refusal.Refusal.TheVariants as refusals
use Rattle.ext_intents.specs.Portable.{IsServiceFile}
use Rattle.ext_intents.specs.Sysupdate.{IsSysupdateFile}
use Rattle.ext_intents.specs.declared.intent.Intent.{Intent}
use Rattle.ext_intents.specs.declared.intent.Intent.TheVariants.{Refuses}
use Rattle.ext_intents.specs.declared.plan_err.PlanErr.{PlanErr}
use Rattle.ext_intents.specs.declared.plan_err.PlanErr.TheVariants.{DepotFault, Shelf, OutOfMemory}

-- a file that the survey of a host's extensions reads: its release file, or that of an image
abbrev pub IsSurveyFile : Host → Extension → HeldFile → Type 0
IsSurveyFile host class held = (base : Entries HeldFile) × IsBaseTree host base × IsRead host base class held

-- a file that a command of the class reads: `list`, `refresh`, `changes` and `explain` read those of a survey, `merge` where the
-- class is not merged, and the others none
abbrev pub IsViewFile : Host → Extension → ViewCommand → HeldFile → Type 0
IsViewFile host class views.List held = IsSurveyFile host class held
IsViewFile host class views.Status held = ⊥
IsViewFile host class (views.Merge force) held = (is_merged class host ≡ false) × IsSurveyFile host class held
IsViewFile host class views.Unmerge held = ⊥
IsViewFile host class (views.Refresh force) held = IsSurveyFile host class held
IsViewFile host class (views.Changes force) held = IsSurveyFile host class held
IsViewFile host class (views.Explain force path) held = IsSurveyFile host class held

-- a file of the host that is read before it is known what a command wants
abbrev pub IsStepFile : Host → Command → HeldFile → Type 0
IsStepFile host (Sysext view) held = IsViewFile host extensions.Sysext view held
IsStepFile host (Confext view) held = IsViewFile host extensions.Confext view held
IsStepFile host (Sysupdate component verb) held = IsSysupdateFile host component verb held
IsStepFile host (Portable command) held = IsServiceFile host command held
IsStepFile host _ held = ⊥

-- the shelf did not give a file of the host that is read, for the cause that it has; the numbers count its faults before and after
pub record IsNotGiven (IsFile : HeldFile → Type 0) (host : Host) (told : HeldFile → Told) (old new : ℕ) (e : ShelfErr) : Type 0 where
  pub held : HeldFile
  pub is_read : IsFile held
  pub file : IsFileOf (trees_of host) held
  pub cause : ShelfFault old new (told held) held e

-- of a command that looks at the host's extensions: that, or there was no memory
abbrev pub ViewCause : (HeldFile → Type 0) → Host → (HeldFile → Told) → ℕ → ℕ → PlanErr → Type 0
ViewCause IsFile host told old new DepotFault = ⊥
ViewCause IsFile host told old new (Shelf e) = IsNotGiven IsFile host told old new e
ViewCause IsFile host told old new OutOfMemory = Unit {0}

-- of any command: that, or the depot had a fault, by its count before and after, or there was no memory
abbrev pub StepCause : (HeldFile → Type 0) → Host → (HeldFile → Told) → ℕ → ℕ → ℕ → ℕ → PlanErr → Type 0
StepCause IsFile host told old new before after DepotFault = Rose before after
StepCause IsFile host told old new before after (Shelf e) = IsNotGiven IsFile host told old new e
StepCause IsFile host told old new before after OutOfMemory = Unit {0}

-- how it is told why a host is not surveyed or merged: by a refusal, or by that nothing was planned
abbrev pub refused : ViewErr → Result Intent PlanErr
refused errors.OutOfMemory = Err OutOfMemory
refused errors.Merged = Ok (Refuses refusals.Merged)
refused errors.NoHostRelease = Ok (Refuses refusals.NoHostRelease)
refused (errors.BadHostRelease line) = Ok (Refuses (refusals.BadHostRelease line))
refused (errors.Shelf e) = Err (Shelf e)
refused (errors.Limit which) = Ok (Refuses (refusals.Limit which))
