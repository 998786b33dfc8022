-- Which commands may change a store, one line a command; the others read it alone. This project's own.
use Rattle.std.specs.Prelude.{◌≡◌, ℕ, Bool, true, false, List}
use Rattle.ext_disk.specs.Disk.{BothTold}
use Rattle.ext_cmd.specs.Words.{IsWellFormed, command_words}
use Rattle.ext_cmd.specs.declared.command.Command.{Command}
use Rattle.ext_cmd.specs.declared.command.Command.TheVariants.{Init, ImportFs, Remove, Sysext, Confext, Tree, Cat, Compare, Check, Layer, Migrate, Batch, Sample, Sysupdate, Components}
use Rattle.ext_cmd.specs.declared.command.Command.TheVariants.{Mark, History, HistoryChanges, Rollback, Forget, Portable}
use Rattle.ext_cmd.specs.declared.command.UpdateVerb.{UpdateVerb}
use Rattle.ext_cmd.specs.declared.command.UpdateVerb.TheVariants as verbs
use Rattle.ext_cmd.specs.declared.command.ViewCommand.{ViewCommand}
use Rattle.ext_cmd.specs.declared.command.ViewCommand.TheVariants as views
use Rattle.ext_cmd.specs.declared.portable.PortCommand.{PortCommand}
use Rattle.ext_cmd.specs.declared.portable.PortCommand.TheVariants as services
use Rattle.ext_top.specs.Devices.{DeviceStates}
use Rattle.ext_top.specs.Working.{StaysTold}

-- a command on extensions that may want another host
abbrev pub may_view_change : ViewCommand → Bool
may_view_change views.List = false
may_view_change views.Status = false
may_view_change (views.Merge force) = true
may_view_change views.Unmerge = true
may_view_change (views.Refresh force) = true
may_view_change (views.Changes force) = false
may_view_change (views.Explain force path) = false

-- a verb of `sysupdate` that may want another host
abbrev pub may_verb_change : UpdateVerb → Bool
may_verb_change verbs.List = false
may_verb_change verbs.CheckNew = false
may_verb_change (verbs.Update wanted) = true
may_verb_change verbs.Vacuum = true
may_verb_change verbs.Features = false

-- a command of portable services that may want another host
abbrev pub may_service_change : PortCommand → Bool
may_service_change services.List = false
may_service_change (services.Inspect image prefixes) = false
may_service_change (services.IsAttached name) = false
may_service_change (services.Attach words) = true
may_service_change (services.Detach name) = true
may_service_change (services.Reattach words) = true

-- a command that may want another host; a batch may, whatever its lines
abbrev pub may_change : Command → Bool
may_change (Init arch scope hierarchies) = true
may_change (ImportFs resource path) = true
may_change (Remove path) = true
may_change (Sysext view) = may_view_change view
may_change (Confext view) = may_view_change view
may_change (Tree path) = false
may_change (Cat path) = false
may_change (Compare a b) = false
may_change Check = false
may_change Layer = false
may_change Migrate = true
may_change Batch = true
may_change (Sample images) = false
may_change (Sysupdate component verb) = may_verb_change verb
may_change Components = false
may_change (Mark keep) = true
may_change History = false
may_change (HistoryChanges mark) = false
may_change (Rollback mark) = true
may_change (Forget mark) = true
may_change (Portable command) = may_service_change command

-- where the words are those of a command that may change nothing, nothing is made, removed or appended, whatever the disk has
abbrev pub StaysUnlessChanging : List (List ℕ) → DeviceStates → DeviceStates → Type 0
StaysUnlessChanging words old new =
    (command : Command) → IsWellFormed command → words ≡ command_words command → may_change command ≡ false
    → BothTold StaysTold old.disk.told new.disk.told
