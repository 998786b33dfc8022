-- The law of what commands want.
use Rattle.std.specs.Prelude.{◌≡◌, Option, Some, IfSome}
use Rattle.ext_tree.specs.Tree.{IsTree}
use Rattle.ext_depot.specs.Depot.{Files}
use Rattle.ext_view.specs.Laws.{TellsAll}
use Rattle.ext_cmd.specs.declared.command.Command.{Command}
use Rattle.ext_intents.specs.Intents.{Seen}
use Rattle.ext_intents.specs.Step.{Wants}
use Rattle.ext_intents.specs.declared.intent.Intent.{Intent}

-- a tree is seen, and it is told of each file what it has, or that it is missing
pub record IsToldSeen (seen : Seen) : Type 0 where
  pub root : IsTree seen.host.root
  pub tells : TellsAll seen.told

-- of such a host, or where there is none, and of a depot that tells its files, a command wants one thing
abbrev pub OneIntent : Type 0
OneIntent =
    (seen : Option Seen) (files : Files) (command : Command) (a b : Intent)
    → IfSome seen IsToldSeen
    → Wants seen (Some files) command a
    → Wants seen (Some files) command b
    → a ≡ b
