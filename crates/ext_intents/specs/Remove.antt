-- The command `remove`: what stands at and below a path goes. It is refused where nothing stands there, and then where a
-- merge locks the path; the order is this project's own.
use Rattle.std.specs.Prelude.{ℕ, List, is_some, not, if◌then◌else◌}
use Rattle.ext_tree.specs.Cut.{cut}
use Rattle.ext_tree.specs.Tree.{lookup}
use Rattle.ext_host.specs.declared.host.Host.{Host}
use Rattle.ext_host.specs.ReadOnly.{is_read_only}
use Rattle.ext_cmd.specs.declared.answer.Answer.TheVariants.{Done}
use Rattle.ext_cmd.specs.declared.refusal.Refusal.TheVariants.{NoEntry, ReadOnly}
use Rattle.ext_intents.specs.Change.{changed_at}
use Rattle.ext_intents.specs.declared.intent.Intent.{Intent}
use Rattle.ext_intents.specs.declared.intent.Intent.TheVariants.{Changes, Refuses}

-- what it wants of a host
abbrev pub remove_intent : Host → List (List ℕ) → Intent
remove_intent host path =
    if not (is_some (lookup host.root path)) then Refuses (NoEntry path)
    else if is_read_only host path then Refuses (ReadOnly path)
    else Changes (changed_at host path (cut path host.root)) Done
