use Rattle.std.proofs.Common.{sym, subst}
use Rattle.std.specs.Prelude.{IfOk}
use Rattle.ext_intents.specs.Portable.{PortWants}
use Rattle.ext_intents.proofs.portable.port_step.Goals as goal

pub returns-in-Inspect-clause-wants : goal.returns-in-Inspect-clause-wants
returns-in-Inspect-clause-wants g c =
    subst (λ command. IfOk c.inspect_step.result (PortWants c.args.host.now (g.H.Shelf.told c.args.shelf.now) command)) (sym c.in-Inspect.is) c.inspect_step.ensures.wants
