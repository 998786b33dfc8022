use Rattle.ext_choice.proofs.ForCallers.{by_transfer}
use Rattle.ext_update.proofs.vacuuming.plan_vacuum.Goals as goal

pub divide-requires : goal.divide-requires
divide-requires c = by_transfer c.args.installed.now.items c.requires.installed.1.order
