use Rattle.ext_attached.proofs.GoingLemmas.{plan_planned}
use Rattle.ext_attached.proofs.detaching.detach.Goals as goal

pub returns-clause-next : goal.returns-clause-next
returns-clause-next c = plan_planned c.args.host.now c.args.name.now c.requires c.detach_paths.result c.detach_paths.ensures
