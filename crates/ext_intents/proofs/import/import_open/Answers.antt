use Rattle.ext_intents.proofs.ImportLemmas.{fitting_wants}
use Rattle.ext_intents.proofs.import.import_open.Goals as goal

pub returns-in-Ok : goal.returns-in-Ok
returns-in-Ok c =
    fitting_wants c.args.host.now c.args.resource.now c.args.path.now c.args.tree _ c.import_part.result c.in-Ok.ensures.0 c.in-Ok.ensures.1 c.import_part.ensures
