use Rattle.ext_cmd.proofs.UpdateLemmas.{no_update}
use Rattle.ext_cmd.proofs.updates.read_sysupdate.Goals as goal

pub returns-in-None : goal.returns-in-None
returns-in-None c = no_update c.args.more.now c.in-None.ensures
