use Rattle.ext_cmd.proofs.UpdateLemmas.{no_asked}
use Rattle.ext_cmd.proofs.updates.read_asked.Goals as goal

pub returns-in-None : goal.returns-in-None
returns-in-None c = no_asked c.args.words.now c.args.first c.in-None.ensures
