use Rattle.ext_cmd.proofs.CommandLemmas.{no_path_said}
use Rattle.ext_cmd.proofs.views.read_explain.Goals as goal

pub returns-in-None : goal.returns-in-None
returns-in-None c = no_path_said c.args.more.now c.in-None.ensures
