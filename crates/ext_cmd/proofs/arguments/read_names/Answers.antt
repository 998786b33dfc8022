use Rattle.ext_cmd.proofs.WordLemmas.{path_refused}
use Rattle.ext_cmd.proofs.arguments.read_names.Goals as goal

pub returns-in-Err : goal.returns-in-Err
returns-in-Err c = rw c.usage_of.ensures (path_refused c.args.text.now c.args.place _ c.in-Err.ensures)
