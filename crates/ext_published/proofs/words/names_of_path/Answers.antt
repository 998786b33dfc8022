use Rattle.ext_published.proofs.WordLemmas.{path_refused}
use Rattle.ext_published.proofs.words.names_of_path.Goals as goal

pub returns-in-Err : goal.returns-in-Err
returns-in-Err c = rw c.usage_of.ensures (path_refused c.args.text.now c.args.place _ c.in-Err.ensures)
