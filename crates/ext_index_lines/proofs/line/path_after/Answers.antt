use Rattle.ext_index_lines.proofs.LineLemmas.{path_after}
use Rattle.ext_index_lines.proofs.line.path_after.Goals as goal

pub returns-in-Some : goal.returns-in-Some
returns-in-Some c = path_after c.path_of.result c.args.line.now c.args.word.now c.in-Some.rest.now c.in-Some.ensures c.path_of.ensures
