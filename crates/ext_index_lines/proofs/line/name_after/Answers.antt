use Rattle.ext_text.specs.Name.{IsName}
use Rattle.ext_index_lines.proofs.LineLemmas.{name_after}
use Rattle.ext_index_lines.proofs.line.name_after.Goals as goal

pub returns-in-Some : goal.returns-in-Some
returns-in-Some c = name_after IsName c.name_of.result c.args.line.now c.args.word.now c.in-Some.rest.now c.in-Some.ensures c.name_of.ensures
