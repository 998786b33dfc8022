use Rattle.ext_find.proofs.PickLemmas.{no_start, past_start}
use Rattle.ext_find.proofs.version.version_after.Goals as goal

pub returns-in-None : goal.returns-in-None
returns-in-None c = no_start c.args.arch c.args.start.now c.args.name.now c.in-None.ensures.cases

pub returns-in-Some : goal.returns-in-Some
returns-in-Some c = past_start c.args.arch c.args.start.now c.args.name.now c.in-Some.text.now c.version_of.result c.in-Some.ensures.cases.0 c.in-Some.ensures.cases.1 c.version_of.ensures
