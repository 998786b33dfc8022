use Rattle.ext_cmd.proofs.CommandLemmas.{read_keyword, unknown_keyword}
use Rattle.ext_cmd.proofs.words.read_from.Goals as goal

pub returns-in-None : goal.returns-in-None
returns-in-None c = unknown_keyword c.args.word.now c.args.more.now c.in-None.ensures

pub returns-in-Some : goal.returns-in-Some
returns-in-Some c = read_keyword c.args.word.now c.args.more.now c.in-Some.keyword c.read_after.result c.in-Some.ensures c.read_after.ensures
