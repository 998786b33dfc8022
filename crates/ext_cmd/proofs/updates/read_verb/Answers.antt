use Rattle.std.proofs.Common.{refl}
use Rattle.ext_cmd.proofs.UpdateLemmas.{read_asked, unknown_asked}
use Rattle.ext_cmd.proofs.updates.read_verb.Goals as goal

pub returns-in-None : goal.returns-in-None
returns-in-None c = unknown_asked c.args.word.now c.args.more.now c.args.place c.in-None.ensures

pub returns-in-Some : goal.returns-in-Some
returns-in-Some c = read_asked c.args.word.now c.args.more.now c.in-Some.asked c.args.place _ c.read_after.result refl c.in-Some.ensures c.read_after.ensures
