use Rattle.ext_cmd.proofs.CommandLemmas.{no_verb, unknown_verb, read_verb}
use Rattle.ext_cmd.proofs.views.read_view.Goals as goal

pub returns-in-None : goal.returns-in-None
returns-in-None c = no_verb c.args.words.now c.in-None.ensures

pub returns-in-None-read : goal.returns-in-None-read
returns-in-None-read c = unknown_verb c.in-Some.word.now c.in-Some.more c.args.words.now c.in-Some.ensures c.in-None-read.ensures

pub returns-in-Some-read : goal.returns-in-Some-read
returns-in-Some-read c = read_verb c.in-Some.word.now c.in-Some.more c.args.words.now c.in-Some-read.verb c.read_after.result c.in-Some.ensures c.in-Some-read.ensures c.read_after.ensures
