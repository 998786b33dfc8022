use Rattle.std.proofs.Common.{[]}
use Rattle.ext_cmd.specs.Keyword.{verb_text}
use Rattle.ext_cmd.specs.declared.keyword.TheConstants.{VERBS, VERB_TEXTS}
use Rattle.ext_cmd.proofs.KeywordLemmas.{there, nowhere, no_verb, verbs_in_order}
use Rattle.ext_cmd.proofs.keyword.Verb.read.Goals as goal

pub returns-in-None : goal.returns-in-None
returns-in-None c = no_verb c.args.text.now (nowhere (λ w. w.now) verb_text VERBS VERB_TEXTS c.args.text.now c.place_in.result (record { now = [] }) c.place_in.ensures.value verbs_in_order c.in-None.is)

pub returns-in-Some : goal.returns-in-Some
returns-in-Some c = there (λ w. w.now) verb_text VERBS VERB_TEXTS c.args.text.now c.place_in.result c.in-Some.place _ (record { now = [] }) c.place_in.ensures.value verbs_in_order c.in-Some.is
