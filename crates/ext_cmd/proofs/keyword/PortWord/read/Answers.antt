use Rattle.std.proofs.Common.{[]}
use Rattle.ext_cmd.specs.Keyword.{port_word_text}
use Rattle.ext_cmd.specs.declared.keyword.TheConstants.{PORT_WORDS, PORT_WORD_TEXTS}
use Rattle.ext_cmd.proofs.KeywordLemmas.{there, nowhere, no_port_word, port_words_in_order}
use Rattle.ext_cmd.proofs.keyword.PortWord.read.Goals as goal

pub returns-in-None : goal.returns-in-None
returns-in-None c = no_port_word c.args.text.now (nowhere (λ w. w.now) port_word_text PORT_WORDS PORT_WORD_TEXTS c.args.text.now c.place_in.result (record { now = [] }) c.place_in.ensures.value port_words_in_order c.in-None.is)

pub returns-in-Some : goal.returns-in-Some
returns-in-Some c = there (λ w. w.now) port_word_text PORT_WORDS PORT_WORD_TEXTS c.args.text.now c.place_in.result c.in-Some.place _ (record { now = [] }) c.place_in.ensures.value port_words_in_order c.in-Some.is
