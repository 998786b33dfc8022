use Rattle.std.proofs.Common.{[]}
use Rattle.ext_cmd.specs.Keyword.{update_word_text}
use Rattle.ext_cmd.specs.declared.keyword.TheConstants.{UPDATE_WORDS, UPDATE_WORD_TEXTS}
use Rattle.ext_cmd.proofs.KeywordLemmas.{there, nowhere, no_update_word, update_words_in_order}
use Rattle.ext_cmd.proofs.keyword.UpdateWord.read.Goals as goal

pub returns-in-None : goal.returns-in-None
returns-in-None c = no_update_word c.args.text.now (nowhere (λ w. w.now) update_word_text UPDATE_WORDS UPDATE_WORD_TEXTS c.args.text.now c.place_in.result (record { now = [] }) c.place_in.ensures.value update_words_in_order c.in-None.is)

pub returns-in-Some : goal.returns-in-Some
returns-in-Some c = there (λ w. w.now) update_word_text UPDATE_WORDS UPDATE_WORD_TEXTS c.args.text.now c.place_in.result c.in-Some.place _ (record { now = [] }) c.place_in.ensures.value update_words_in_order c.in-Some.is
