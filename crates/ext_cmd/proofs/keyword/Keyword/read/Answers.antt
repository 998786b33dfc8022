use Rattle.std.proofs.Common.{[]}
use Rattle.ext_cmd.specs.Keyword.{keyword_text}
use Rattle.ext_cmd.specs.declared.keyword.TheConstants.{KEYWORDS, KEYWORD_TEXTS}
use Rattle.ext_cmd.proofs.KeywordLemmas.{there, nowhere, no_keyword, keywords_in_order}
use Rattle.ext_cmd.proofs.keyword.Keyword.read.Goals as goal

pub returns-in-None : goal.returns-in-None
returns-in-None c = no_keyword c.args.text.now (nowhere (λ w. w.now) keyword_text KEYWORDS KEYWORD_TEXTS c.args.text.now c.place_in.result (record { now = [] }) c.place_in.ensures.value keywords_in_order c.in-None.is)

pub returns-in-Some : goal.returns-in-Some
returns-in-Some c = there (λ w. w.now) keyword_text KEYWORDS KEYWORD_TEXTS c.args.text.now c.place_in.result c.in-Some.place _ (record { now = [] }) c.place_in.ensures.value keywords_in_order c.in-Some.is
