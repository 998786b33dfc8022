use Rattle.ext_text.proofs.PrefixLemmas.{prefix_first, proper_first}
use Rattle.ext_text.proofs.laws.a_prefix_is_the_first_names.Goals as goal

pub returns-clause-prefix : goal.returns-clause-prefix
returns-clause-prefix c = prefix_first

pub returns-clause-proper : goal.returns-clause-proper
returns-clause-proper c = proper_first
