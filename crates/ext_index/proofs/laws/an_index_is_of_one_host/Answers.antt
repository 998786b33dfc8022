use Rattle.std.proofs.Common.{sym, ◌∙◌}
use Rattle.ext_index.proofs.LawLemmas.{one_host}
use Rattle.ext_index.proofs.laws.an_index_is_of_one_host.Goals as goal

pub returns-clause-host : goal.returns-clause-host
returns-clause-host c = one_host

pub returns-clause-text : goal.returns-clause-text
returns-clause-text c = λ number g host bytes other one more. one.text ∙ sym more.text
