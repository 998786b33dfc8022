use Rattle.ext_history.proofs.KeepingLemmas.{forget_undoes_mark}
use Rattle.ext_history.proofs.OneLemmas.{forget_takes_one}
use Rattle.ext_history.proofs.laws.forgetting_takes_one_mark.Goals as goal

pub returns-clause-one : goal.returns-clause-one
returns-clause-one c = forget_takes_one

pub returns-clause-undoes : goal.returns-clause-undoes
returns-clause-undoes c = forget_undoes_mark
