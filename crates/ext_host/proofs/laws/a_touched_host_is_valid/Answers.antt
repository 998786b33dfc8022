use Rattle.ext_host.proofs.TouchLemmas.{touched_all_is_valid, touched_is_valid, touched_one_by_one}
use Rattle.ext_host.proofs.laws.a_touched_host_is_valid.Goals as goal

pub returns-clause-one : goal.returns-clause-one
returns-clause-one c = touched_is_valid

pub returns-clause-all : goal.returns-clause-all
returns-clause-all c = touched_all_is_valid

pub returns-clause-in_turn : goal.returns-clause-in_turn
returns-clause-in_turn c = touched_one_by_one
