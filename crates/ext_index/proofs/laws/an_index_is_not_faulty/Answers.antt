use Rattle.ext_index.proofs.LawLemmas.{faulty_is_none, one_faulty_line}
use Rattle.ext_index.proofs.laws.an_index_is_not_faulty.Goals as goal

pub returns-clause-none : goal.returns-clause-none
returns-clause-none c = faulty_is_none

pub returns-clause-one : goal.returns-clause-one
returns-clause-one c = one_faulty_line
