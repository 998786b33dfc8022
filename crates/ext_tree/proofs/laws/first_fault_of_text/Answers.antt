use Rattle.ext_tree.specs.FirstFault.{IsOne}
use Rattle.ext_tree.proofs.OneFaultLemmas.{no_fault_in_text, one_first_fault}
use Rattle.ext_tree.proofs.SomeFaultLemmas.{fault_of_no_text}
use Rattle.ext_tree.proofs.laws.first_fault_of_text.Goals as goal

pub returns-clause-none : goal.returns-clause-none
returns-clause-none c = no_fault_in_text

pub returns-clause-one : goal.returns-clause-one
returns-clause-one c = one_first_fault IsOne

pub returns-clause-some : goal.returns-clause-some
returns-clause-some c = fault_of_no_text
