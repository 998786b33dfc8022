use Rattle.ext_tree.specs.FirstFault.{AtLeastOne}
use Rattle.ext_tree.proofs.OneFaultLemmas.{no_fault_in_sequence, prefixes_begin, one_first_fault}
use Rattle.ext_tree.proofs.SomeFaultLemmas.{fault_of_no_sequence}
use Rattle.ext_tree.proofs.laws.first_fault_of_sequence.Goals as goal

pub returns-clause-none : goal.returns-clause-none
returns-clause-none c = no_fault_in_sequence

pub returns-clause-begins : goal.returns-clause-begins
returns-clause-begins c = prefixes_begin

pub returns-clause-one : goal.returns-clause-one
returns-clause-one c = one_first_fault AtLeastOne

pub returns-clause-some : goal.returns-clause-some
returns-clause-some c = fault_of_no_sequence
