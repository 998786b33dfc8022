use Rattle.ext_cmd.specs.Line.{IsLineCommand}
use Rattle.ext_cmd.proofs.LineLemmas.{some_line}
use Rattle.ext_cmd.proofs.OneFaultLemmas.{fault_within, no_fault, one_fault, some_fault}
use Rattle.ext_cmd.proofs.laws.a_line_has_one_first_fault.Goals as goal

pub returns-clause-one : goal.returns-clause-one
returns-clause-one c = λ words a b fault other. one_fault IsLineCommand words 1 a b fault other

pub returns-clause-none : goal.returns-clause-none
returns-clause-none c = λ words place is fault. no_fault IsLineCommand words 1 place is fault

pub returns-clause-some : goal.returns-clause-some
returns-clause-some c = λ words not none. some_fault IsLineCommand words 1 some_line not none

pub returns-clause-within : goal.returns-clause-within
returns-clause-within c = λ words place fault. fault_within IsLineCommand words 1 place fault
