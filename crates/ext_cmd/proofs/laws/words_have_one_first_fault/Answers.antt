use Rattle.std.proofs.Common.{refl}
use Rattle.ext_cmd.specs.Words.{IsCommand, command_words}
use Rattle.ext_cmd.specs.declared.command.Command.TheVariants.{Layer}
use Rattle.ext_cmd.proofs.OneFaultLemmas.{fault_within, no_fault, one_fault, some_fault}
use Rattle.ext_cmd.proofs.laws.words_have_one_first_fault.Goals as goal

pub returns-clause-one : goal.returns-clause-one
returns-clause-one c = λ words a b fault other. one_fault IsCommand words 1 a b fault other

pub returns-clause-none : goal.returns-clause-none
returns-clause-none c = λ words place is fault. no_fault IsCommand words 1 place is fault

pub returns-clause-some : goal.returns-clause-some
returns-clause-some c =
    λ words not none. some_fault IsCommand words 1 (record { more = command_words Layer; whole = record { command = Layer; well_formed = tt; same = refl } }) not none

pub returns-clause-within : goal.returns-clause-within
returns-clause-within c = λ words place fault. fault_within IsCommand words 1 place fault
