use Rattle.ext_cmd.proofs.OneCommandLemmas.{one_command, reads_back}
use Rattle.ext_cmd.proofs.laws.words_are_of_one_command.Goals as goal

pub returns-clause-one : goal.returns-clause-one
returns-clause-one c = one_command

pub returns-clause-read : goal.returns-clause-read
returns-clause-read c = reads_back
