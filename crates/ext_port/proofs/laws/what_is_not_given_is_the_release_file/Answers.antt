use Rattle.ext_port.proofs.NotGivenLemmas.{attach_not_given, inspect_not_given}
use Rattle.ext_port.proofs.laws.what_is_not_given_is_the_release_file.Goals as goal

pub returns-clause-attach : goal.returns-clause-attach
returns-clause-attach c = attach_not_given

pub returns-clause-inspect : goal.returns-clause-inspect
returns-clause-inspect c = inspect_not_given
