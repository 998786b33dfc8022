use Rattle.ext_port.proofs.MovedLemmas.{attaches_alike, inspects_alike}
use Rattle.ext_port.proofs.laws.they_rest_on_the_files_of_the_host.Goals as goal

pub returns-clause-attach : goal.returns-clause-attach
returns-clause-attach c = attaches_alike

pub returns-clause-inspect : goal.returns-clause-inspect
returns-clause-inspect c = inspects_alike
