use Rattle.ext_port.proofs.MovedLemmas.{attach_counts_law, inspect_counts_law}
use Rattle.ext_port.proofs.laws.faults_matter_for_errors_of_the_shelf_alone.Goals as goal

pub returns-clause-attach : goal.returns-clause-attach
returns-clause-attach c = attach_counts_law

pub returns-clause-inspect : goal.returns-clause-inspect
returns-clause-inspect c = inspect_counts_law
