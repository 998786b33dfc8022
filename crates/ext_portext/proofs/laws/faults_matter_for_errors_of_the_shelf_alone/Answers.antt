use Rattle.ext_portext.proofs.MovedExtendedLemmas.{extended_counts_law}
use Rattle.ext_portext.proofs.laws.faults_matter_for_errors_of_the_shelf_alone.Goals as goal

pub returns : goal.returns
returns c = extended_counts_law
