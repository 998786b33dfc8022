use Rattle.ext_units.proofs.LawsLemmas.{decides_law, hides_law}
use Rattle.ext_units.proofs.laws.the_first_entry_decides.Goals as goal

pub returns-clause-decides : goal.returns-clause-decides
returns-clause-decides g c = decides_law _

pub returns-clause-hides : goal.returns-clause-hides
returns-clause-hides g c = hides_law _
