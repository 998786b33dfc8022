use Rattle.ext_changes.proofs.LawsLemmas.{below_of_all}
use Rattle.ext_changes.proofs.laws.below_of_all.Goals as goal

pub returns : goal.returns
returns g c = below_of_all
