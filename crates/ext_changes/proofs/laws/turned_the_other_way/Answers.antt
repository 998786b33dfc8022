use Rattle.ext_changes.proofs.LawsLemmas.{turned_the_other_way}
use Rattle.ext_changes.proofs.laws.turned_the_other_way.Goals as goal

pub returns : goal.returns
returns g c = turned_the_other_way
