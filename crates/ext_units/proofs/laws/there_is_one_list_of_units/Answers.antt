use Rattle.ext_units.proofs.LawsLemmas.{one_units_law}
use Rattle.ext_units.proofs.laws.there_is_one_list_of_units.Goals as goal

pub returns : goal.returns
returns g c = one_units_law _
