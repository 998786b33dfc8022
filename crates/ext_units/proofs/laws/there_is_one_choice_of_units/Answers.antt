use Rattle.ext_units.proofs.LawsLemmas.{one_choice_law}
use Rattle.ext_units.proofs.laws.there_is_one_choice_of_units.Goals as goal

pub returns : goal.returns
returns g c = one_choice_law _
