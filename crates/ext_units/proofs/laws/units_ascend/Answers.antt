use Rattle.ext_units.proofs.LawsLemmas.{ascend_law}
use Rattle.ext_units.proofs.laws.units_ascend.Goals as goal

pub returns : goal.returns
returns g c = ascend_law _
