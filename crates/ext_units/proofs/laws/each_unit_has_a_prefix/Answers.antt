use Rattle.ext_units.proofs.LawsLemmas.{prefix_law}
use Rattle.ext_units.proofs.laws.each_unit_has_a_prefix.Goals as goal

pub returns : goal.returns
returns g c = prefix_law _
