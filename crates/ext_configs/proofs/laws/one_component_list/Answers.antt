use Rattle.ext_configs.proofs.LawsLemmas.{one_component_law}
use Rattle.ext_configs.proofs.laws.one_component_list.Goals as goal

pub returns : goal.returns
returns g c = one_component_law _
