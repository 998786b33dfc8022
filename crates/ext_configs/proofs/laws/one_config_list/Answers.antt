use Rattle.ext_configs.proofs.LawsLemmas.{one_config_law}
use Rattle.ext_configs.proofs.laws.one_config_list.Goals as goal

pub returns : goal.returns
returns g c = one_config_law g.C.Measured.size
