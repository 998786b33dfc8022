use Rattle.ext_configs.proofs.LawsLemmas.{config_file_law}
use Rattle.ext_configs.proofs.laws.configs_are_files.Goals as goal

pub returns : goal.returns
returns g c = config_file_law g.C.Measured.size
