use Rattle.ext_text.proofs.PathLemmas.{prefix_path, rest_path}
use Rattle.ext_text.proofs.laws.a_part_of_a_path_is_a_path.Goals as goal

pub returns-clause-prefix : goal.returns-clause-prefix
returns-clause-prefix c = prefix_path

pub returns-clause-rest : goal.returns-clause-rest
returns-clause-rest c = rest_path
