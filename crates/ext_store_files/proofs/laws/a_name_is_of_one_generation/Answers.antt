use Rattle.ext_store_files.proofs.NamesLemmas.{one_generation}
use Rattle.ext_store_files.proofs.laws.a_name_is_of_one_generation.Goals as goal

pub returns : goal.returns
returns c = one_generation
