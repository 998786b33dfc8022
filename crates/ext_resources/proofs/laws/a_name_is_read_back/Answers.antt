use Rattle.ext_resources.proofs.LawsLemmas.{name_read_back}
use Rattle.ext_resources.proofs.laws.a_name_is_read_back.Goals as goal

pub returns : goal.returns
returns c = name_read_back
