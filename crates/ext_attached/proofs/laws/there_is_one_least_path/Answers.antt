use Rattle.ext_attached.proofs.LawsLemmas.{least_law}
use Rattle.ext_attached.proofs.laws.there_is_one_least_path.Goals as goal

pub returns : goal.returns
returns c = least_law
