use Rattle.ext_sample.proofs.LawsLemmas.{one_sample_depot}
use Rattle.ext_sample.proofs.laws.one_sample_depot.Goals as goal

pub returns : goal.returns
returns c = one_sample_depot
