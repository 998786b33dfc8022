use Rattle.ext_walk.proofs.EndLemmas.{one_end_law}
use Rattle.ext_walk.proofs.laws.one_end.Goals as goal

pub returns : goal.returns
returns g c = one_end_law
