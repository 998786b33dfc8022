use Rattle.ext_gen.proofs.PointsLemmas.{one_state}
use Rattle.ext_gen.proofs.laws.a_store_stands_for_one_generation.Goals as goal

pub returns : goal.returns
returns c = one_state
