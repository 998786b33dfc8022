use Rattle.ext_gen.proofs.PointsLemmas.{one_generation}
use Rattle.ext_gen.proofs.laws.a_store_points_to_one_generation.Goals as goal

pub returns : goal.returns
returns c = one_generation
