use Rattle.ext_gen.proofs.PointsLemmas.{broken_points_to_nothing}
use Rattle.ext_gen.proofs.laws.a_broken_store_points_to_nothing.Goals as goal

pub returns : goal.returns
returns c = broken_points_to_nothing
