use Rattle.ext_gen.proofs.PointsLemmas.{one_broken_line}
use Rattle.ext_gen.proofs.laws.a_broken_store_is_broken_in_one_line.Goals as goal

pub returns : goal.returns
returns c = one_broken_line
