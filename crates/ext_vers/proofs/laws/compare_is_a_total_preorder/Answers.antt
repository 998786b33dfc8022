use Rattle.ext_vers.specs.Order.{versions_total}
use Rattle.ext_vers.proofs.laws.compare_is_a_total_preorder.Goals as goal

pub returns : goal.returns
returns c = versions_total
