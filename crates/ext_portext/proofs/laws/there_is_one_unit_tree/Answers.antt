use Rattle.ext_portext.proofs.UnitTreeLemmas.{one_unit_tree}
use Rattle.ext_portext.proofs.laws.there_is_one_unit_tree.Goals as goal

pub returns : goal.returns
returns c = one_unit_tree
