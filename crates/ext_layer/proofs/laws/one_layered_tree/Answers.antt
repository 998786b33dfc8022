use Rattle.ext_layer.proofs.LawsLemmas.{one_layered_tree}
use Rattle.ext_layer.proofs.laws.one_layered_tree.Goals as goal

pub returns : goal.returns
returns g c = one_layered_tree
