use Rattle.ext_updated.proofs.LawsLemmas.{one_updated}
use Rattle.ext_updated.proofs.laws.an_update_leaves_one_tree.Goals as goal

pub returns : goal.returns
returns g c = one_updated
