use Rattle.ext_resources.proofs.LawsLemmas.{has_what_the_tree_has}
use Rattle.ext_resources.proofs.laws.an_instance_is_one_of_the_tree.Goals as goal

pub returns : goal.returns
returns g c = has_what_the_tree_has
