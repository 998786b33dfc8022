use Rattle.ext_tree.proofs.LawsLemmas.{tree_law}
use Rattle.ext_tree.proofs.laws.one_tree_of_text.Goals as goal

pub returns : goal.returns
returns c = tree_law
