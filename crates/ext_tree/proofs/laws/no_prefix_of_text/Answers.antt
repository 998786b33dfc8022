use Rattle.ext_tree.proofs.LawsLemmas.{prefix_law}
use Rattle.ext_tree.proofs.laws.no_prefix_of_text.Goals as goal

pub returns : goal.returns
returns c = prefix_law
