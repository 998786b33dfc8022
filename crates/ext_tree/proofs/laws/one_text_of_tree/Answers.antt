use Rattle.ext_tree.proofs.LawsLemmas.{text_law}
use Rattle.ext_tree.proofs.laws.one_text_of_tree.Goals as goal

pub returns : goal.returns
returns c = text_law
