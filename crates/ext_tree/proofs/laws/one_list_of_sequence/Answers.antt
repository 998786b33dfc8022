use Rattle.ext_tree.proofs.LawsLemmas.{sequence_law}
use Rattle.ext_tree.proofs.laws.one_list_of_sequence.Goals as goal

pub returns : goal.returns
returns c = sequence_law
