use Rattle.ext_resources.proofs.LawsLemmas as lemmas
use Rattle.ext_resources.proofs.laws.one_told.Goals as goal

pub returns : goal.returns
returns c = lemmas.one_told c.one_tree_of_text.ensures c.first_fault_of_text.ensures.none c.first_fault_of_text.ensures.one
