use Rattle.ext_available.proofs.LawsLemmas as lemmas
use Rattle.ext_available.proofs.laws.one_available.Goals as goal

pub returns : goal.returns
returns c = lemmas.one_available c.an_ascending_list_is_one.ensures.one
