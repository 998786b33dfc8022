use Rattle.ext_find.proofs.LawsLemmas.{one_found_law}
use Rattle.ext_find.proofs.laws.there_is_one_found_list.Goals as goal

pub returns : goal.returns
returns g c = one_found_law g.C.Measured.size
