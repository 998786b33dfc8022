use Rattle.ext_find.proofs.LawsLemmas.{one_item_law}
use Rattle.ext_find.proofs.laws.an_entry_gives_one_item.Goals as goal

pub returns : goal.returns
returns g c = one_item_law g.C.Measured.size
