use Rattle.ext_view.proofs.LawsLemmas.{one_view_law}
use Rattle.ext_view.proofs.laws.there_is_one_view.Goals as goal

pub returns : goal.returns
returns c = one_view_law
