use Rattle.ext_updated.proofs.LawsLemmas.{one_clash}
use Rattle.ext_updated.proofs.laws.items_have_one_clash.Goals as goal

pub returns : goal.returns
returns g c = one_clash
