use Rattle.ext_updated.proofs.LawsLemmas.{pieces_may}
use Rattle.ext_updated.proofs.laws.pieces_without_a_clash_may_be_put.Goals as goal

pub returns : goal.returns
returns g c = pieces_may
