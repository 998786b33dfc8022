use Rattle.ext_layer.proofs.LawsLemmas.{nothing_hides}
use Rattle.ext_layer.proofs.laws.nothing_hides.Goals as goal

pub returns : goal.returns
returns g c = nothing_hides
