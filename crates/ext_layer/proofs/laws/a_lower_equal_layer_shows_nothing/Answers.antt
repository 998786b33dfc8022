use Rattle.ext_layer.proofs.LawsLemmas.{lower_equal_shows_nothing}
use Rattle.ext_layer.proofs.laws.a_lower_equal_layer_shows_nothing.Goals as goal

pub returns : goal.returns
returns g c = lower_equal_shows_nothing
