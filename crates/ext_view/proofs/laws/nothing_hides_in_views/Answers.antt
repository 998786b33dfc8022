use Rattle.ext_view.proofs.LawsLemmas.{nothing_hides_in_views}
use Rattle.ext_view.proofs.laws.nothing_hides_in_views.Goals as goal

pub returns : goal.returns
returns c = nothing_hides_in_views
