use Rattle.ext_walk.proofs.EndLemmas.{no_link}
use Rattle.ext_walk.proofs.laws.ends_at_no_link.Goals as goal

pub returns : goal.returns
returns g c = no_link
