use Rattle.ext_attached.proofs.LawsLemmas.{again_law}
use Rattle.ext_attached.proofs.laws.taking_away_twice_is_taking_away_once.Goals as goal

pub returns : goal.returns
returns c = again_law
