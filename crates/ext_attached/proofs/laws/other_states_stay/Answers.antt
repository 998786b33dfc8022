use Rattle.ext_attached.proofs.LawsLemmas.{states_law}
use Rattle.ext_attached.proofs.laws.other_states_stay.Goals as goal

pub returns : goal.returns
returns c = states_law
