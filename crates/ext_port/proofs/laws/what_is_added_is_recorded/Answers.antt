use Rattle.ext_port.proofs.LawsLemmas.{tops_law}
use Rattle.ext_port.proofs.laws.what_is_added_is_recorded.Goals as goal

pub returns : goal.returns
returns c = tops_law
