use Rattle.ext_port.proofs.LawsLemmas.{again_law}
use Rattle.ext_port.proofs.laws.reattaching_is_detaching_and_attaching.Goals as goal

pub returns : goal.returns
returns c = again_law
