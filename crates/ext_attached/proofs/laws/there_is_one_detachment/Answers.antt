use Rattle.ext_attached.proofs.OneDetachLemmas.{one_detach}
use Rattle.ext_attached.proofs.laws.there_is_one_detachment.Goals as goal

pub returns : goal.returns
returns c = one_detach
