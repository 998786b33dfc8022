use Rattle.ext_attached.proofs.LawsLemmas.{planned_law}
use Rattle.ext_attached.proofs.laws.a_detached_host_is_planned.Goals as goal

pub returns : goal.returns
returns c = planned_law
