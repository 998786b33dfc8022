use Rattle.ext_pattern.proofs.FaultLemmas.{fault_is_first}
use Rattle.ext_pattern.proofs.laws.a_fault_is_the_first.Goals as goal

pub returns : goal.returns
returns c = fault_is_first
