use Rattle.ext_top.proofs.AloneLemmas.{compare_is_done}
use Rattle.ext_top.proofs.laws.compare_is_done.Goals as goal

pub returns : goal.returns
returns c = compare_is_done
