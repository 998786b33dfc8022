use Rattle.ext_publish.proofs.LawsLemmas.{unhindered_is_done}
use Rattle.ext_publish.proofs.laws.an_unhindered_run_is_done.Goals as goal

pub returns : goal.returns
returns c = unhindered_is_done
