use Rattle.ext_top.proofs.UndoingLemmas.{detaching_undoes}
use Rattle.ext_top.proofs.laws.detaching_undoes_attaching.Goals as goal

pub returns : goal.returns
returns c = detaching_undoes
