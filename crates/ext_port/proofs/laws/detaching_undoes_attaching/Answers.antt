use Rattle.ext_port.proofs.LawsLemmas.{undo_law}
use Rattle.ext_port.proofs.laws.detaching_undoes_attaching.Goals as goal

pub returns : goal.returns
returns c = undo_law
