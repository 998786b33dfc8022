use Rattle.ext_changes.proofs.LawsLemmas.{each_differs}
use Rattle.ext_changes.proofs.laws.each_differs.Goals as goal

pub returns : goal.returns
returns g c = each_differs
