use Rattle.ext_installed.proofs.LawsLemmas.{one_found}
use Rattle.ext_installed.proofs.laws.one_installed.Goals as goal

pub returns : goal.returns
returns g c = one_found
