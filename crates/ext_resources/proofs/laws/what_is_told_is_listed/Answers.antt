use Rattle.ext_resources.proofs.LawsLemmas.{told_listed}
use Rattle.ext_resources.proofs.laws.what_is_told_is_listed.Goals as goal

pub returns : goal.returns
returns c = told_listed
