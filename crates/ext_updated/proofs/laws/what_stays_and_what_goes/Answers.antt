use Rattle.ext_updated.proofs.LawsLemmas.{removed_goes, staying_stays}
use Rattle.ext_updated.proofs.laws.what_stays_and_what_goes.Goals as goal

pub returns-clause-stays : goal.returns-clause-stays
returns-clause-stays g c = staying_stays

pub returns-clause-goes : goal.returns-clause-goes
returns-clause-goes g c = removed_goes
