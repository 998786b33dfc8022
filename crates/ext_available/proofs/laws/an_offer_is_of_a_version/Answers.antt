use Rattle.ext_available.proofs.LawsLemmas.{offer_is_version}
use Rattle.ext_available.proofs.laws.an_offer_is_of_a_version.Goals as goal

pub returns : goal.returns
returns c = offer_is_version
