use Rattle.ext_choice.proofs.LawsLemmas.{one_choice}
use Rattle.ext_choice.proofs.laws.there_is_one_choice.Goals as goal

pub returns : goal.returns
returns c = one_choice
