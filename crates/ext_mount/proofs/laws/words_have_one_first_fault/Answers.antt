use Rattle.ext_mount.proofs.LawsLemmas.{one_wrong_place}
use Rattle.ext_mount.proofs.laws.words_have_one_first_fault.Goals as goal

pub returns : goal.returns
returns c = one_wrong_place
