use Rattle.ext_release.proofs.LawsLemmas.{one_release}
use Rattle.ext_release.proofs.laws.a_file_has_one_release.Goals as goal

pub returns : goal.returns
returns c = one_release
