use Rattle.ext_sums.proofs.LawsLemmas.{one_manifest}
use Rattle.ext_sums.proofs.laws.a_text_has_one_manifest.Goals as goal

pub returns : goal.returns
returns c = one_manifest
