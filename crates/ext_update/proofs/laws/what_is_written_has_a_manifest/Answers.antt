use Rattle.ext_update.proofs.LawsLemmas.{resources_stand}
use Rattle.ext_update.proofs.laws.what_is_written_has_a_manifest.Goals as goal

pub returns : goal.returns
returns c = resources_stand
