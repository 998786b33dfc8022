use Rattle.ext_update.proofs.LawsLemmas.{manifests_are_kept}
use Rattle.ext_update.proofs.laws.other_manifests_are_kept.Goals as goal

pub returns : goal.returns
returns c = manifests_are_kept
