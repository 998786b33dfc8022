use Rattle.ext_updated.proofs.ManifestLemmas.{one_manifest}
use Rattle.ext_updated.proofs.laws.a_path_has_one_manifest.Goals as goal

pub returns : goal.returns
returns c = one_manifest
