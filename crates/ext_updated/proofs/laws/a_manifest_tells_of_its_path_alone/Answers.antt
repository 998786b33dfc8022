use Rattle.ext_updated.proofs.KeepingLemmas.{files_decide, manifests_of_pieces}
use Rattle.ext_updated.proofs.laws.a_manifest_tells_of_its_path_alone.Goals as goal

pub returns-clause-pieces : goal.returns-clause-pieces
returns-clause-pieces c = manifests_of_pieces

pub returns-clause-files : goal.returns-clause-files
returns-clause-files c = files_decide
