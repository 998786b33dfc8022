use Rattle.ext_published.proofs.ForCallers.{coming_manifest_is_name}
use Rattle.ext_publish.proofs.carrying.left_names.Goals as goal

pub of_bytes-requires : goal.of_bytes-requires
of_bytes-requires c = coming_manifest_is_name
