use Rattle.ext_sample.proofs.NamesLemmas.{os_release_is}
use Rattle.ext_sample.proofs.paths.os_release_path.Goals as goal

pub path_of-requires : goal.path_of-requires
path_of-requires c = os_release_is
