use Rattle.ext_added.proofs.NameLemmas.{etc_units, run_units}
use Rattle.ext_added.proofs.destination.destination.Goals as goal

pub path_of-requires : goal.path_of-requires
path_of-requires c = run_units

pub path_of-requires-else-runtime : goal.path_of-requires-else-runtime
path_of-requires-else-runtime c = etc_units
