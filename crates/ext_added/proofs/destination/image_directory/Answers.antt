use Rattle.ext_added.proofs.NameLemmas.{etc_images, run_images}
use Rattle.ext_added.proofs.destination.image_directory.Goals as goal

pub path_of-requires : goal.path_of-requires
path_of-requires c = run_images

pub path_of-requires-else-runtime : goal.path_of-requires-else-runtime
path_of-requires-else-runtime c = etc_images
