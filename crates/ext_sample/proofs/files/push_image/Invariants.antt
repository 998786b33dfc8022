use Rattle.std.proofs.Common.{◌≡◌, ◌++◌}
use Rattle.ext_sample.proofs.SampleLemmas.{image_so_far}
use Rattle.ext_sample.proofs.files.push_image.Given as goal

abbrev pub invariant-files : goal.invariant-files
invariant-files l = l.files.items ≡ l.fn.files.items ++ image_so_far l.fn.image l.index
