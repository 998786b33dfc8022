use Rattle.std.proofs.Common.{◌≡◌}
use Rattle.ext_sample.specs.Sample.{sample_images}
use Rattle.ext_sample.proofs.files.sample_images.Given as goal

abbrev pub invariant-images : goal.invariant-images
invariant-images l = l.files.items ≡ sample_images l.image
