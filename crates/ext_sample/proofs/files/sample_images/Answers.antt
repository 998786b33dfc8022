use Rattle.std.proofs.Common.{◌++◌, ap, sym, ◌∙◌}
use Rattle.ext_sample.specs.Sample.{sample_image}
use Rattle.ext_sample.proofs.SampleLemmas.{images_more}
use Rattle.ext_sample.proofs.files.sample_images.Goals as goal

pub images-preserved : goal.images-preserved
images-preserved c = c.in_ok-push_image.ensures ∙ ap (λ fs. fs ++ sample_image c.images.image) c.images.invariant ∙ sym (images_more c.images.image)
