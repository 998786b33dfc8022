use Rattle.std.proofs.Common.{◌∷◌, ◌++◌, ◌∙◌, ap, arith}
use Rattle.std.specs.Prelude.{codes, decimal}
use Rattle.ext_sample.specs.Sample.{image_name, release_path}
use Rattle.ext_sample.proofs.NamesLemmas.{release_is, release_written, is_path_of, path_is}
use Rattle.ext_sample.proofs.paths.release_path.Goals as goal

pub path_of-requires : goal.path_of-requires
path_of-requires c =
    is_path_of (image_name c.args.image ∷ release_path (image_name c.args.image)) c.as_slice.result.now (release_is c.args.image (omega (arith, c.ranges.image.fits)))
    (c.as_slice.ensures.value ∙ c.in_ok-append_decimal.ensures.ok ∙ ap (λ t. t ++ decimal c.args.image) (c.in_ok-extend_from_slice.ensures.items ∙ ap (λ t. t ++ codes "/usr/lib/extension-release.d/extension-release.s-") c.in_ok-text.ensures) ∙ release_written c.args.image)

pub returns : goal.returns
returns c =
    path_is (image_name c.args.image ∷ release_path (image_name c.args.image)) c.as_slice.result.now c.path_of.result (release_is c.args.image (omega (arith, c.ranges.image.fits)))
    (c.as_slice.ensures.value ∙ c.in_ok-append_decimal.ensures.ok ∙ ap (λ t. t ++ decimal c.args.image) (c.in_ok-extend_from_slice.ensures.items ∙ ap (λ t. t ++ codes "/usr/lib/extension-release.d/extension-release.s-") c.in_ok-text.ensures) ∙ release_written c.args.image) c.path_of.ensures
