use Rattle.std.proofs.Common.{◌∷◌, ◌++◌, ◌∙◌, ap, arith}
use Rattle.std.specs.Prelude.{codes, decimal}
use Rattle.ext_sample.specs.Sample.{image_name, shared_path}
use Rattle.ext_sample.proofs.NamesLemmas.{image_is, image_written, is_path_of, path_is}
use Rattle.ext_sample.proofs.paths.image_path.Goals as goal

pub path_of-requires : goal.path_of-requires
path_of-requires c =
    is_path_of (image_name c.args.image ∷ shared_path c.args.number) c.as_slice.result.now (image_is c.args.image c.args.number (omega (arith, c.ranges.image.fits)) (omega (arith, c.ranges.number.fits)))
    (c.as_slice.ensures.value ∙ c.in_ok-append_decimal.ensures.ok ∙ ap (λ t. t ++ decimal c.args.number) (c.in_ok-extend_from_slice.ensures.items ∙ ap (λ t. t ++ codes "/usr/share/h/") c.in_ok-text.ensures) ∙ image_written c.args.image c.args.number)

pub returns : goal.returns
returns c =
    path_is (image_name c.args.image ∷ shared_path c.args.number) c.as_slice.result.now c.path_of.result (image_is c.args.image c.args.number (omega (arith, c.ranges.image.fits)) (omega (arith, c.ranges.number.fits)))
    (c.as_slice.ensures.value ∙ c.in_ok-append_decimal.ensures.ok ∙ ap (λ t. t ++ decimal c.args.number) (c.in_ok-extend_from_slice.ensures.items ∙ ap (λ t. t ++ codes "/usr/share/h/") c.in_ok-text.ensures) ∙ image_written c.args.image c.args.number) c.path_of.ensures
