use Rattle.std.proofs.Common.{◌∙◌, arith}
use Rattle.ext_sample.specs.Sample.{shared_path}
use Rattle.ext_sample.proofs.NamesLemmas.{is_path_of, path_is, shared_is}
use Rattle.ext_sample.proofs.paths.shared_path.Goals as goal

pub path_of-requires : goal.path_of-requires
path_of-requires c = is_path_of (shared_path c.args.number) c.as_slice.result.now (shared_is c.args.number (omega (arith, c.ranges.number.fits))) (c.as_slice.ensures.value ∙ c.in_ok-text.ensures)

pub returns : goal.returns
returns c = path_is (shared_path c.args.number) c.as_slice.result.now c.path_of.result (shared_is c.args.number (omega (arith, c.ranges.number.fits))) (c.as_slice.ensures.value ∙ c.in_ok-text.ensures) c.path_of.ensures
