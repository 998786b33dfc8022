use Rattle.std.proofs.Common.{refl}
use Rattle.std.proofs.lemmas.Result.{err_from_is_err_and}
use Rattle.ext_cmd.specs.Grammar.{HasNoMore, IsImagesWord}
use Rattle.ext_cmd.proofs.FaultLemmas.{then_missing, then_wrong, then_after}
use Rattle.ext_cmd.proofs.WordLemmas.{some_images}
use Rattle.ext_cmd.proofs.readers.read_sample.Goals as goal

pub returns-in-None : goal.returns-in-None
returns-in-None c = then_missing IsImagesWord HasNoMore c.args.more.now 2 some_images c.in-None.ensures

pub returns-in_err-images-in-Some : goal.returns-in_err-images-in-Some
returns-in_err-images-in-Some c =
    let p = err_from_is_err_and c.from_residual.result c.from_residual.ensures.1 in
    rw (p.1, p.2) (then_wrong IsImagesWord HasNoMore c.in-Some.word.now c.in-Some.more c.args.more.now 2 _ some_images c.in-Some.ensures c.in_err-images-in-Some.ensures)

pub returns-in_err-no_more-in-Some : goal.returns-in_err-no_more-in-Some
returns-in_err-no_more-in-Some c =
    let p = err_from_is_err_and c.from_residual-in_err-no_more-in-Some.result c.from_residual-in_err-no_more-in-Some.ensures.1 in
    let images = c.in_ok-images-in-Some.ensures in
    rw (p.1, p.2) (then_after IsImagesWord HasNoMore c.in-Some.word.now c.in-Some.more c.args.more.now 2 3 _ refl (record { value = c.in_ok-images-in-Some.images; is = images.0; same = images.1 }) c.in-Some.ensures c.in_err-no_more-in-Some.ensures)
