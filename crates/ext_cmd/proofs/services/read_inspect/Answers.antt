use Rattle.std.proofs.Common.{refl}
use Rattle.std.proofs.lemmas.Result.{err_from_is_err_and}
use Rattle.ext_cmd.specs.Grammar.{Each, IsImageWord, IsPlainWord}
use Rattle.ext_cmd.proofs.FaultLemmas.{then_after, then_missing, then_wrong}
use Rattle.ext_cmd.proofs.PortLemmas.{some_image}
use Rattle.ext_cmd.proofs.services.read_inspect.Goals as goal

pub returns-in-None : goal.returns-in-None
returns-in-None c = then_missing IsImageWord (Each IsPlainWord) c.args.more.now 3 some_image c.in-None.ensures

pub returns-in_err-image-in-Some : goal.returns-in_err-image-in-Some
returns-in_err-image-in-Some c =
    let p = err_from_is_err_and c.from_residual.result c.from_residual.ensures.1 in
    rw (p.1, p.2) (then_wrong IsImageWord (Each IsPlainWord) c.in-Some.word.now c.in-Some.more c.args.more.now 3 _ some_image c.in-Some.ensures c.in_err-image-in-Some.ensures)

pub returns-in_err-prefixes-in-Some : goal.returns-in_err-prefixes-in-Some
returns-in_err-prefixes-in-Some c =
    let p = err_from_is_err_and c.from_residual-in_err-prefixes-in-Some.result c.from_residual-in_err-prefixes-in-Some.ensures.1 in
    let image = c.in_ok-image-in-Some.ensures in
    rw (p.1, p.2) (then_after IsImageWord (Each IsPlainWord) c.in-Some.word.now c.in-Some.more c.args.more.now 3 4 _ refl (record { value = c.in_ok-image-in-Some.image; is = image.0; same = image.1 }) c.in-Some.ensures c.in_err-prefixes-in-Some.ensures)
