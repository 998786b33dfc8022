use Rattle.std.proofs.Common.{refl}
use Rattle.std.proofs.lemmas.Result.{err_from_is_err_and}
use Rattle.ext_cmd.specs.Grammar.{HasNoMore, IsPlainWord}
use Rattle.ext_cmd.proofs.FaultLemmas.{then_after, then_missing, then_wrong}
use Rattle.ext_cmd.proofs.PortLemmas.{some_plain}
use Rattle.ext_cmd.proofs.services.read_last_name.Goals as goal

pub returns-in-None : goal.returns-in-None
returns-in-None c = then_missing IsPlainWord HasNoMore c.args.words.now 3 some_plain c.in-None.ensures

pub returns-in_err-name-in-Some : goal.returns-in_err-name-in-Some
returns-in_err-name-in-Some c =
    let p = err_from_is_err_and c.from_residual.result c.from_residual.ensures.1 in
    rw (p.1, p.2) (then_wrong IsPlainWord HasNoMore c.in-Some.word.now c.in-Some.more c.args.words.now 3 _ some_plain c.in-Some.ensures c.in_err-name-in-Some.ensures)

pub returns-in_err-no_more-in-Some : goal.returns-in_err-no_more-in-Some
returns-in_err-no_more-in-Some c =
    let p = err_from_is_err_and c.from_residual-in_err-no_more-in-Some.result c.from_residual-in_err-no_more-in-Some.ensures.1 in
    let name = c.in_ok-name-in-Some.ensures in
    rw (p.1, p.2) (then_after IsPlainWord HasNoMore c.in-Some.word.now c.in-Some.more c.args.words.now 3 4 _ refl (record { value = c.in_ok-name-in-Some.name; is = name.0; same = name.1 }) c.in-Some.ensures c.in_err-no_more-in-Some.ensures)
