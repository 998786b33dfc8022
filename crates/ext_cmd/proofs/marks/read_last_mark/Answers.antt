use Rattle.std.proofs.Common.{refl}
use Rattle.std.proofs.lemmas.Result.{err_from_is_err_and}
use Rattle.ext_cmd.specs.Grammar.{HasNoMore, IsMarkWord}
use Rattle.ext_cmd.proofs.FaultLemmas.{then_missing, then_wrong, then_after}
use Rattle.ext_cmd.proofs.WordLemmas.{some_mark}
use Rattle.ext_cmd.proofs.marks.read_last_mark.Goals as goal

pub returns-in-None : goal.returns-in-None
returns-in-None c = then_missing IsMarkWord HasNoMore c.args.words.now c.args.first some_mark c.in-None.ensures

pub returns-in_err-mark-in-Some : goal.returns-in_err-mark-in-Some
returns-in_err-mark-in-Some c =
    let p = err_from_is_err_and c.from_residual.result c.from_residual.ensures.1 in
    rw (p.1, p.2) (then_wrong IsMarkWord HasNoMore c.in-Some.word.now c.in-Some.more c.args.words.now c.args.first _ some_mark c.in-Some.ensures c.in_err-mark-in-Some.ensures)

pub returns-in_err-no_more-in-Some : goal.returns-in_err-no_more-in-Some
returns-in_err-no_more-in-Some c =
    let p = err_from_is_err_and c.from_residual-in_err-no_more-in-Some.result c.from_residual-in_err-no_more-in-Some.ensures.1 in
    let mark = c.in_ok-mark-in-Some.ensures in
    rw (p.1, p.2) (then_after IsMarkWord HasNoMore c.in-Some.word.now c.in-Some.more c.args.words.now c.args.first _ _ refl (record { value = c.in_ok-mark-in-Some.mark; is = mark.0; same = mark.1 }) c.in-Some.ensures c.in_err-no_more-in-Some.ensures)
