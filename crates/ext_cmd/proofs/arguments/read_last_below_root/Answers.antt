use Rattle.std.proofs.Common.{refl}
use Rattle.std.proofs.lemmas.Result.{err_from_is_err_and}
use Rattle.ext_cmd.specs.Grammar.{HasNoMore, IsBelowRootWord}
use Rattle.ext_cmd.proofs.FaultLemmas.{then_missing, then_wrong, then_after}
use Rattle.ext_cmd.proofs.WordLemmas.{some_below_root}
use Rattle.ext_cmd.proofs.arguments.read_last_below_root.Goals as goal

pub returns-in-None : goal.returns-in-None
returns-in-None c = then_missing IsBelowRootWord HasNoMore c.args.words.now c.args.first some_below_root c.in-None.ensures

pub returns-in_err-path-in-Some : goal.returns-in_err-path-in-Some
returns-in_err-path-in-Some c =
    let p = err_from_is_err_and c.from_residual.result c.from_residual.ensures.1 in
    rw (p.1, p.2) (then_wrong IsBelowRootWord HasNoMore c.in-Some.word.now c.in-Some.more c.args.words.now c.args.first _ some_below_root c.in-Some.ensures c.in_err-path-in-Some.ensures)

pub returns-in_err-no_more-in-Some : goal.returns-in_err-no_more-in-Some
returns-in_err-no_more-in-Some c =
    let p = err_from_is_err_and c.from_residual-in_err-no_more-in-Some.result c.from_residual-in_err-no_more-in-Some.ensures.1 in
    let path = c.in_ok-path-in-Some.ensures in
    rw (p.1, p.2) (then_after IsBelowRootWord HasNoMore c.in-Some.word.now c.in-Some.more c.args.words.now c.args.first _ _ refl (record { value = c.in_ok-path-in-Some.path; is = path.0; same = path.1 }) c.in-Some.ensures c.in_err-no_more-in-Some.ensures)
