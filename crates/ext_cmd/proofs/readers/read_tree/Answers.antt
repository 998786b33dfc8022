use Rattle.std.proofs.Common.{refl}
use Rattle.std.proofs.lemmas.Result.{err_from_is_err_and}
use Rattle.ext_cmd.specs.Grammar.{HasNoMore, IsPathWord}
use Rattle.ext_cmd.proofs.FaultLemmas.{maybe_wrong, maybe_after}
use Rattle.ext_cmd.proofs.readers.read_tree.Goals as goal

pub returns-in_err-path-in-Some : goal.returns-in_err-path-in-Some
returns-in_err-path-in-Some c =
    let p = err_from_is_err_and c.from_residual.result c.from_residual.ensures.1 in
    rw (p.1, p.2) (maybe_wrong IsPathWord HasNoMore c.in-Some.word.now c.in-Some.more c.args.more.now 2 _ c.in-Some.ensures c.in_err-path-in-Some.ensures)

pub returns-in_err-no_more-in-Some : goal.returns-in_err-no_more-in-Some
returns-in_err-no_more-in-Some c =
    let p = err_from_is_err_and c.from_residual-in_err-no_more-in-Some.result c.from_residual-in_err-no_more-in-Some.ensures.1 in
    let path = c.in_ok-path-in-Some.ensures in
    rw (p.1, p.2) (maybe_after IsPathWord HasNoMore c.in-Some.word.now c.in-Some.more c.args.more.now 2 3 _ refl (record { value = c.in_ok-path-in-Some.path; is = path.0; same = path.1 }) c.in-Some.ensures c.in_err-no_more-in-Some.ensures)
