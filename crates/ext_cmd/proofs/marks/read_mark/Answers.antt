use Rattle.std.proofs.Common.{refl}
use Rattle.std.proofs.lemmas.Result.{err_from_is_err_and}
use Rattle.ext_cmd.specs.Grammar.{HasNoMore, IsKeepWord}
use Rattle.ext_cmd.proofs.FaultLemmas.{maybe_after}
use Rattle.ext_cmd.proofs.marks.read_mark.Goals as goal

pub returns-in_err-no_more-in-Some : goal.returns-in_err-no_more-in-Some
returns-in_err-no_more-in-Some c =
    let p = err_from_is_err_and c.from_residual-in_err-no_more-in-Some.result c.from_residual-in_err-no_more-in-Some.ensures.1 in
    let keep = c.in_ok-keep-in-Some.ensures in
    rw (p.1, p.2) (maybe_after IsKeepWord HasNoMore c.in-Some.word.now c.in-Some.more c.args.more.now 2 3 _ refl (record { value = c.in_ok-keep-in-Some.keep; is = keep.0; same = keep.1 }) c.in-Some.ensures c.in_err-no_more-in-Some.ensures)
