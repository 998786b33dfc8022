use Rattle.std.proofs.Common.{refl}
use Rattle.std.proofs.lemmas.Result.{err_from_is_err_and}
use Rattle.ext_cmd.specs.Grammar.{HasNoMore, IsMarkWord, IsSince, Then}
use Rattle.ext_cmd.proofs.FaultLemmas.{maybe_after}
use Rattle.ext_cmd.proofs.marks.read_history.Goals as goal

pub returns-in_err-mark-in-Some : goal.returns-in_err-mark-in-Some
returns-in_err-mark-in-Some c =
    let p = err_from_is_err_and c.from_residual.result c.from_residual.ensures.1 in
    rw (p.1, p.2) (maybe_after IsSince (Then IsMarkWord HasNoMore) c.in-Some.word.now c.in-Some.more c.args.more.now 2 3 _ refl (c.is_since.ensures.0 c.if-not-is_since.false) c.in-Some.ensures c.in_err-mark-in-Some.ensures)
