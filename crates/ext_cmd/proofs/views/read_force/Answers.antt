use Rattle.std.proofs.Common.{refl}
use Rattle.std.proofs.lemmas.Result.{err_from_is_err_and}
use Rattle.ext_cmd.specs.Grammar.{HasNoMore, IsForce}
use Rattle.ext_cmd.proofs.FaultLemmas.{maybe_after}
use Rattle.ext_cmd.proofs.views.read_force.Goals as goal

pub returns-in_err-no_more-in-Some : goal.returns-in_err-no_more-in-Some
returns-in_err-no_more-in-Some c =
    let p = err_from_is_err_and c.from_residual.result c.from_residual.ensures.1 in
    rw (p.1, p.2) (maybe_after IsForce HasNoMore c.in-Some.word.now c.in-Some.more c.args.words.now 3 4 _ refl (c.is_force.ensures.0 c.if-not-is_force.false) c.in-Some.ensures c.in_err-no_more-in-Some.ensures)
