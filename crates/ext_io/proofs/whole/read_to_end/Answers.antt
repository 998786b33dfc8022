use Rattle.std.proofs.Common.{arith, length-take}
use Rattle.std.proofs.lemmas.Result.{err_from_is_err_and}
use Rattle.ext_io.proofs.WholeLemmas.{stops_on}
use Rattle.ext_io.proofs.whole.read_to_end.Goals as goal

pub returns-in_err-count-clause-err : goal.returns-in_err-count-clause-err
returns-in_err-count-clause-err g c =
    let p = err_from_is_err_and c.from_residual-in_err-count.result c.from_residual-in_err-count.ensures.1 in
    rw (p.1, p.2)
    (stops_on _ _ _ _ _ _ _ c.pieces.invariant.0 (omega arith) (omega (arith, length-take c.min-room.result c.deref_mut.result.now)) c.in_err-count.ensures.err)
