use Rattle.std.proofs.Common.{arith}
use Rattle.std.proofs.lemmas.Result.{err_from_is_err_and}
use Rattle.ext_mount.proofs.PrintedLemmas.{fails_at, prints_piece}
use Rattle.ext_mount.proofs.to_sink.print_all.Goals as goal

pub returns-in_err-make_room-clause-err : goal.returns-in_err-make_room-clause-err
returns-in_err-make_room-clause-err g c =
    let p = err_from_is_err_and c.from_residual.result c.from_residual.ensures.1 in
    let state = g.K.Sink.state in
    rw p.1 (fails_at (state c.args.sink.now) (state c.pieces.sink) (state c.make_room.new.sink) c.args.buffer.now c.pieces.buffer c.args.bytes.now c.pieces.at c.pieces.invariant c.in_err-make_room.ensures.err)

pub pieces-preserved : goal.pieces-preserved
pieces-preserved g c =
    let state = g.K.Sink.state in
    prints_piece (state c.args.sink.now) (state c.pieces.sink) (state c.make_room.new.sink) c.args.buffer.now c.pieces.buffer c.make_room.new.buffer c.fill-at.new.self c.args.bytes.now c.pieces.at c.fill-at.result
    c.pieces.invariant c.in_ok-make_room.ensures.ok (omega (arith, c.fill-at.ensures.count)) c.fill-at.ensures.taken
