use Rattle.std.proofs.Common.{Ok, Err, arith}
use Rattle.std.proofs.lemmas.Result.{err_from_is_err_and}
use Rattle.ext_store_files.specs.HeldFiles.{body_told}
use Rattle.ext_top.proofs.PieceLemmas.{cause_from, piece_since, rests_then, stood_before}
use Rattle.ext_top.proofs.PiecesLemmas.{first_stopped, first_then, many_then}
use Rattle.ext_top.proofs.replying.write_pieces.Goals as goal

pub pieces-preserved : goal.pieces-preserved
pieces-preserved g c =
    let first = g.D.Disk.state c.args.disk.now in
    let here = g.D.Disk.state c.pieces.disk in
    let held = c.args.held.now in
    let k = g.K.Sink.state c.pieces.sink in
    let l = g.K.Sink.state c.write_piece.new.sink in
    let i = c.pieces.invariant in (
      rests_then first here _ i.0 c.in_ok-at.ensures.rests,
      omega (arith, i.1, c.in_ok-at.ensures.count),
      c.in_ok-at.ensures.within.1,
      i.3,
      first_then (body_told first held.body) held.stamp.size c.pieces.at c.in_ok-at.field-0 (g.K.Sink.state c.args.sink.now) k l i.4
          (piece_since first here held.body held.stamp.size c.pieces.at k l (Ok c.in_ok-at.field-0) i.0 c.in_ok-at.ensures.writes),
      many_then c.pieces.at c.in_ok-at.field-0 (g.K.Sink.state c.args.sink.now) k l i.5 c.in_ok-at.ensures.many,
      stood_before first here held.body _ i.0 c.in_ok-at.ensures.stands,
    )

pub returns-in_err-at-clause-writes : goal.returns-in_err-at-clause-writes
returns-in_err-at-clause-writes g c =
    let p = err_from_is_err_and c.from_residual.result c.from_residual.ensures.1 in
    let first = g.D.Disk.state c.args.disk.now in
    let here = g.D.Disk.state c.pieces.disk in
    let held = c.args.held.now in
    let k = g.K.Sink.state c.pieces.sink in
    let l = g.K.Sink.state c.write_piece.new.sink in
    let i = c.pieces.invariant in
    rw (p.1, p.2)
    (first_stopped (Unit {0}) (body_told first held.body) held.stamp.size c.pieces.at (g.K.Sink.state c.args.sink.now) k l c.in_err-at.field-0.0 i.4
    (piece_since first here held.body held.stamp.size c.pieces.at k l (Err c.in_err-at.field-0.0) i.0 c.in_err-at.ensures.writes))

pub returns-in_err-at-clause-cause : goal.returns-in_err-at-clause-cause
returns-in_err-at-clause-cause g c =
    let p = err_from_is_err_and c.from_residual.result c.from_residual.ensures.1 in
    let i = c.pieces.invariant in
    rw (p.1, p.2)
    (cause_from c.args.held.now (g.K.Sink.state c.args.sink.now) (g.K.Sink.state c.pieces.sink) (g.K.Sink.state c.write_piece.new.sink)
    (g.D.Disk.state c.args.disk.now) (g.D.Disk.state c.pieces.disk) (g.D.Disk.state c.write_piece.new.disk) c.in_err-at.field-0.0 i.1 i.0 c.in_err-at.ensures.cause)
