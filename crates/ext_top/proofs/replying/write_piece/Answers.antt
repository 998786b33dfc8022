use Rattle.std.proofs.lemmas.Result.{err_from_is_err_and}
use Rattle.ext_store_files.specs.HeldFiles.{body_told}
use Rattle.ext_top.proofs.PieceLemmas.{piece_cut}
use Rattle.ext_top.proofs.replying.write_piece.Goals as goal

pub returns-in_err-write_bytes-clause-writes : goal.returns-in_err-write_bytes-clause-writes
returns-in_err-write_bytes-clause-writes g c =
    let p = err_from_is_err_and c.from_residual-in_err-write_bytes.result c.from_residual-in_err-write_bytes.ensures.1 in
    rw (p.1, p.2)
    (piece_cut (Unit {0}) (body_told (g.D.Disk.state c.args.disk.now) c.args.held.now.body) c.args.held.now.stamp.size c.args.at _ (g.K.Sink.state c.args.sink.now) (g.K.Sink.state c.write_bytes.new.sink) _
    c.in_ok-count.ensures.next c.in_err-write_bytes.ensures.writes)
