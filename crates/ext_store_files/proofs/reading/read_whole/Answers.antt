use Rattle.std.proofs.Common.{arith}
use Rattle.ext_store_files.proofs.ReadingLemmas.{read_too_long}
use Rattle.ext_store_files.proofs.reading.read_whole.Goals as goal

pub returns-clause-found : goal.returns-clause-found
returns-clause-found g c =
    read_too_long (g.D.Disk.state c.args.disk.now).told c.args.path.now c.args.most c.pieces.bytes.items
    c.requires c.pieces.invariant.0.begins (omega arith)
