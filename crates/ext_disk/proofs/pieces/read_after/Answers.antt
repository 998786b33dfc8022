use Rattle.ext_disk.proofs.PiecesLemmas.{read_after}
use Rattle.ext_disk.proofs.pieces.read_after.Goals as goal

pub returns-clause-read : goal.returns-clause-read
returns-clause-read c =
    read_after c.args.buf.now c.read_at.new.buf _ c.args.bytes.now c.args.count c.read_at.result c.args.from c.requires c.read_at.ensures.within c.read_at.ensures.read.moved
