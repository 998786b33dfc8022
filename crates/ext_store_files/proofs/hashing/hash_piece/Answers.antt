use Rattle.std.proofs.Common.{◌≡◌, take, length, arith, length-take}
use Rattle.ext_store_files.proofs.HashingLemmas.{told_piece}
use Rattle.ext_store_files.proofs.hashing.hash_piece.Goals as goal

pub returns-clause-ok : goal.returns-clause-ok
returns-clause-ok g c =
    let long : length (take c.in_ok-count.count c.read.new.buf) ≡ c.in_ok-count.count = omega (arith, length-take c.in_ok-count.count c.read.new.buf, c.in_ok-count.ensures.within) in (
      omega (arith, c.in_ok-count.ensures.within),
      long,
      c.update.ensures,
      told_piece (g.D.Disk.state c.args.disk.now).told c.args.path.now c.args.at c.read.new.buf c.in_ok-count.count long c.in_ok-count.ensures.moved,
    )
