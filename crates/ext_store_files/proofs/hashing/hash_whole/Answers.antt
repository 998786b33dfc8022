use Rattle.std.proofs.Common.{◌+◌, ◌≤◌, take, arith, length-take}
use Rattle.std.proofs.lemmas.Grind.{common_steps}
use Rattle.sha2.specs.Hashers.{Holds256}
use Rattle.ext_store_files.proofs.HashingLemmas.{hashed_more, hashed_whole}
use Rattle.ext_store_files.proofs.hashing.hash_whole.Goals as goal

pub pieces-preserved : goal.pieces-preserved
pieces-preserved g c =
    let read = c.in_ok-count.ensures.ok in
    let fits : c.in_ok-count.count + c.pieces.at ≤ c.args.size =
    omega (arith, read.0, length-take c.min-room.result c.deref_mut.result.now, c.min-room.ensures, c.pieces.invariant.0.within) in (
      hashed_more (g.D.Disk.state c.args.disk.now) (g.D.Disk.state c.pieces.disk) (g.D.Disk.state c.hash_piece.new.disk) c.args.path.now c.args.size
          (Holds256 c.pieces.hasher) (Holds256 c.hash_piece.new.hasher) c.pieces.at (take c.in_ok-count.count c.hash_piece.new.buffer) c.in_ok-count.count c.pieces.invariant.0 c.in_ok-count.ensures.rests read.1 fits read.2 read.3,
      grind (arith, common_steps),
    )

pub returns-clause-digest : goal.returns-clause-digest
returns-clause-digest g c =
    hashed_whole (g.D.Disk.state c.args.disk.now).told c.args.path.now c.args.size c.pieces.invariant.0.bytes _ c.requires c.pieces.invariant.0.begins
    (omega (arith, c.pieces.invariant.0.long, c.pieces.invariant.0.within)) (c.finalize.ensures c.pieces.invariant.0.bytes c.pieces.invariant.0.fed)
