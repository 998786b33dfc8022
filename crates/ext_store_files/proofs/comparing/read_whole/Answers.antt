use Rattle.std.proofs.Common.{◌+◌, ◌≤◌, length, take, arith, length-take, rules}
use Rattle.std.proofs.lemmas.Grind.{common_steps}
use Rattle.sha2.specs.Hashers.{Holds256}
use Rattle.ext_disk.proofs.ForCallers.{rests_itself}
use Rattle.ext_store_files.proofs.HashingLemmas.{hashed_whole}
use Rattle.ext_store_files.proofs.ComparingLemmas.{bytes_told, text_same, with_more, with_nothing}
use Rattle.ext_store_files.proofs.comparing.read_whole.Goals as goal

pub pieces-init : goal.pieces-init
pieces-init g c = (
  with_nothing c.args.path.now (g.D.Disk.state c.args.disk.now) c.args.text.now (Holds256 c.new-hasher.result) (rests_itself (g.D.Disk.state c.args.disk.now)) (search rules),
  search rules,
)

pub pieces-preserved : goal.pieces-preserved
pieces-preserved g c =
    let n = c.in_ok-count.count in
    let read = c.in_ok-count.ensures.ok in
    let fits : n + c.pieces.at ≤ length c.args.text.now =
    omega (arith, read.0, length-take c.min-room.result c.deref_mut.result.now, c.min-room.ensures, c.pieces.invariant.0.ours.within) in (
      with_more c.args.path.now (g.D.Disk.state c.args.disk.now) (g.D.Disk.state c.pieces.disk) (g.D.Disk.state c.hash_piece.new.disk) c.args.text.now (Holds256 c.pieces.hasher) (Holds256 c.hash_piece.new.hasher)
          c.pieces.same c.is_still_same-same.result c.pieces.at (take n c.hash_piece.new.buffer) n c.pieces.invariant.0 c.in_ok-count.ensures.rests read.1 fits read.2 read.3 c.is_still_same-same.ensures,
      grind (arith, common_steps),
    )

pub returns-clause-pass : goal.returns-clause-pass
returns-clause-pass g c =
    let ours = c.pieces.invariant.0.ours in (
      hashed_whole (g.D.Disk.state c.args.disk.now).told c.args.path.now (length c.args.text.now) ours.bytes _ c.requires ours.begins
          (omega (arith, ours.long, ours.within)) (c.finalize.ensures ours.bytes ours.fed),
      λ some. text_same _ ours.bytes c.args.text.now c.pieces.same c.pieces.at
          (bytes_told (g.D.Disk.state c.args.disk.now).told c.args.path.now (length c.args.text.now) ours.bytes c.requires ours.begins (omega (arith, ours.long, ours.within)))
          (omega (arith, c.pieces-test.false)) c.pieces.invariant.0.equal,
    )
