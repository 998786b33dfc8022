use Rattle.std.proofs.Common.{◌+◌, ◌≤◌, take, arith, length-take, rules}
use Rattle.std.proofs.lemmas.Grind.{common_steps}
use Rattle.sha2.specs.Hashers.{Holds256}
use Rattle.ext_disk.proofs.ForCallers.{rests_itself}
use Rattle.ext_store_files.proofs.HashingLemmas.{hashed_whole}
use Rattle.ext_store_files.proofs.ComparingLemmas.{both_nothing, both_more, bytes_told}
use Rattle.ext_store_files.proofs.BesideLemmas.{followed_there}
use Rattle.ext_store_files.proofs.comparing.read_both.Goals as goal

pub pieces-init : goal.pieces-init
pieces-init g c = (
  both_nothing c.args.path.now c.args.from.now (g.D.Disk.state c.args.disk.now) (g.P.Depot.state c.args.depot.now) (g.P.Depot.state c.begin-brought.new.depot) c.args.listed.now (Holds256 c.new-hasher.result)
      c.begin-brought.result (rests_itself (g.D.Disk.state c.args.disk.now)) (search rules) (c.begin-brought.ensures.followed c.args.listed.now) c.begin-brought.ensures.kept,
  search rules,
  search rules,
)

pub pieces-preserved : goal.pieces-preserved
pieces-preserved g c =
    let n = c.in_ok-count.count in
    let read = c.in_ok-count.ensures.ok in
    let fits : n + c.pieces.at ≤ c.args.listed.now.size =
    omega (arith, read.0, length-take c.min-room.result c.deref_mut.result.now, c.min-room.ensures, c.pieces.invariant.0.ours.within) in (
      both_more c.args.path.now c.args.from.now (g.D.Disk.state c.args.disk.now) (g.D.Disk.state c.pieces.disk) (g.D.Disk.state c.hash_piece.new.disk)
          (g.P.Depot.state c.args.depot.now) (g.P.Depot.state c.pieces.depot) (g.P.Depot.state c.follow-brought.new.depot) c.args.listed.now (Holds256 c.pieces.hasher) (Holds256 c.hash_piece.new.hasher)
          c.pieces.brought c.follow-brought.result c.pieces.at (take n c.hash_piece.new.buffer) n c.pieces.invariant.0 c.in_ok-count.ensures.rests read.1 fits read.2 read.3
          c.follow-brought.ensures.followed c.follow-brought.ensures.kept,
      grind (arith, common_steps),
      grind (arith, common_steps),
    )

pub follow-brought-requires-clause-there : goal.follow-brought-requires-clause-there
follow-brought-requires-clause-there g c =
    followed_there (g.P.Depot.state c.args.depot.now) (g.P.Depot.state c.pieces.depot) c.args.from.now c.args.listed.now c.pieces.invariant.0.ours.bytes c.pieces.brought
    c.pieces.invariant.0.kept c.pieces.invariant.0.theirs

pub returns-clause-digest : goal.returns-clause-digest
returns-clause-digest g c =
    let ours = c.pieces.invariant.0.ours in
    hashed_whole (g.D.Disk.state c.args.disk.now).told c.args.path.now c.args.listed.now.size ours.bytes _ c.requires.file ours.begins
    (omega (arith, ours.long, ours.within)) (c.finalize.ensures ours.bytes ours.fed)

pub returns-clause-brought : goal.returns-clause-brought
returns-clause-brought g c = λ some. (
  c.pieces.invariant.0.ours.bytes,
  bytes_told (g.D.Disk.state c.args.disk.now).told c.args.path.now c.args.listed.now.size c.pieces.invariant.0.ours.bytes c.requires.file c.pieces.invariant.0.ours.begins
      (omega (arith, c.pieces.invariant.0.ours.long, c.pieces.invariant.0.ours.within)),
  omega (arith, c.pieces.invariant.0.ours.long, c.pieces.invariant.0.ours.within),
  c.pieces.invariant.0.theirs,
)
