use Rattle.std.proofs.Common.{◌+◌, ◌-◌, ◌≤◌, take, arith, length-take}
use Rattle.sha2.specs.Hashers.{Holds256}
use Rattle.ext_store_files.proofs.CopyingLemmas.{feeds_more, feeds_end, appending_keeps, not_last, last_past}
use Rattle.ext_store_files.proofs.copying.feed.Goals as goal

pub returns-then-is_last-clause-fed : goal.returns-then-is_last-clause-fed
returns-then-is_last-clause-fed g c =
    let read = c.in_ok-count.ensures.ok in
    let most : c.pieces.at + c.in_ok-count.count ≤ c.args.size + 1 =
    omega (arith, read.0, length-take c.room_for-room.result c.pieces.buffer, c.room_for-room.ensures, c.pieces.invariant.within) in
    feeds_end c.args.from.now c.args.path.now (g.D.Disk.state c.args.disk.now) (g.D.Disk.state c.pieces.disk) (g.P.Depot.state c.args.depot.now) (g.P.Depot.state c.pieces.depot)
    (Holds256 c.pieces.hasher) (Holds256 c.hash_piece.new.hasher) c.args.size c.pieces.at c.in_ok-count.count (take c.in_ok-count.count c.hash_piece.new.buffer) c.stamp.result
    c.pieces.invariant read.1 most (last_past c.args.size c.pieces.at c.in_ok-count.count c.pieces.invariant.within (c.is_last.ensures.0 c.if-is_last.true)) read.2 read.3 c.stamp.ensures

pub returns-in_err-append_copied-clause-keeps : goal.returns-in_err-append_copied-clause-keeps
returns-in_err-append_copied-clause-keeps g c =
    let read = c.in_ok-count.ensures.ok in
    let left : c.in_ok-count.count ≤ c.args.size - c.pieces.at = not_last c.is_last.result _ _ c.is_last.ensures.1 c.if-is_last.false in
    appending_keeps _ c.args.path.now (g.D.Disk.state c.args.disk.now) (g.D.Disk.state c.pieces.disk) (g.D.Disk.state c.append_copied.new.disk) (g.P.Depot.state c.args.depot.now)
    (g.P.Depot.state c.pieces.depot) (g.P.Depot.state c.hash_piece.new.depot) (Holds256 c.pieces.hasher) c.args.size c.pieces.at c.in_ok-count.count (take c.in_ok-count.count c.hash_piece.new.buffer)
    c.pieces.invariant c.in_ok-count.ensures.kept read.1 (omega (arith, left, c.pieces.invariant.within)) c.in_err-append_copied.ensures.works c.in_err-append_copied.ensures.file

pub pieces-preserved : goal.pieces-preserved
pieces-preserved g c =
    let read = c.in_ok-count.ensures.ok in
    let left : c.in_ok-count.count ≤ c.args.size - c.pieces.at = not_last c.is_last.result _ _ c.is_last.ensures.1 c.if-is_last.false in
    feeds_more c.args.from.now c.args.path.now (g.D.Disk.state c.args.disk.now) (g.D.Disk.state c.pieces.disk) (g.D.Disk.state c.append_copied.new.disk) (g.P.Depot.state c.args.depot.now)
    (g.P.Depot.state c.pieces.depot) (g.P.Depot.state c.hash_piece.new.depot) (Holds256 c.pieces.hasher) (Holds256 c.hash_piece.new.hasher) c.args.size c.pieces.at c.in_ok-count.count
    (take c.in_ok-count.count c.hash_piece.new.buffer) c.pieces.invariant c.in_ok-count.ensures.kept read.1 (omega (arith, left, c.pieces.invariant.within)) read.2 read.3
    c.in_ok-append_copied.ensures.works c.in_ok-append_copied.ensures.more c.in_ok-append_copied.ensures.raises
