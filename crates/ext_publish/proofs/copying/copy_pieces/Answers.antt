use Rattle.std.proofs.Common.{◌≡◌, take, ap, arith}
use Rattle.std.proofs.lemmas.Grind.{common_steps}
use Rattle.ext_tree.specs.declared.stamp.Stamp.{Stamp}
use Rattle.sha2.specs.Hashers.{Holds256}
use Rattle.ext_store_files.specs.HeldFiles.{body_told}
use Rattle.ext_publish.proofs.CopyingLemmas.{append_failed, copies_more, told_rests}
use Rattle.ext_publish.proofs.copying.copy_pieces.Goals as goal

pub returns-in_err-append_at-clause-works : goal.returns-in_err-append_at-clause-works
returns-in_err-append_at-clause-works g c =
    append_failed c.args.path.now (take c.in_ok-count.count c.hash_next.new.buffer) (g.O.Disk.state c.args.out.now) (g.O.Disk.state c.pieces.out) (g.O.Disk.state c.append_at.new.out) c.pieces.invariant.0.works
    (omega (arith, c.in_ok-count.ensures.within)) c.in_err-append_at.ensures.does

pub pieces-preserved : goal.pieces-preserved
pieces-preserved g c =
    let size : c.stamp.result.now.size ≡ c.args.held.now.stamp.size = ap (λ (s : Stamp). s.size) c.stamp.ensures.same in (
      copies_more (body_told (g.D.Disk.state c.args.store.now) c.args.held.now.body) (body_told (g.D.Disk.state c.pieces.store) c.args.held.now.body) c.args.path.now (g.D.Disk.state c.args.store.now) (g.D.Disk.state c.pieces.store)
          (g.D.Disk.state c.hash_next.new.store) (g.O.Disk.state c.args.out.now) (g.O.Disk.state c.pieces.out) (g.O.Disk.state c.append_at.new.out) c.stamp.result.now.size (Holds256 c.pieces.hasher) (Holds256 c.hash_next.new.hasher)
          c.pieces.at c.in_ok-count.count (take c.in_ok-count.count c.hash_next.new.buffer) c.pieces.invariant.0 (told_rests c.args.held.now.body (g.D.Disk.state c.args.store.now) (g.D.Disk.state c.pieces.store) c.pieces.invariant.0.rests)
          c.in_ok-count.ensures.rests c.in_ok-count.ensures.within.0 c.in_ok-count.ensures.within.1 (omega (arith, c.in_ok-count.ensures.within, size)) c.in_ok-count.ensures.fed c.in_ok-count.ensures.next c.in_ok-append_at.ensures.does,
      grind (arith, common_steps),
    )
