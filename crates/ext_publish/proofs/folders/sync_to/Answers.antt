use Rattle.std.proofs.Common.{◌+◌, true, arith}
use Rattle.ext_store_files.specs.Writing.{nowhere}
use Rattle.ext_store_files.proofs.ForCallers.{works_then, sync_dir_call_works}
use Rattle.ext_publish.proofs.FoldersLemmas.{may_sync_prefix}
use Rattle.ext_publish.proofs.folders.sync_to.Goals as goal

pub sync_at-requires : goal.sync_at-requires
sync_at-requires g c =
    may_sync_prefix c.args.folder.now c.in_ok-path.path (c.depths.depth + 1) (g.O.Disk.state c.args.out.now) (g.O.Disk.state c.depths.out) c.in_ok-path.ensures c.requires c.depths.invariant.0 (g.met.O.Disk.holds_a_tree c.depths.out)

pub depths-preserved-in_ok-sync_at : goal.depths-preserved-in_ok-sync_at
depths-preserved-in_ok-sync_at g c = (
  works_then nowhere nowhere 0 0 0 (g.O.Disk.state c.args.out.now) (g.O.Disk.state c.depths.out) (g.O.Disk.state c.sync_at.new.out) (omega arith) c.depths.invariant.0
      (sync_dir_call_works _ true (g.O.Disk.state c.depths.out) (g.O.Disk.state c.sync_at.new.out) c.in_ok-sync_at.ensures.does),
  omega (arith, c.depths-test.true, c.depth.ensures),
)

pub depths-preserved : goal.depths-preserved
depths-preserved g c = (
  works_then nowhere nowhere 0 0 0 (g.O.Disk.state c.args.out.now) (g.O.Disk.state c.depths.out) (g.O.Disk.state c.sync_at.new.out) (omega arith) c.depths.invariant.0
      (sync_dir_call_works _ true (g.O.Disk.state c.depths.out) (g.O.Disk.state c.sync_at.new.out) c.in_ok-sync_at.ensures.does),
  omega (arith, c.depths-test.true, c.depth.ensures),
)
