use Rattle.std.proofs.Common.{arith}
use Rattle.ext_gen.proofs.PreparingMovesLemmas.{works_nowhere_then, synced_more}
use Rattle.ext_gen.proofs.preparing.moves.sync_folders.Goals as goal

pub returns-in_err-sync_home_folder-clause-works : goal.returns-in_err-sync_home_folder-clause-works
returns-in_err-sync_home_folder-clause-works g c = works_nowhere_then _ (g.D.Disk.state c.folders.disk) _ c.folders.invariant.0 c.in_err-sync_home_folder.ensures.works

pub folders-preserved : goal.folders-preserved
folders-preserved g c = (
  works_nowhere_then _ (g.D.Disk.state c.folders.disk) _ c.folders.invariant.0 c.in_ok-sync_home_folder.ensures.works,
  synced_more c.args.generation c.folders.file (g.D.Disk.state c.folders.disk) (g.D.Disk.state c.sync_home_folder.new.disk) c.folders.invariant.2 c.folders.invariant.1
      c.in_ok-sync_home_folder.ensures.works c.in_ok-sync_home_folder.ensures.syncs,
  omega (arith, c.folders.invariant.2),
  omega (arith, c.folders-test.true),
)
