use Rattle.std.proofs.Common.{length}
use Rattle.std.proofs.lemmas.Result.{on_ok_weaker}
use Rattle.ext_store_files.specs.Writing.{nowhere}
use Rattle.ext_store_files.proofs.ForCallers.{raises_before}
use Rattle.ext_gen.proofs.PreparingMovesLemmas.{works_synced}
use Rattle.ext_gen.proofs.preparing.moves.put_synced.Goals as goal

pub returns-clause-works : goal.returns-clause-works
returns-clause-works g c =
    works_synced c.args.path.now (length c.args.bytes.now) _ (g.D.Disk.state c.write_file.new.disk) _ c.in_ok-write_file.ensures.works c.sync_folder.ensures.works

pub returns-clause-raises : goal.returns-clause-raises
returns-clause-raises g c =
    on_ok_weaker c.sync_folder.result
    (λ syncs. raises_before nowhere nowhere (length c.args.bytes.now) (g.D.Disk.state c.args.disk.now) (g.D.Disk.state c.write_file.new.disk) (g.D.Disk.state c.sync_folder.new.disk) c.in_ok-write_file.ensures.raises c.sync_folder.ensures.works)
    c.sync_folder.ensures.syncs
