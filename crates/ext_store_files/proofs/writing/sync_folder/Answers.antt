use Rattle.ext_disk.specs.Calls.{sync_dir}
use Rattle.ext_store_files.proofs.WritingLemmas.{sync_dir_call_works, folder_synced, on_done}
use Rattle.ext_store_files.proofs.writing.sync_folder.Goals as goal

pub returns-clause-works : goal.returns-clause-works
returns-clause-works g c = sync_dir_call_works c.args.dir.now _ _ _ c.sync_dir.ensures.does

pub returns-clause-syncs : goal.returns-clause-syncs
returns-clause-syncs g c =
    on_done (sync_dir c.args.dir.now) _ _ _ c.sync_dir.result
    (λ does. folder_synced c.args.dir.now (g.D.Disk.state c.args.disk.now).told (g.D.Disk.state c.sync_dir.new.self).told does.told) c.sync_dir.ensures.does
