use Rattle.ext_disk.specs.Calls.{sync_file}
use Rattle.ext_store_files.proofs.WritingLemmas.{sync_file_call_works, file_synced, on_done}
use Rattle.ext_store_files.proofs.writing.sync_file.Goals as goal

pub returns-clause-works : goal.returns-clause-works
returns-clause-works g c = sync_file_call_works c.args.path.now _ _ _ c.sync_file.ensures.does

pub returns-clause-synced : goal.returns-clause-synced
returns-clause-synced g c =
    on_done (sync_file c.args.path.now) _ _ _ c.sync_file.result
    (λ does. file_synced c.args.path.now (g.D.Disk.state c.args.disk.now).told (g.D.Disk.state c.sync_file.new.self).told does.told) c.sync_file.ensures.does
