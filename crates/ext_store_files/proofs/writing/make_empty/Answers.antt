use Rattle.ext_disk.specs.Calls.{make_file}
use Rattle.ext_store_files.proofs.WritingLemmas.{make_file_works, file_made, file_left, on_done}
use Rattle.ext_store_files.proofs.writing.make_empty.Goals as goal

pub returns-clause-works : goal.returns-clause-works
returns-clause-works g c = make_file_works c.args.path.now _ _ _ c.make_file.ensures.does

pub returns-clause-file : goal.returns-clause-file
returns-clause-file g c = file_left c.args.path.now _ (g.D.Disk.state c.args.disk.now).told (g.D.Disk.state c.make_file.new.self).told c.requires c.make_file.ensures.does.told

pub returns-clause-made : goal.returns-clause-made
returns-clause-made g c =
    on_done (make_file c.args.path.now) _ _ _ c.make_file.result
    (λ does. file_made c.args.path.now (g.D.Disk.state c.args.disk.now).told (g.D.Disk.state c.make_file.new.self).told does.told) c.make_file.ensures.does
