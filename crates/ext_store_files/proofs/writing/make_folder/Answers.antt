use Rattle.ext_disk.specs.Calls.{make_dir}
use Rattle.ext_store_files.proofs.WritingLemmas.{make_dir_works, folder_made, on_done}
use Rattle.ext_store_files.proofs.writing.make_folder.Goals as goal

pub returns-clause-works : goal.returns-clause-works
returns-clause-works g c = make_dir_works c.args.path.now _ _ _ c.make_dir.ensures.does

pub returns-clause-made : goal.returns-clause-made
returns-clause-made g c =
    on_done (make_dir c.args.path.now) _ _ _ c.make_dir.result
    (λ does. folder_made c.args.path.now (g.D.Disk.state c.args.disk.now).told (g.D.Disk.state c.make_dir.new.self).told
    (g.met.D.Disk.holds_a_tree c.args.disk.now) c.requires does.told) c.make_dir.ensures.does
