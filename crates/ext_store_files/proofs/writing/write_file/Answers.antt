use Rattle.std.proofs.Common.{length}
use Rattle.std.proofs.lemmas.Result.{on_ok_weaker}
use Rattle.ext_text.specs.Path.{is_prefix}
use Rattle.ext_store_files.specs.Writing.{is_at, nowhere}
use Rattle.ext_store_files.proofs.WritingLemmas.{synced_written, still_no_folder, made_and_appended, and_synced, only_made, raises_after, raises_before}
use Rattle.ext_store_files.proofs.writing.write_file.Goals as goal

pub returns-in_err-make_empty-clause-works : goal.returns-in_err-make_empty-clause-works
returns-in_err-make_empty-clause-works g c = only_made c.args.path.now (length c.args.bytes.now) _ _ c.in_err-make_empty.ensures.works

pub returns-in_err-append_all-clause-works : goal.returns-in_err-append_all-clause-works
returns-in_err-append_all-clause-works g c =
    made_and_appended c.args.path.now (length c.args.bytes.now) _ (g.D.Disk.state c.make_empty.new.disk) _ c.in_ok-make_empty.ensures.works c.in_err-append_all.ensures.works

pub returns-clause-works : goal.returns-clause-works
returns-clause-works g c =
    and_synced c.args.path.now (length c.args.bytes.now) _ (g.D.Disk.state c.append_all.new.disk) _
    (made_and_appended c.args.path.now (length c.args.bytes.now) _ (g.D.Disk.state c.make_empty.new.disk) _ c.in_ok-make_empty.ensures.works c.in_ok-append_all.ensures.works)
    c.sync_file.ensures.works

pub returns-clause-file : goal.returns-clause-file
returns-clause-file g c = still_no_folder c.args.path.now (g.D.Disk.state c.append_all.new.disk) (g.D.Disk.state c.sync_file.new.disk) c.in_ok-append_all.ensures.file c.sync_file.ensures.works

pub returns-clause-written : goal.returns-clause-written
returns-clause-written g c =
    on_ok_weaker c.sync_file.result
    (λ hard. synced_written c.args.path.now c.args.bytes.now (g.D.Disk.state c.append_all.new.disk) (g.D.Disk.state c.sync_file.new.disk) c.in_ok-append_all.ensures.all c.sync_file.ensures.works hard)
    c.sync_file.ensures.synced

pub returns-clause-raises : goal.returns-clause-raises
returns-clause-raises g c =
    let path = c.args.path.now in
    let n = length c.args.bytes.now in
    let first = g.D.Disk.state c.args.disk.now in
    let appended = g.D.Disk.state c.append_all.new.disk in
    let last = g.D.Disk.state c.sync_file.new.disk in
    on_ok_weaker c.sync_file.result
    (λ hard. raises_before nowhere nowhere n first appended last
    (raises_after (is_prefix path) (is_at path) n first (g.D.Disk.state c.make_empty.new.disk) appended c.in_ok-make_empty.ensures.works c.in_ok-append_all.ensures.raises) c.sync_file.ensures.works)
    c.sync_file.ensures.synced
