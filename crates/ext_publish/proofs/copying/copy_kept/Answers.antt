use Rattle.std.proofs.Common.{true, false}
use Rattle.std.specs.Result.{is_ok}
use Rattle.ext_publish.proofs.CopyingLemmas.{made_empty, make_works_at, sync_works_at, works_at_then}
use Rattle.ext_publish.proofs.copying.copy_kept.Goals as goal

pub returns-in_err-make_file_at-clause-works : goal.returns-in_err-make_file_at-clause-works
returns-in_err-make_file_at-clause-works g c = make_works_at c.args.path.now false (g.O.Disk.state c.args.out.now) (g.O.Disk.state c.make_file_at.new.out) c.in_err-make_file_at.ensures.does

pub copy_pieces-requires-clause-empty : goal.copy_pieces-requires-clause-empty
copy_pieces-requires-clause-empty g c = made_empty c.args.path.now (g.O.Disk.state c.args.out.now) (g.O.Disk.state c.make_file_at.new.out) c.in_ok-make_file_at.ensures.does

pub returns-in_err-digest-clause-works : goal.returns-in_err-digest-clause-works
returns-in_err-digest-clause-works g c =
    works_at_then c.args.path.now (g.O.Disk.state c.args.out.now) (g.O.Disk.state c.make_file_at.new.out) (g.O.Disk.state c.copy_pieces.new.out)
    (make_works_at c.args.path.now true (g.O.Disk.state c.args.out.now) (g.O.Disk.state c.make_file_at.new.out) c.in_ok-make_file_at.ensures.does) c.in_err-digest.ensures.works

pub returns-in_err-compare-clause-works : goal.returns-in_err-compare-clause-works
returns-in_err-compare-clause-works g c =
    works_at_then c.args.path.now (g.O.Disk.state c.args.out.now) (g.O.Disk.state c.make_file_at.new.out) (g.O.Disk.state c.copy_pieces.new.out)
    (make_works_at c.args.path.now true (g.O.Disk.state c.args.out.now) (g.O.Disk.state c.make_file_at.new.out) c.in_ok-make_file_at.ensures.does) c.in_ok-digest.ensures.works

pub returns-clause-works : goal.returns-clause-works
returns-clause-works g c =
    works_at_then c.args.path.now (g.O.Disk.state c.args.out.now) (g.O.Disk.state c.copy_pieces.new.out) (g.O.Disk.state c.sync_bytes.new.out)
    (works_at_then c.args.path.now (g.O.Disk.state c.args.out.now) (g.O.Disk.state c.make_file_at.new.out) (g.O.Disk.state c.copy_pieces.new.out)
    (make_works_at c.args.path.now true (g.O.Disk.state c.args.out.now) (g.O.Disk.state c.make_file_at.new.out) c.in_ok-make_file_at.ensures.does) c.in_ok-digest.ensures.works)
    (sync_works_at c.args.path.now (is_ok c.sync_bytes.result) (g.O.Disk.state c.copy_pieces.new.out) (g.O.Disk.state c.sync_bytes.new.out) c.sync_bytes.ensures.does)
