use Rattle.std.proofs.Common.{true, arith}
use Rattle.ext_store_files.specs.Writing.{nowhere}
use Rattle.ext_store_files.proofs.ForCallers.{rests_works, works_then, sync_dir_call_works}
use Rattle.ext_publish.proofs.folders.sync_above.Goals as goal

pub returns-in_err-kind_at-clause-works : goal.returns-in_err-kind_at-clause-works
returns-in_err-kind_at-clause-works g c =
    works_then nowhere nowhere 0 0 0 _ (g.O.Disk.state c.sync_at.new.out) _ (omega arith) (sync_dir_call_works _ true _ _ c.in_ok-sync_at.ensures.does) (rests_works nowhere nowhere _ _ c.in_err-kind_at.ensures.rests)

pub returns-in-Some-Dir-clause-works : goal.returns-in-Some-Dir-clause-works
returns-in-Some-Dir-clause-works g c =
    works_then nowhere nowhere 0 0 0 _ (g.O.Disk.state c.kind_at.new.out) _ (omega arith)
    (works_then nowhere nowhere 0 0 0 _ (g.O.Disk.state c.sync_at.new.out) _ (omega arith) (sync_dir_call_works _ true _ _ c.in_ok-sync_at.ensures.does) (rests_works nowhere nowhere _ _ c.in_ok-kind_at.ensures.rests))
    c.sync_to.ensures.works

pub returns-clause-works : goal.returns-clause-works
returns-clause-works g c =
    works_then nowhere nowhere 0 0 0 _ (g.O.Disk.state c.sync_at.new.out) _ (omega arith) (sync_dir_call_works _ true _ _ c.in_ok-sync_at.ensures.does) (rests_works nowhere nowhere _ _ c.in_ok-kind_at.ensures.rests)
