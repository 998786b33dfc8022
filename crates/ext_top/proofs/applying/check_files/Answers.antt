use Rattle.std.proofs.Common.{Some, refl, sym, subst}
use Rattle.std.proofs.lemmas.Result.{err_from_is_err_and}
use Rattle.ext_host.specs.Drawn.{trees_of}
use Rattle.ext_gen.specs.Checking.{AreServed}
use Rattle.ext_gen.proofs.ForCallers.{opened_is_served}
use Rattle.ext_top.proofs.ReadingLemmas.{check_cause, checked_applied, checked_is, unread_applies}
use Rattle.ext_top.proofs.applying.check_files.Goals as goal

pub check-requires-clause-served : goal.check-requires-clause-served
check-requires-clause-served g c = subst (λ h. AreServed (trees_of h)) (sym c.host.ensures.same) (opened_is_served c.in-Some.opened c.host.ensures.opened)

pub returns-in_err-files-clause-checks : goal.returns-in_err-files-clause-checks
returns-in_err-files-clause-checks g c =
    let p = err_from_is_err_and c.from_residual.result c.from_residual.ensures.1 in
    let old = g.D.Disk.state c.args.disk.now in
    let new = g.D.Disk.state c.check.new.disk in
    rw (p.1, p.2, c.in-Some.is)
    (unread_applies _ (Some c.in-Some.opened) old new _ c.in_err-files.ensures.rests.told (g.met.D.Disk.holds_a_tree c.args.disk.now)
    (check_cause c.in-Some.opened old new _ c.host.ensures.opened (rw c.host.ensures.same at c.in_err-files.ensures.cause)))

pub returns-in_err-files-clause-cause : goal.returns-in_err-files-clause-cause
returns-in_err-files-clause-cause g c =
    let p = err_from_is_err_and c.from_residual.result c.from_residual.ensures.1 in
    rw (c.in-Some.is, p.1, p.2)
    (check_cause c.in-Some.opened (g.D.Disk.state c.args.disk.now) (g.D.Disk.state c.check.new.disk) _ c.host.ensures.opened (rw c.host.ensures.same at c.in_err-files.ensures.cause))

pub returns-in_err-answer_text-clause-checks : goal.returns-in_err-answer_text-clause-checks
returns-in_err-answer_text-clause-checks g c =
    let p = err_from_is_err_and c.from_residual-in_err-answer_text.result c.from_residual-in_err-answer_text.ensures.1 in
    rw (p.1, p.2, c.in-Some.is)
    (unread_applies _ (Some c.in-Some.opened) (g.D.Disk.state c.args.disk.now) (g.D.Disk.state c.check.new.disk) _ c.in_ok-files.ensures.rests.told (g.met.D.Disk.holds_a_tree c.args.disk.now) tt)

pub returns-clause-checks : goal.returns-clause-checks
returns-clause-checks g c =
    rw c.in-Some.is
    (checked_applied c.in-Some.opened _ _ (g.D.Disk.state c.args.disk.now) (g.D.Disk.state c.check.new.disk) (rw c.host.ensures.same at c.in_ok-files.ensures.checked) c.in_ok-answer_text.ensures
    c.in_ok-files.ensures.rests.told (g.met.D.Disk.holds_a_tree c.args.disk.now))

pub returns-clause-met : goal.returns-clause-met
returns-clause-met g c = rw c.in-Some.is (refl, refl, (rw c.host.ensures.same at c.in_ok-files.ensures.checked).listed)

pub returns-clause-replies : goal.returns-clause-replies
returns-clause-replies g c =
    rw c.in-Some.is (checked_is (g.D.Disk.state c.args.disk.now) c.in-Some.opened.host _ _ (rw c.host.ensures.same at c.in_ok-files.ensures.checked) c.in_ok-answer_text.ensures)
