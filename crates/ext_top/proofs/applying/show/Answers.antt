use Rattle.std.proofs.Common.{refl}
use Rattle.std.proofs.lemmas.Result.{err_from_is_err_and}
use Rattle.ext_top.proofs.ReadingLemmas.{file_cause, seen_is_before, seen_is_served, shown_applied, unread_applies}
use Rattle.ext_top.proofs.DamagedLemmas.{file_damage}
use Rattle.ext_top.proofs.applying.show.Goals as goal

pub verify-requires : goal.verify-requires
verify-requires g c = seen_is_served c.args.opened c.args.held c.requires.opened c.requires.file

pub returns-in_err-verify-clause-shows : goal.returns-in_err-verify-clause-shows
returns-in_err-verify-clause-shows g c =
    let p = err_from_is_err_and c.from_residual.result c.from_residual.ensures.1 in
    let old = g.D.Disk.state c.args.disk.now in
    let new = g.D.Disk.state c.verify.new.disk in
    rw (p.1, p.2)
    (unread_applies _ c.args.opened old new _ c.in_err-verify.ensures.rests.told (g.met.D.Disk.holds_a_tree c.args.disk.now)
    (file_cause c.args.opened old new c.args.held _ (seen_is_before c.args.opened c.args.held c.requires.file) c.in_err-verify.ensures.cause))

pub returns-in_err-verify-clause-cause : goal.returns-in_err-verify-clause-cause
returns-in_err-verify-clause-cause g c =
    let p = err_from_is_err_and c.from_residual.result c.from_residual.ensures.1 in
    rw (p.1, p.2)
    (file_cause c.args.opened (g.D.Disk.state c.args.disk.now) (g.D.Disk.state c.verify.new.disk) c.args.held _ (seen_is_before c.args.opened c.args.held c.requires.file) c.in_err-verify.ensures.cause)

pub returns-clause-shows : goal.returns-clause-shows
returns-clause-shows g c =
    shown_applied c.args.held c.args.opened (g.D.Disk.state c.args.disk.now) (g.D.Disk.state c.verify.new.disk) (seen_is_before c.args.opened c.args.held c.requires.file)
    c.in_ok-verify.ensures.rests.told (g.met.D.Disk.holds_a_tree c.args.disk.now)

pub returns-clause-shown : goal.returns-clause-shown
returns-clause-shown g c =
    (seen_is_served c.args.opened c.args.held c.requires.opened c.requires.file, seen_is_before c.args.opened c.args.held c.requires.file, c.in_ok-verify.ensures.rests, c.in_ok-verify.ensures.listed)

pub returns-clause-met : goal.returns-clause-met
returns-clause-met g c = (refl, refl, c.in_ok-verify.ensures.listed)

pub returns-in_err-verify-clause-damaged : goal.returns-in_err-verify-clause-damaged
returns-in_err-verify-clause-damaged g c =
    let p = err_from_is_err_and c.from_residual.result c.from_residual.ensures.1 in
    rw (p.1, p.2) (file_damage _ _ _ c.args.held _ c.in_err-verify.ensures.cause)
