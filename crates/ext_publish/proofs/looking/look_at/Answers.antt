use Rattle.std.proofs.lemmas.Result.{err_from_is_err_and}
use Rattle.ext_publish.proofs.LookingLemmas.{kinds_stop, old_stop, paths_stop}
use Rattle.ext_publish.proofs.looking.look_at.Goals as goal

pub returns-in_err-places-clause-cause : goal.returns-in_err-places-clause-cause
returns-in_err-places-clause-cause g c =
    let old = g.O.Disk.state c.args.out.now in
    let p = err_from_is_err_and c.from_residual.result c.from_residual.ensures.1 in
    rw (p.1, p.2) (paths_stop old old c.args.asked.now c.args.payload.now _ c.in_err-places.ensures.err)

pub returns-in_err-look_at_kinds-clause-cause : goal.returns-in_err-look_at_kinds-clause-cause
returns-in_err-look_at_kinds-clause-cause g c =
    let old = g.O.Disk.state c.args.out.now in
    let p = err_from_is_err_and c.from_residual-in_err-look_at_kinds.result c.from_residual-in_err-look_at_kinds.ensures.1 in
    rw (p.1, p.2) (kinds_stop old (g.O.Disk.state c.look_at_kinds.new.out) c.args.asked.now c.args.payload.now _ (c.in_ok-places.ensures.ok.1) c.in_err-look_at_kinds.ensures.cause)

pub returns-in_err-old-clause-cause : goal.returns-in_err-old-clause-cause
returns-in_err-old-clause-cause g c =
    let p = err_from_is_err_and c.from_residual-in_err-old.result c.from_residual-in_err-old.ensures.1 in
    let kinds = c.in_ok-look_at_kinds.ensures in
    rw (p.1, p.2) (old_stop (g.O.Disk.state c.args.out.now) c.args.asked.now c.args.payload.now c.in_ok-places.ensures.ok.1 kinds.ok (g.O.Disk.state c.look_at_kinds.new.out) (g.O.Disk.state c.old_manifest.new.out) _ kinds.rests c.in_err-old.ensures.cause)
