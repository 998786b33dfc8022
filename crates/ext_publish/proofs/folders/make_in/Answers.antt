use Rattle.std.proofs.Common.{sym, subst, false}
use Rattle.std.proofs.lemmas.Result.{err_from_is_err_and}
use Rattle.ext_text.specs.Path.{is_prefix}
use Rattle.ext_disk.proofs.ForCallers.{rests_itself, spares_then}
use Rattle.ext_publish.specs.Folders.{MakesFolder}
use Rattle.ext_publish.proofs.FoldersLemmas.{absent_at, dir_spares, makes_failed, makes_new, rests_makes, rests_spare}
use Rattle.ext_publish.proofs.folders.make_in.Goals as goal

pub returns-in_err-make_at-in-None-clause-makes : goal.returns-in_err-make_at-in-None-clause-makes
returns-in_err-make_at-in-None-clause-makes g c =
    let p = err_from_is_err_and c.from_residual-in_err-make_at-in-None.result c.from_residual-in_err-make_at-in-None.ensures.1 in
    let path = c.args.path.now in
    let old = g.O.Disk.state c.args.out.now in
    let mid = g.O.Disk.state c.kind_at.new.out in
    let new = g.O.Disk.state c.make_at.new.out in
    subst (λ r. MakesFolder path r old new) (sym p.1)
    (makes_failed (Unit {0}) p.0 path old new (absent_at path c.in_ok-kind_at.field-0 old old c.in-None.is c.in_ok-kind_at.ensures.kind (rests_itself old))
    (spares_then (is_prefix path) old mid new (rests_spare path old mid c.in_ok-kind_at.ensures.rests) (dir_spares path false mid new c.in_err-make_at-in-None.ensures.does)))

pub returns-in_ok-make_at-in-None-clause-makes : goal.returns-in_ok-make_at-in-None-clause-makes
returns-in_ok-make_at-in-None-clause-makes g c =
    let path = c.args.path.now in
    let old = g.O.Disk.state c.args.out.now in
    let mid = g.O.Disk.state c.kind_at.new.out in
    let made = g.O.Disk.state c.make_at.new.out in
    let new = g.O.Disk.state c.sync_at.new.out in
    rests_makes c.sync_at.result path old mid new c.in_ok-kind_at.ensures.rests
    (makes_new c.sync_at.result c.args.above.now path mid made new c.requires.child (absent_at path c.in_ok-kind_at.field-0 old mid c.in-None.is c.in_ok-kind_at.ensures.kind c.in_ok-kind_at.ensures.rests)
    c.in_ok-make_at-in-None.ensures.does c.sync_at.ensures.does)
