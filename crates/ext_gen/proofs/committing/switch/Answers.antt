use Rattle.std.proofs.Common.{false, true, sym, subst}
use Rattle.std.proofs.lemmas.Result.{err_from_is_err_and}
use Rattle.ext_disk.specs.Disk.{BothTold}
use Rattle.ext_gen.specs.Committing.{CommitsTold}
use Rattle.ext_gen.proofs.CommittingLemmas.{may_rename, now_after_both, now_after_rename, points_after_both, renames, stops_after_both, stops_after_rename}
use Rattle.ext_gen.proofs.committing.switch.Goals as goal

pub rename-requires : goal.rename-requires
rename-requires g c = may_rename c.args.folder.now c.args.next.now c.args.current.now (g.D.Disk.state c.args.disk.now) c.requires.paths c.requires.prepared

pub returns-in_err-rename-clause-now : goal.returns-in_err-rename-clause-now
returns-in_err-rename-clause-now g c =
    let paths = c.requires.paths in
    now_after_rename false (g.D.Disk.state c.args.disk.now) (g.D.Disk.state c.rename.new.self) (renames _ _ _ _ false paths.next_is paths.current_is c.in_err-rename.ensures.does)

pub returns-in_err-rename-clause-stops : goal.returns-in_err-rename-clause-stops
returns-in_err-rename-clause-stops g c =
    let p = err_from_is_err_and c.from_residual.result c.from_residual.ensures.1 in
    let paths = c.requires.paths in
    subst (λ r. BothTold (CommitsTold r) (g.D.Disk.state c.args.disk.now).told (g.D.Disk.state c.rename.new.self).told) (sym p.1)
    (stops_after_rename p.0 (g.D.Disk.state c.args.disk.now) (g.D.Disk.state c.rename.new.self) (g.met.D.Disk.holds_a_tree c.args.disk.now)
    (renames _ _ _ _ false paths.next_is paths.current_is c.in_err-rename.ensures.does))

pub returns-clause-now : goal.returns-clause-now
returns-clause-now g c =
    let paths = c.requires.paths in
    now_after_both _ (g.D.Disk.state c.args.disk.now) (g.D.Disk.state c.rename.new.self) (g.D.Disk.state c.sync_store.new.disk)
    (renames _ _ _ _ true paths.next_is paths.current_is c.in_ok-rename.ensures.does)
    c.sync_store.ensures.does

pub returns-clause-points : goal.returns-clause-points
returns-clause-points g c = λ generation may.
    let paths = c.requires.paths in
    points_after_both c.sync_store.result (g.D.Disk.state c.args.disk.now) (g.D.Disk.state c.rename.new.self) (g.D.Disk.state c.sync_store.new.disk) generation may
    (renames _ _ _ _ true paths.next_is paths.current_is c.in_ok-rename.ensures.does)
    c.sync_store.ensures.does

pub returns-clause-stops : goal.returns-clause-stops
returns-clause-stops g c =
    let paths = c.requires.paths in
    stops_after_both c.sync_store.result (g.D.Disk.state c.args.disk.now) (g.D.Disk.state c.rename.new.self) (g.D.Disk.state c.sync_store.new.disk)
    (g.met.D.Disk.holds_a_tree c.args.disk.now) (g.met.D.Disk.holds_a_tree c.rename.new.self)
    (renames _ _ _ _ true paths.next_is paths.current_is c.in_ok-rename.ensures.does)
    c.sync_store.ensures.does
