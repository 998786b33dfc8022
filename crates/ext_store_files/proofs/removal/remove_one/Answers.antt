use Rattle.std.proofs.Common.{◌-◌, arith}
use Rattle.std.proofs.lemmas.Result.{err_from_is_err_and}
use Rattle.ext_store_files.proofs.ClearingLemmas.{clears_unfinished, clears_removed, clears_failed}
use Rattle.ext_store_files.proofs.removal.remove_one.Goals as goal

pub returns-then-most-eq0-clause-clears : goal.returns-then-most-eq0-clause-clears
returns-then-most-eq0-clause-clears g c = clears_unfinished (Unit {0}) c.args.path.now _ c.args.most.now c.requires (omega arith)

pub returns-in_err-remove-clause-clears : goal.returns-in_err-remove-clause-clears
returns-in_err-remove-clause-clears g c =
    let p = err_from_is_err_and c.from_residual.result c.from_residual.ensures.1 in
    rw (p.1, p.2)
    (clears_failed (Unit {0}) c.args.path.now _ _ c.args.most.now (c.args.most.now - 1) c.requires (omega arith) c.in_err-remove.ensures.does)

pub returns-clause-clears : goal.returns-clause-clears
returns-clause-clears g c =
    clears_removed (Unit {0}) tt c.args.path.now _ _ c.args.most.now (c.args.most.now - 1)
    (g.met.D.Disk.holds_a_tree c.args.disk.now) (g.met.D.Disk.holds_a_tree c.remove.new.self) c.requires (omega arith) c.in_ok-remove.ensures.does
