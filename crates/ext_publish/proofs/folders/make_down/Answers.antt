use Rattle.std.proofs.lemmas.Result.{err_from_is_err_and}
use Rattle.ext_publish.proofs.FoldersLemmas.{goes_on, goes_wrong, may_step}
use Rattle.ext_publish.proofs.folders.make_down.Goals as goal

pub make_in-requires-clause-may : goal.make_in-requires-clause-may
make_in-requires-clause-may g c =
    may_step c.args.base.now c.args.names.now c.names.above c.names.left c.in-Some.below c.in-Some.name.now c.in_ok-path-in-Some.path _ (g.O.Disk.state c.names.out) c.in-Some.ensures.0 c.in_ok-path-in-Some.ensures c.names.invariant

pub returns-in_err-make_in-in-Some-clause-makes : goal.returns-in_err-make_in-in-Some-clause-makes
returns-in_err-make_in-in-Some-clause-makes g c =
    let p = err_from_is_err_and c.from_residual-in_err-make_in-in-Some.result c.from_residual-in_err-make_in-in-Some.ensures.1 in
    rw (p.1, p.2)
    (goes_wrong (Unit {0}) (Unit {0}) _ c.args.base.now c.args.names.now c.names.above c.names.left c.in-Some.below c.in-Some.name.now c.in_ok-path-in-Some.path (g.O.Disk.state c.args.out.now) (g.O.Disk.state c.names.out) (g.O.Disk.state c.make_in.new.out)
    c.in-Some.ensures.0 c.in_ok-path-in-Some.ensures c.names.invariant c.in_err-make_in-in-Some.ensures.makes)

pub names-preserved : goal.names-preserved
names-preserved g c =
    goes_on {T = Unit {0}} _ c.args.base.now c.args.names.now c.names.above c.names.left c.in-Some.below c.in-Some.name.now c.in_ok-path-in-Some.path (g.O.Disk.state c.args.out.now) (g.O.Disk.state c.names.out) (g.O.Disk.state c.make_in.new.out)
    c.in-Some.ensures.0 c.in_ok-path-in-Some.ensures c.names.invariant c.in_ok-make_in-in-Some.ensures.makes
