use Rattle.std.proofs.Common.{sym, subst}
use Rattle.std.proofs.lemmas.Result.{err_from_is_err_and}
use Rattle.ext_disk.specs.Disk.{BothTold}
use Rattle.ext_gen.specs.Committing.{CommitsTold}
use Rattle.ext_gen.proofs.committing.commit.Goals as goal

pub returns-in_err-switch-clause-stops : goal.returns-in_err-switch-clause-stops
returns-in_err-switch-clause-stops g c =
    let p = err_from_is_err_and c.from_residual.result c.from_residual.ensures.1 in
    subst (λ r. BothTold (CommitsTold r) (g.D.Disk.state c.args.disk.now).told (g.D.Disk.state c.switch.new.disk).told) (sym p.1) c.in_err-switch.ensures.stops
