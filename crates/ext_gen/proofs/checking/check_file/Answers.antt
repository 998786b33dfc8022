use Rattle.std.proofs.lemmas.Result.{err_from_is_err_and}
use Rattle.ext_gen.proofs.CheckingLemmas.{stops_at_once}
use Rattle.ext_gen.proofs.checking.check_file.Goals as goal

pub returns-in_err-verify_once-clause-cause : goal.returns-in_err-verify_once-clause-cause
returns-in_err-verify_once-clause-cause g c =
    let p = err_from_is_err_and c.from_residual.result c.from_residual.ensures.1 in
    rw (p.1, p.2) (stops_at_once (g.D.Disk.state c.args.disk.now) (g.D.Disk.state c.verify_once.new.disk) c.args.held.now _ c.in_err-verify_once.ensures.cause)
