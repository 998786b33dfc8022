use Rattle.std.proofs.lemmas.Result.{err_from_is_err_and}
use Rattle.ext_cmd.proofs.CommandLemmas.{forced_refused}
use Rattle.ext_cmd.proofs.views.read_forced.Goals as goal

pub returns-in_err-path : goal.returns-in_err-path
returns-in_err-path c =
    let p = err_from_is_err_and c.from_residual.result c.from_residual.ensures.1 in
    rw (p.1, p.2) (forced_refused c.args.rest.now _ c.in_err-path.ensures)
