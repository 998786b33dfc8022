use Rattle.std.proofs.Common.{sym}
use Rattle.std.proofs.lemmas.Result.{err_from_is_err_and}
use Rattle.ext_published.proofs.PlacesLemmas.{pair_err}
use Rattle.ext_published.proofs.places.check_pair.Goals as goal

pub returns-in_err-_path : goal.returns-in_err-_path
returns-in_err-_path c =
    let p = err_from_is_err_and c.from_residual.result c.from_residual.ensures.1 in
    rw (p.1, p.2) (pair_err c.args.resource.now c.args.pair.now _ (sym c.if-not-is_file.ensures) (c.in_err-_path.ensures _ c.join.ensures))
