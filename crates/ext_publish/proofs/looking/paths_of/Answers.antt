use Rattle.std.proofs.lemmas.Result.{err_from_is_err_and}
use Rattle.ext_publish.proofs.LookingLemmas.{places_refused, files_refused, paths_are}
use Rattle.ext_publish.proofs.looking.paths_of.Goals as goal

pub returns-in_err-places-clause-err : goal.returns-in_err-places-clause-err
returns-in_err-places-clause-err c =
    let p = err_from_is_err_and c.from_residual.result c.from_residual.ensures.1 in
    rw (p.1, p.2) (places_refused c.args.asked.now c.args.payload.now _ c.in_err-places.ensures)

pub returns-in_err-check_payload-clause-err : goal.returns-in_err-check_payload-clause-err
returns-in_err-check_payload-clause-err c =
    let p = err_from_is_err_and c.from_residual-in_err-check_payload.result c.from_residual-in_err-check_payload.ensures.1 in
    let places = c.in_ok-places.ensures.0 in
    rw (p.1, p.2) (files_refused c.args.asked.now c.args.payload.now c.in_ok-places.places.resource _ places.resource c.in_err-check_payload.ensures)

pub returns-clause-ok : goal.returns-clause-ok
returns-clause-ok c =
    let places = c.in_ok-places.ensures in
    let are = places.0 in
    (are, paths_are c.args.asked.now c.args.payload.now c.in_ok-places.places.resource _ are.resource places.1 c.in_ok-check_payload.ensures)
