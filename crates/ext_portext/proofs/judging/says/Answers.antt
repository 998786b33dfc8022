use Rattle.std.proofs.lemmas.Result.{err_from_is_err_and}
use Rattle.ext_portext.proofs.ContentLemmas.{file_served, shelf_says}
use Rattle.ext_portext.proofs.judging.says.Goals as goal

pub bytes-requires : goal.bytes-requires
bytes-requires g c =
    file_served (g.H.Shelf.serves c.args.shelf.now) c.args.tree.now c.args.name.now c.in_ok-held.held.now c.requires.serves c.in_ok-held.ensures

pub returns-in_err-text-clause-gives : goal.returns-in_err-text-clause-gives
returns-in_err-text-clause-gives g c =
    let p = err_from_is_err_and c.from_residual-in_err-text.result c.from_residual-in_err-text.ensures.1 in
    rw (p.1, p.2)
    (shelf_says c.args.release.now c.args.arch (g.H.Shelf.told c.args.shelf.now) (g.H.Shelf.faults c.args.shelf.now) (g.H.Shelf.faults c.bytes.new.self) c.args.tree.now c.args.name.now c.in_ok-held.held.now c.in_ok-held.ensures c.in_err-text.field-0.0 c.in_err-text.ensures.cause)
