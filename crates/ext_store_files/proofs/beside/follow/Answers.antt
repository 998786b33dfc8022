use Rattle.ext_store_files.proofs.BesideLemmas.{followed_more}
use Rattle.ext_store_files.proofs.beside.follow.Goals as goal

pub returns-in-Ok-clause-followed : goal.returns-in-Ok-clause-followed
returns-in-Ok-clause-followed g c = λ before xs at_end kept is.
    followed_more before (g.P.Depot.state c.args.depot.now) (g.P.Depot.state c.read_beside.new.depot) c.args.from.now c.args.listed.now xs c.args.piece.now c.args.brought c.read_beside.result c.in-Ok.beside
    c.in-Ok.is kept is (c.read_beside.ensures.followed xs at_end)
