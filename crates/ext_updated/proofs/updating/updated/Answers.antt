use Rattle.ext_updated.proofs.PiecesLemmas.{answers_same, may_be_put}
use Rattle.ext_updated.proofs.updating.updated.Goals as goal

pub put-requires-clause-may : goal.put-requires-clause-may
put-requires-clause-may g c = may_be_put c.args.pieces.items c.in_ok-sorted.sorted.items c.in_ok-sorted.ensures.same c.args.root.now c.args.removed.now c.requires

pub returns : goal.returns
returns g c = answers_same c.args.pieces.items c.in_ok-sorted.sorted.items c.in_ok-sorted.ensures.same c.args.root.now c.args.removed.now c.put.result c.put.ensures
