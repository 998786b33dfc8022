use Rattle.ext_units.proofs.InspectLemmas.{inspected}
use Rattle.ext_units.proofs.inspecting.inspect.Goals as goal

pub returns-clause-gives : goal.returns-clause-gives
returns-clause-gives g c =
    inspected (g.H.Shelf.told c.args.shelf.now) (g.H.Shelf.faults c.args.shelf.now) (g.H.Shelf.faults c.body_of.new.shelf) c.args.base.now c.args.arch c.args.image.now c.args.given.now c.in_ok-body.body c.in_ok-body.ensures.gives c.inspect_body.result c.inspect_body.ensures
