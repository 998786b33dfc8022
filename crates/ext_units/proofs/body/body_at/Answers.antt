use Rattle.std.proofs.Common.{subst}
use Rattle.ext_units.specs.Body.{TreeAt}
use Rattle.ext_units.proofs.ImageLemmas.{image_served}
use Rattle.ext_units.proofs.body.body_at.Goals as goal

pub body_in-requires : goal.body_in-requires
body_in-requires g c =
    image_served (g.H.Shelf.serves c.args.shelf.now) c.args.base.now c.args.place c.in-Some.tree c.requires (subst (TreeAt c.args.base.now c.args.place) c.in-Some.is c.in_ok-tree_at.ensures)
