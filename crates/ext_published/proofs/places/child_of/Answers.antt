use Rattle.ext_published.proofs.places.child_of.Goals as goal

pub returns : goal.returns
returns c = c.joined.ensures _ c.child_of.ensures
