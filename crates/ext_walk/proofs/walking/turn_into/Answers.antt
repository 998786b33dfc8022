use Rattle.ext_walk.proofs.EndLemmas.{turns_none, turns_some}
use Rattle.ext_walk.proofs.walking.turn_into.Goals as goal

pub returns-in-None : goal.returns-in-None
returns-in-None g c = λ image at is. turns_none c.args.tree.now image at c.args.here.now is c.args.name.now c.child.ensures.tree c.requires.plain c.requires.below c.in-None.ensures.found

pub returns-in-Some : goal.returns-in-Some
returns-in-Some g c = λ image at is.
    turns_some c.args.tree.now image at c.args.here.now is c.args.name.now c.in-Some.field-0.now.0 c.in-Some.field-0.now.1 c.turn_to.result c.in-Some.ensures.tree c.requires.plain c.requires.below c.in-Some.ensures.found.0 c.in-Some.ensures.found.1 c.turn_to.ensures
