use Rattle.ext_host.proofs.DrawnLemmas.{drawn_from_itself, drawn_through}
use Rattle.ext_host.proofs.laws.drawing_goes_on.Goals as goal

pub returns-clause-itself : goal.returns-clause-itself
returns-clause-itself c = drawn_from_itself

pub returns-clause-through : goal.returns-clause-through
returns-clause-through c = drawn_through
