use Rattle.ext_host.proofs.DrawnLemmas.{drawn_one_by_one, trees_are_drawn, trees_drawn_through}
use Rattle.ext_host.proofs.laws.trees_are_drawn_one_by_one.Goals as goal

pub returns-clause-through : goal.returns-clause-through
returns-clause-through c = trees_drawn_through

pub returns-clause-each : goal.returns-clause-each
returns-clause-each c = drawn_one_by_one

pub returns-clause-some : goal.returns-clause-some
returns-clause-some c = trees_are_drawn
