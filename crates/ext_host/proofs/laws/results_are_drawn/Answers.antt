use Rattle.ext_host.proofs.DrawnLemmas.{base_is_drawn, cut_is_drawn, graft_is_drawn, part_is_drawn}
use Rattle.ext_host.proofs.laws.results_are_drawn.Goals as goal

pub returns-clause-base : goal.returns-clause-base
returns-clause-base c = base_is_drawn

pub returns-clause-part : goal.returns-clause-part
returns-clause-part c = part_is_drawn

pub returns-clause-cut : goal.returns-clause-cut
returns-clause-cut c = cut_is_drawn

pub returns-clause-graft : goal.returns-clause-graft
returns-clause-graft c = graft_is_drawn
