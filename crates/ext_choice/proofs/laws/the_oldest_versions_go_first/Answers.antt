use Rattle.ext_choice.proofs.RoomLemmas.{no_more, oldest_first}
use Rattle.ext_choice.proofs.VacuumLemmas.{older_goes}
use Rattle.ext_choice.proofs.laws.the_oldest_versions_go_first.Goals as goal

pub returns-clause-oldest : goal.returns-clause-oldest
returns-clause-oldest c = oldest_first

pub returns-clause-count : goal.returns-clause-count
returns-clause-count c = no_more

pub returns-clause-instances : goal.returns-clause-instances
returns-clause-instances c = older_goes
