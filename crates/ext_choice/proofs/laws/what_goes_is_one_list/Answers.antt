use Rattle.ext_choice.proofs.RoomLemmas.{no_lack, one_room}
use Rattle.ext_choice.proofs.VacuumLemmas.{one_vacuum}
use Rattle.ext_choice.proofs.laws.what_goes_is_one_list.Goals as goal

pub returns-clause-versions : goal.returns-clause-versions
returns-clause-versions c = one_room

pub returns-clause-lack : goal.returns-clause-lack
returns-clause-lack c = no_lack

pub returns-clause-paths : goal.returns-clause-paths
returns-clause-paths c = one_vacuum
