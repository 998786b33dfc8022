use Rattle.ext_choice.proofs.RoomLemmas.{coming_stays, protected_stays}
use Rattle.ext_choice.proofs.VacuumLemmas.{coming_instance_stays, protected_instance_stays}
use Rattle.ext_choice.proofs.laws.protected_and_coming_versions_stay.Goals as goal

pub returns-clause-protected : goal.returns-clause-protected
returns-clause-protected c = protected_stays

pub returns-clause-coming : goal.returns-clause-coming
returns-clause-coming c = coming_stays

pub returns-clause-protected_instances : goal.returns-clause-protected_instances
returns-clause-protected_instances c = protected_instance_stays

pub returns-clause-coming_instances : goal.returns-clause-coming_instances
returns-clause-coming_instances c = coming_instance_stays
