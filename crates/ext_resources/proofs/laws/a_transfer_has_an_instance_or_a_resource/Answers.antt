use Rattle.ext_resources.proofs.LawsLemmas.{instance_or_resource, places_ascend}
use Rattle.ext_resources.proofs.laws.a_transfer_has_an_instance_or_a_resource.Goals as goal

pub returns-clause-either : goal.returns-clause-either
returns-clause-either c = instance_or_resource

pub returns-clause-one : goal.returns-clause-one
returns-clause-one c = places_ascend
