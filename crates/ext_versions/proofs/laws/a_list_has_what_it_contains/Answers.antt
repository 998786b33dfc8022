use Rattle.ext_versions.proofs.VersionsLemmas.{contained, has_contained}
use Rattle.ext_versions.proofs.laws.a_list_has_what_it_contains.Goals as goal

pub returns : goal.returns
returns c = λ versions v. (contained versions v, has_contained versions v)
