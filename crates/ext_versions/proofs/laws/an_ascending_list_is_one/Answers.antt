use Rattle.std.proofs.Common.{◌∙◌, sym}
use Rattle.ext_versions.proofs.VersionsLemmas.{one_list}
use Rattle.ext_versions.proofs.laws.an_ascending_list_is_one.Goals as goal

pub returns-clause-one : goal.returns-clause-one
returns-clause-one c = one_list

pub returns-clause-versions : goal.returns-clause-versions
returns-clause-versions c = λ versions a b of_a of_b. one_list a b of_a.order of_b.order (λ v. of_a.same v ∙ sym (of_b.same v))

pub returns-clause-common : goal.returns-clause-common
returns-clause-common c = λ lists a b of_a of_b. one_list a b of_a.order of_b.order (λ v. of_a.same v ∙ sym (of_b.same v))
