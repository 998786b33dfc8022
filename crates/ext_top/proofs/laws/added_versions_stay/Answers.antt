use Rattle.ext_top.proofs.VersionsLemmas.{added_on_the_way, added_versions_stay}
use Rattle.ext_top.proofs.laws.added_versions_stay.Goals as goal

pub returns-clause-after : goal.returns-clause-after
returns-clause-after c = added_versions_stay c.merging_keeps_the_base.ensures

pub returns-clause-on_the_way : goal.returns-clause-on_the_way
returns-clause-on_the_way c = added_on_the_way c.merging_keeps_the_base.ensures
