use Rattle.ext_top.proofs.UntouchedLemmas.{manifests_on_the_way, untouched_manifests_stay}
use Rattle.ext_top.proofs.laws.untouched_manifests_stay.Goals as goal

pub returns-clause-after : goal.returns-clause-after
returns-clause-after c = untouched_manifests_stay c.merging_keeps_the_base.ensures

pub returns-clause-on_the_way : goal.returns-clause-on_the_way
returns-clause-on_the_way c = manifests_on_the_way c.merging_keeps_the_base.ensures
