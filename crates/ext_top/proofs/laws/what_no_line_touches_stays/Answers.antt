use Rattle.ext_top.proofs.UntouchedLemmas.{stays_on_the_way, what_no_line_touches_stays}
use Rattle.ext_top.proofs.laws.what_no_line_touches_stays.Goals as goal

pub returns-clause-after : goal.returns-clause-after
returns-clause-after c = what_no_line_touches_stays c.merging_keeps_the_base.ensures

pub returns-clause-on_the_way : goal.returns-clause-on_the_way
returns-clause-on_the_way c = stays_on_the_way c.merging_keeps_the_base.ensures
