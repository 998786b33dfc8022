use Rattle.ext_top.proofs.WayLemmas.{after_some_is_on_the_way, on_the_way_is_after_some}
use Rattle.ext_top.proofs.laws.the_way_is_what_first_lines_leave.Goals as goal

pub returns-clause-on_the_way : goal.returns-clause-on_the_way
returns-clause-on_the_way c = on_the_way_is_after_some

pub returns-clause-after_some : goal.returns-clause-after_some
returns-clause-after_some c = after_some_is_on_the_way
