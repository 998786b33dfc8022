use Rattle.ext_changes.proofs.LawsLemmas.{none_of_equal, none_where_alike}
use Rattle.ext_changes.proofs.laws.none_of_equal.Goals as goal

pub returns-clause-stamps : goal.returns-clause-stamps
returns-clause-stamps g c = none_of_equal

pub returns-clause-alike : goal.returns-clause-alike
returns-clause-alike g c = none_where_alike
