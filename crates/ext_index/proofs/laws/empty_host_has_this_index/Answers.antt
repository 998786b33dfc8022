use Rattle.std.proofs.Common.{refl}
use Rattle.std.specs.Fmt.{digits}
use Rattle.ext_index.proofs.laws.empty_host_has_this_index.Goals as goal

pub returns-clause-lines_2 : goal.returns-clause-lines_2
unfolding digits
returns-clause-lines_2 c = refl

pub returns-clause-lines_1 : goal.returns-clause-lines_1
unfolding digits
returns-clause-lines_1 c = refl
