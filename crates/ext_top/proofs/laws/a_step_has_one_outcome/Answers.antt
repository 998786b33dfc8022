use Rattle.ext_top.proofs.OneOutcomeLemmas.{one_outcome}
use Rattle.ext_top.proofs.laws.a_step_has_one_outcome.Goals as goal

pub returns : goal.returns
returns c = one_outcome c.a_command_wants_one_thing.ensures
