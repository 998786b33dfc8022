use Rattle.ext_top.proofs.WayLemmas.{done_lines_leave_the_state_after}
use Rattle.ext_top.proofs.laws.done_lines_leave_the_state_after.Goals as goal

pub returns : goal.returns
returns c = done_lines_leave_the_state_after
