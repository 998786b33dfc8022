use Rattle.ext_top.proofs.ReturningLemmas.{rollback_gives}
use Rattle.ext_top.proofs.laws.a_rollback_gives_what_was_marked.Goals as goal

pub returns : goal.returns
returns c = rollback_gives
