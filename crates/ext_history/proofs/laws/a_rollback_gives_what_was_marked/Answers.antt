use Rattle.ext_history.proofs.KeepingLemmas.{back_from_any}
use Rattle.ext_history.proofs.laws.a_rollback_gives_what_was_marked.Goals as goal

pub returns : goal.returns
returns c = back_from_any
