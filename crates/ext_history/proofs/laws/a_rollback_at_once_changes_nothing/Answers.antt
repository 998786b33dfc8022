use Rattle.ext_history.proofs.KeepingLemmas.{back_at_once, mark_is_there}
use Rattle.ext_history.proofs.laws.a_rollback_at_once_changes_nothing.Goals as goal

pub returns-clause-there : goal.returns-clause-there
returns-clause-there c = mark_is_there

pub returns-clause-back : goal.returns-clause-back
returns-clause-back c = back_at_once
