use Rattle.ext_history.proofs.KeepingLemmas.{back_after_all, mark_stays}
use Rattle.ext_history.proofs.laws.a_rollback_undoes_all_changes.Goals as goal

pub returns-clause-stays : goal.returns-clause-stays
returns-clause-stays c = mark_stays

pub returns-clause-back : goal.returns-clause-back
returns-clause-back c = back_after_all
