use Rattle.ext_history.proofs.KeepingLemmas.{forget_keeps, mark_keeps, not_dropped_stays, rollback_keeps}
use Rattle.ext_history.proofs.laws.calls_keep_marks.Goals as goal

pub returns-clause-rollback : goal.returns-clause-rollback
returns-clause-rollback c = rollback_keeps

pub returns-clause-forget : goal.returns-clause-forget
returns-clause-forget c = forget_keeps

pub returns-clause-mark : goal.returns-clause-mark
returns-clause-mark c = mark_keeps

pub returns-clause-any : goal.returns-clause-any
returns-clause-any c = not_dropped_stays
