use Rattle.ext_history.proofs.OneLemmas.{done_or_refused, one_forget, one_rollback, the_mark}
use Rattle.ext_history.proofs.laws.there_is_one_answer.Goals as goal

pub returns-clause-mark : goal.returns-clause-mark
returns-clause-mark c = the_mark

pub returns-clause-rollback : goal.returns-clause-rollback
returns-clause-rollback c = one_rollback

pub returns-clause-forget : goal.returns-clause-forget
returns-clause-forget c = one_forget

pub returns-clause-refused : goal.returns-clause-refused
returns-clause-refused c = done_or_refused
