use Rattle.ext_history.proofs.OneLemmas.{history_descends, no_more_stay, youngest_stay}
use Rattle.ext_history.proofs.laws.the_youngest_stay_and_come_first.Goals as goal

pub returns-clause-stay : goal.returns-clause-stay
returns-clause-stay c = youngest_stay

pub returns-clause-first : goal.returns-clause-first
returns-clause-first c = history_descends

pub returns-clause-few : goal.returns-clause-few
returns-clause-few c = no_more_stay
