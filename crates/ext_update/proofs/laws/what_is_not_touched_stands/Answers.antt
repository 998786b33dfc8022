use Rattle.ext_update.proofs.UntouchedLemmas.{other_parts_stay, untouched_stand}
use Rattle.ext_update.proofs.laws.what_is_not_touched_stands.Goals as goal

pub returns-clause-seen : goal.returns-clause-seen
returns-clause-seen c = untouched_stand

pub returns-clause-others : goal.returns-clause-others
returns-clause-others c = other_parts_stay
