use Rattle.ext_update.proofs.OneLemmas.{update_once, vacuum_once}
use Rattle.ext_update.proofs.laws.one_thing_is_wanted.Goals as goal

pub returns-clause-update : goal.returns-clause-update
returns-clause-update c = update_once c.one_told.ensures

pub returns-clause-vacuum : goal.returns-clause-vacuum
returns-clause-vacuum c = vacuum_once
