use Rattle.ext_update.proofs.LawsLemmas.{update_writes, vacuum_removes}
use Rattle.ext_update.proofs.laws.a_change_is_what_is_written_and_removed.Goals as goal

pub returns-clause-update : goal.returns-clause-update
returns-clause-update c = update_writes

pub returns-clause-vacuum : goal.returns-clause-vacuum
returns-clause-vacuum c = vacuum_removes
