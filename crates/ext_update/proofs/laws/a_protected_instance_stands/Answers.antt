use Rattle.ext_update.proofs.LawsLemmas.{updates_keep_protected, vacuums_keep_protected}
use Rattle.ext_update.proofs.laws.a_protected_instance_stands.Goals as goal

pub returns-clause-updates : goal.returns-clause-updates
returns-clause-updates c = updates_keep_protected

pub returns-clause-vacuums : goal.returns-clause-vacuums
returns-clause-vacuums c = vacuums_keep_protected
