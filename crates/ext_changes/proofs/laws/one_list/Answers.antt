use Rattle.ext_changes.proofs.LawsLemmas.{one_list, one_list_below}
use Rattle.ext_changes.proofs.laws.one_list.Goals as goal

pub returns-clause-whole : goal.returns-clause-whole
returns-clause-whole g c = one_list

pub returns-clause-below : goal.returns-clause-below
returns-clause-below g c = one_list_below
