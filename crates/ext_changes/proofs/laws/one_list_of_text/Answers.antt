use Rattle.ext_changes.proofs.LawsLemmas.{paths_of_trees}
use Rattle.ext_changes.proofs.LinesLemmas.{one_list_of_text}
use Rattle.ext_changes.proofs.laws.one_list_of_text.Goals as goal

pub returns-clause-paths : goal.returns-clause-paths
returns-clause-paths g c = paths_of_trees

pub returns-clause-text : goal.returns-clause-text
returns-clause-text g c = one_list_of_text
