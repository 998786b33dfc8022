use Rattle.ext_explain.proofs.LawsLemmas.{one_list_of_changes, one_list_of_lines}
use Rattle.ext_explain.proofs.laws.there_is_one_answer.Goals as goal

pub returns-clause-lines : goal.returns-clause-lines
returns-clause-lines c = one_list_of_lines c.there_is_one_survey.ensures

pub returns-clause-changes : goal.returns-clause-changes
returns-clause-changes c = one_list_of_changes c.there_is_one_survey.ensures
