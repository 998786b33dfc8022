use Rattle.ext_explain.proofs.LawsLemmas.{first_line_shows, first_line_shows_outside}
use Rattle.ext_explain.proofs.laws.the_first_line_tells_what_shows.Goals as goal

pub returns-clause-within : goal.returns-clause-within
returns-clause-within c = first_line_shows c.there_is_one_survey.ensures

pub returns-clause-outside : goal.returns-clause-outside
returns-clause-outside c = first_line_shows_outside
