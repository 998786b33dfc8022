use Rattle.ext_view.proofs.OneSurveyLemmas.{refresh_gives_unmerge_then_merge}
use Rattle.ext_view.proofs.laws.refresh_gives_what_unmerge_and_merge_give.Goals as goal

pub returns : goal.returns
returns c = refresh_gives_unmerge_then_merge c.there_is_one_survey.ensures
