use Rattle.ext_view.proofs.SurveyLemmas.{base_served, surveys_of_base}
use Rattle.ext_view.proofs.surveying.survey.Goals as goal

pub survey_of-requires : goal.survey_of-requires
survey_of-requires g c =
    base_served (g.H.Shelf.serves c.args.shelf.now) c.args.host.now c.in_ok-base.base c.requires.serves c.in_ok-base.ensures.is_base

pub returns-clause-gives : goal.returns-clause-gives
returns-clause-gives g c =
    surveys_of_base (g.H.Shelf.told c.args.shelf.now) (g.H.Shelf.faults c.args.shelf.now) (g.H.Shelf.faults c.survey_of.new.shelf) c.args.host.now c.in_ok-base.base c.args.class c.args.force c.survey_of.result c.in_ok-base.ensures c.survey_of.ensures.gives
