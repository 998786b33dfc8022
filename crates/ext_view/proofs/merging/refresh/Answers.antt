use Rattle.std.proofs.Common.{sym, ◌∙◌, subst}
use Rattle.ext_view.specs.Layering.{AreChosen, MergesAs}
use Rattle.ext_view.proofs.ChosenLemmas.{refreshes, survey_chosen}
use Rattle.ext_view.proofs.merging.refresh.Goals as goal

pub merge_of-requires-clause-chosen : goal.merge_of-requires-clause-chosen
merge_of-requires-clause-chosen g c =
    let told = g.H.Shelf.told c.args.shelf.now in
    subst (AreChosen c.in_ok-base.base) (sym (c.as_slice.ensures.value ∙ c.chosen-items.ensures))
    (survey_chosen told c.args.host.now c.in_ok-base.base c.args.class c.args.force c.in_ok-survey.survey c.in_ok-survey.ensures.gives)

pub returns-clause-gives : goal.returns-clause-gives
returns-clause-gives g c =
    let told = g.H.Shelf.told c.args.shelf.now in
    let base = c.in_ok-base.base in
    refreshes told c.args.host.now base c.args.class c.args.force c.in_ok-survey.survey c.in_ok-survey.ensures.gives
    (g.H.Shelf.faults c.args.shelf.now) (g.H.Shelf.faults c.survey_of.new.shelf) c.merge_of.result c.in_ok-base.ensures
    (subst (λ items. MergesAs c.args.host.now c.args.class base items c.merge_of.result) (c.as_slice.ensures.value ∙ c.chosen-items.ensures) c.merge_of.ensures.gives)
