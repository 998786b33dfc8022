use Rattle.std.proofs.Common.{sym, ◌∙◌, subst}
use Rattle.std.specs.List.{AllByRecursion}
use Rattle.ext_view.specs.Parts.{LeadsItem}
use Rattle.ext_view.proofs.ForCallers.{survey_chosen}
use Rattle.ext_explain.proofs.explaining.explain.Goals as goal

pub origins_in-requires : goal.origins_in-requires
origins_in-requires g c =
    let base = c.in_ok-base.base in
    subst (AllByRecursion (LeadsItem base)) (sym (c.as_slice-2.ensures.value ∙ c.chosen-items.ensures))
    (survey_chosen (g.H.Shelf.told c.args.shelf.now) c.args.host.now base c.args.class c.args.force c.in_ok-survey_of.field-0 c.in_ok-survey_of.ensures.gives).lead
