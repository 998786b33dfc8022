use Rattle.std.proofs.Common.{rules, ap, ◌∙◌}
use Rattle.std.proofs.lemmas.Fn.{filter_same}
use Rattle.ext_view.specs.View.{chosen, is_fit}
use Rattle.ext_view.proofs.merging.chosen.Goals as goal

pub returns : goal.returns
returns c =
    filter_same _ (λ item. is_fit item.kind) _ (λ x b f' h. search rules) _ _ c.retain.ensures.filtered
    ∙ ap chosen c.into_vec-items.ensures
