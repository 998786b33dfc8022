use Rattle.std.proofs.Common.{rules, ap, ◌∙◌}
use Rattle.std.proofs.lemmas.Fn.{filter_same}
use Rattle.ext_history.specs.Marks.{is_other, others}
use Rattle.ext_history.proofs.forgetting.others.Goals as goal

pub returns : goal.returns
returns c =
    c.from_vec.ensures ∙ filter_same _ (is_other c.args.generation) _ (λ x b f' h. search rules) _ _ c.retain.ensures.filtered
    ∙ ap (others c.args.generation) c.into_vec-rest.ensures
