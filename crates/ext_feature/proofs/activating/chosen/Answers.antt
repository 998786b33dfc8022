use Rattle.std.proofs.Common.{ap, ◌∙◌, rules}
use Rattle.std.specs.List.{filter}
use Rattle.std.proofs.lemmas.Fn.{filter_same}
use Rattle.ext_feature.specs.Chosen.{is_on}
use Rattle.ext_feature.proofs.activating.chosen.Goals as goal

pub returns : goal.returns
returns c =
    let sorted = c.requires in
    c.from_vec.ensures ∙ filter_same _ (is_on c.args.features.now) _ (λ x b f' h. search rules) _ _ c.retain.ensures.filtered
    ∙ ap (filter (is_on c.args.features.now)) c.into_vec-on.ensures
