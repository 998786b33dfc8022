use Rattle.std.proofs.Common.{rules, ◌∙◌, ap}
use Rattle.std.specs.Prelude.{filter}
use Rattle.std.proofs.lemmas.Fn.{filter_same}
use Rattle.ext_store_files.specs.LeftOvers.{is_left_over, has_generation}
use Rattle.ext_store_files.proofs.left_overs.left_names.Goals as goal

pub returns : goal.returns
returns c =
    filter_same _ (is_left_over (has_generation c.args.needed.now)) _ (λ x b f called. search rules) _ _ c.retain.ensures.filtered
    ∙ ap (filter (is_left_over (has_generation c.args.needed.now))) c.into_vec-left.ensures
