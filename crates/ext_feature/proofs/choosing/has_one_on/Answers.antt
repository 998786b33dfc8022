use Rattle.std.proofs.Common.{◌||◌, ap, ◌∙◌, rules}
use Rattle.std.specs.List.{list_any}
use Rattle.std.proofs.lemmas.Iterator.{YieldsList-from_slice}
use Rattle.std.proofs.lemmas.Iterator.Search.{any_from_yields_List}
use Rattle.ext_feature.specs.Chosen.{has_on}
use Rattle.ext_feature.proofs.choosing.has_one_on.Goals as goal

pub returns-else-is_empty : goal.returns-else-is_empty
returns-else-is_empty c = λ sorted.
    any_from_yields_List (has_on c.args.features.now) _ _ c.any.result c.any.ensures.ran (YieldsList-from_slice c.args.names.now c.iter.ensures.rest) (λ x b q h. search rules)
    ∙ ap (λ b. b || list_any (has_on c.args.features.now) c.args.names.now) c.if-is_empty.ensures
