use Rattle.std.proofs.Common.{rules}
use Rattle.std.proofs.lemmas.Iterator.{YieldsList-from_slice}
use Rattle.std.proofs.lemmas.Iterator.Search.{all_from_yields_List}
use Rattle.ext_feature.specs.Chosen.{has_on}
use Rattle.ext_feature.proofs.choosing.are_on.Goals as goal

pub returns : goal.returns
returns c = λ sorted.
    all_from_yields_List (has_on c.args.features.now) _ _ c.all.result c.all.ensures.ran (YieldsList-from_slice c.args.names.now c.iter.ensures.rest) (λ x b q h. search rules)
