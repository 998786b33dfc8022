use Rattle.std.proofs.Common.{◌∙◌}
use Rattle.ext_index_reader.specs.Homes.{in_order}
use Rattle.ext_index_reader.specs.HomeLists.{all_of}
use Rattle.ext_index_reader.proofs.InOrderLemmas.{none_in_order}
use Rattle.ext_index_reader.proofs.homes.Homes.new.Goals as goal

pub returns : goal.returns
returns c = (λ i. in_order (all_of (c.new.ensures.items i)) (c.new-2.ensures.empty i)) ∙ none_in_order
