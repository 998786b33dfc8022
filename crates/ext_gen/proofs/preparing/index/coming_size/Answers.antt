use Rattle.ext_gen.specs.PreparingIndex.{coming_index}
use Rattle.ext_gen.proofs.preparing.index.coming_size.Goals as goal

pub returns : goal.returns
unfolding coming_index
returns c = c.index_size.ensures
