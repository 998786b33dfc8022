use Rattle.std.proofs.Common.{[], ◌∙◌}
use Rattle.ext_index.proofs.writing.index_size.Goals as goal

pub returns : goal.returns
returns c = c.count.ensures ∙ c.in-Ok.ensures [] c.new-out.ensures
