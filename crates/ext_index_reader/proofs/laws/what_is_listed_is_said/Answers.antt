use Rattle.ext_index_reader.proofs.ListedLemmas.{listed_is_said}
use Rattle.ext_index_reader.proofs.laws.what_is_listed_is_said.Goals as goal

pub returns : goal.returns
returns c = listed_is_said
