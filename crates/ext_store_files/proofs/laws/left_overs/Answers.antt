use Rattle.ext_store_files.proofs.NamesLemmas.{left_is, is_left}
use Rattle.ext_store_files.proofs.laws.left_overs.Goals as goal

pub returns : goal.returns
returns c = λ needed name. (left_is needed name, is_left needed name)
