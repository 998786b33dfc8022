use Rattle.ext_gen.proofs.StatesLemmas.{empty_is_durably}
use Rattle.ext_gen.proofs.laws.an_empty_disk_stands_for_none.Goals as goal

pub returns : goal.returns
returns c = empty_is_durably
