use Rattle.ext_homes.specs.Giving.{stored_by}
use Rattle.ext_homes.proofs.NewLemmas.{host_new}
use Rattle.ext_homes.proofs.laws.what_is_written_is_new.Goals as goal

pub returns : goal.returns
returns c = λ from disk contents has depot files is n host new written placed. host_new (stored_by from disk) contents depot files n host new written has is placed
