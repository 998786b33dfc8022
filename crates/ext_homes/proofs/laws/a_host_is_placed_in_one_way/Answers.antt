use Rattle.ext_homes.specs.Giving.{stored_by}
use Rattle.ext_homes.proofs.LawsLemmas.{host_way}
use Rattle.ext_homes.proofs.laws.a_host_is_placed_in_one_way.Goals as goal

pub returns : goal.returns
returns c = λ from disk contents has depot files is n host one two first second a b. host_way (stored_by from disk) contents depot files n host one two first second has is a b
