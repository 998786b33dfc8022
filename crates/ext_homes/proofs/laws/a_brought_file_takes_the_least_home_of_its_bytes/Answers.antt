use Rattle.ext_homes.specs.Giving.{stored_by}
use Rattle.ext_homes.proofs.LawsLemmas.{takes_of_bytes}
use Rattle.ext_homes.proofs.laws.a_brought_file_takes_the_least_home_of_its_bytes.Goals as goal

pub returns : goal.returns
returns c = λ from disk contents has n next stamp bytes home written takes. takes_of_bytes (stored_by from disk) contents has n next stamp bytes home written takes
