use Rattle.ext_portext.proofs.MovedExtendedLemmas.{extended_alike}
use Rattle.ext_portext.proofs.laws.it_rests_on_the_files_of_the_host.Goals as goal

pub returns : goal.returns
returns c = extended_alike
