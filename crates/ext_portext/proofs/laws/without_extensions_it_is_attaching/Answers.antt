use Rattle.ext_portext.proofs.WantsLemmas.{without_law}
use Rattle.ext_portext.proofs.laws.without_extensions_it_is_attaching.Goals as goal

pub returns : goal.returns
returns c = without_law
