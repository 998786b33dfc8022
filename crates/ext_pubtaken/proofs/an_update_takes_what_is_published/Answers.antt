use Rattle.ext_pubtaken.proofs.TakenLemmas.{update_takes}
use Rattle.ext_pubtaken.proofs.an_update_takes_what_is_published.Goals as goal

pub returns : goal.returns
returns c = update_takes
