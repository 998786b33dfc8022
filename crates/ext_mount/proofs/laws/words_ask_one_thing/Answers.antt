use Rattle.ext_mount.proofs.LawsLemmas.{one_asked}
use Rattle.ext_mount.proofs.laws.words_ask_one_thing.Goals as goal

pub returns : goal.returns
returns c = one_asked
