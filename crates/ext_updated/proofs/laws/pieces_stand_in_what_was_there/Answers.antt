use Rattle.ext_updated.proofs.LawsLemmas.{others_stay, pieces_stand}
use Rattle.ext_updated.proofs.laws.pieces_stand_in_what_was_there.Goals as goal

pub returns-clause-pieces : goal.returns-clause-pieces
returns-clause-pieces g c = pieces_stand

pub returns-clause-others : goal.returns-clause-others
returns-clause-others g c = others_stay
