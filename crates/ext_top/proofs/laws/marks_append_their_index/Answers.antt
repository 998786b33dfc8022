use Rattle.ext_top.proofs.MarkingLemmas.{marks_append}
use Rattle.ext_top.proofs.laws.marks_append_their_index.Goals as goal

pub returns : goal.returns
returns c = marks_append
