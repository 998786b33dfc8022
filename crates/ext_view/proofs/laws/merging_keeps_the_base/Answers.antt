use Rattle.ext_view.proofs.LawsLemmas.{merging_keeps_the_base}
use Rattle.ext_view.proofs.laws.merging_keeps_the_base.Goals as goal

pub returns : goal.returns
returns c = merging_keeps_the_base
