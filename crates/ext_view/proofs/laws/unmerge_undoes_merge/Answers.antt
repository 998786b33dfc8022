use Rattle.ext_view.proofs.LawsLemmas.{unmerge_undoes_merge}
use Rattle.ext_view.proofs.laws.unmerge_undoes_merge.Goals as goal

pub returns : goal.returns
returns c = unmerge_undoes_merge
