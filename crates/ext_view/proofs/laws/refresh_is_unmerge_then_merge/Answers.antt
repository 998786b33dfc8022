use Rattle.ext_view.proofs.LawsLemmas.{refresh_is_unmerge_then_merge, unmerge_then_merge_is_refresh}
use Rattle.ext_view.proofs.laws.refresh_is_unmerge_then_merge.Goals as goal

pub returns-clause-refresh : goal.returns-clause-refresh
returns-clause-refresh c = refresh_is_unmerge_then_merge

pub returns-clause-both : goal.returns-clause-both
returns-clause-both c = unmerge_then_merge_is_refresh
