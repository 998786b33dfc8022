use Rattle.ext_top.proofs.RefreshLemmas.{refresh_leaves}
use Rattle.ext_top.proofs.laws.a_refresh_is_an_unmerge_and_a_merge.Goals as goal

pub returns : goal.returns
returns c = refresh_leaves c.refresh_gives_what_unmerge_and_merge_give.ensures
