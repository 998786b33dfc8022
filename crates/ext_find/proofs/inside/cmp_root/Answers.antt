use Rattle.ext_find.proofs.InsideLemmas.{past_root}
use Rattle.ext_find.proofs.inside.cmp_root.Goals as goal

pub returns-in-len1-up : goal.returns-in-len1-up
returns-in-len1-up c = past_root c.args.names.now c.in-len1-up.len_at_least
