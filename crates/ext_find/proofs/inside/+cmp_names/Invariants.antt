use Rattle.std.proofs.Common.{length}
use Rattle.ext_find.proofs.inside.+cmp_names.Given as goal

abbrev pub decreases-cmp_names : goal.decreases-cmp_names
decreases-cmp_names l = length l.names.now
