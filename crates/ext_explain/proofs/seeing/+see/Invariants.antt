use Rattle.std.proofs.Common.{length}
use Rattle.ext_explain.proofs.seeing.+see.Given as goal

abbrev pub decreases-see : goal.decreases-see
decreases-see l = length l.path.now
