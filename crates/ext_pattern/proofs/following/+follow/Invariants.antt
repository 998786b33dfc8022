use Rattle.std.proofs.Common.{length}
use Rattle.ext_pattern.proofs.following.+follow.Given as goal

abbrev pub decreases-follow : goal.decreases-follow
decreases-follow l = length l.parts.now
