use Rattle.std.proofs.Common.{length}
use Rattle.ext_host.proofs.base.+count_base.Given as goal

abbrev pub decreases-count_base : goal.decreases-count_base
decreases-count_base l = length l.names.now
