use Rattle.std.proofs.Common.{length}
use Rattle.ext_host.proofs.base.+append_base.Given as goal

abbrev pub decreases-append_base : goal.decreases-append_base
decreases-append_base l = length l.names.now
