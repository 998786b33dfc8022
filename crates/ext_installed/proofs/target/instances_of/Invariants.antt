use Rattle.std.proofs.Common.{length}
use Rattle.ext_installed.proofs.ReachedLemmas.{IsReached}
use Rattle.ext_installed.proofs.target.instances_of.Given as goal

-- what is left of the target, and what was found
abbrev pub invariant-entries : goal.invariant-entries
invariant-entries g l = IsReached l.base l.place l.transfer l.rest l.items.items

abbrev pub decreases-entries : goal.decreases-entries
decreases-entries g l = length l.rest
