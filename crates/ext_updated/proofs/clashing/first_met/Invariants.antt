use Rattle.std.proofs.Common.{◌≡◌, length}
use Rattle.ext_updated.specs.Steps.{first_met}
use Rattle.ext_updated.proofs.clashing.first_met.Given as goal

-- the first of the rest is the first of all
abbrev pub invariant-paths : goal.invariant-paths
invariant-paths l = first_met l.rest ≡ first_met l.paths

abbrev pub decreases-paths : goal.decreases-paths
decreases-paths l = length l.rest
