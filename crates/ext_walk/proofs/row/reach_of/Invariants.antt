use Rattle.std.proofs.Common.{◌≤◌, ◌-◌, length}
use Rattle.ext_walk.proofs.row.reach_of.Given as goal

abbrev pub invariant-doubling : goal.invariant-doubling
invariant-doubling g l = 1 ≤ l.reach

abbrev pub decreases-doubling : goal.decreases-doubling
decreases-doubling g l = length l.entries - l.reach
