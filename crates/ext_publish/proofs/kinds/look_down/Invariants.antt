use Rattle.std.proofs.Common.{length}
use Rattle.ext_publish.proofs.LookingLemmas.{IsDown}
use Rattle.ext_publish.proofs.kinds.look_down.Given as goal

-- no file stands at the paths so far
abbrev pub invariant-names : goal.invariant-names
invariant-names g l = IsDown (g.O.Disk.state l.initial.out) (g.O.Disk.state l.out) l.names l.above l.left

abbrev pub decreases-names : goal.decreases-names
decreases-names g l = length l.left
