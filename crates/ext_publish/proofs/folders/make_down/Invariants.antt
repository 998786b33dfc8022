use Rattle.std.proofs.Common.{length}
use Rattle.ext_publish.proofs.FoldersLemmas.{GoesDown}
use Rattle.ext_publish.proofs.folders.make_down.Given as goal

-- the folders so far stand
abbrev pub invariant-names : goal.invariant-names
invariant-names g l = GoesDown l.base l.names l.above l.left (g.O.Disk.state l.initial.out) (g.O.Disk.state l.out)

abbrev pub decreases-names : goal.decreases-names
decreases-names g l = length l.left
