use Rattle.std.proofs.Common.{◌≡◌, ◌++◌, length}
use Rattle.ext_updated.specs.Putting.{lacking_once}
use Rattle.ext_updated.proofs.paths_above.append_above.Given as goal

-- the paths so far and those above the rest are all
abbrev pub invariant-pieces : goal.invariant-pieces
invariant-pieces g l = l.paths.items ++ lacking_once l.tree l.rest ≡ l.fn.paths.items ++ lacking_once l.tree l.pieces

abbrev pub decreases-pieces : goal.decreases-pieces
decreases-pieces g l = length l.rest
