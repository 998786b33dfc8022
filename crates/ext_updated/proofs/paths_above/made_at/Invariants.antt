use Rattle.std.proofs.Common.{◌≡◌, take}
use Rattle.ext_updated.specs.Putting.{made_at}
use Rattle.ext_updated.proofs.paths_above.made_at.Given as goal

abbrev pub invariant-loop-path : goal.invariant-loop-path
invariant-loop-path g l = l.pairs.items ≡ made_at (take l.path-index l.paths)
