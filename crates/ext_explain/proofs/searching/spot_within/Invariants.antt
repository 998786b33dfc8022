use Rattle.std.proofs.Common.{◌-◌, ◌++◌, ◌∷◌, []}
use Rattle.ext_explain.specs.Search.{StandsWithin}
use Rattle.ext_explain.proofs.searching.spot_within.Given as goal

abbrev pub invariant-halves : goal.invariant-halves
invariant-halves l = StandsWithin l.entries (l.directory ++ l.name ∷ []) l.low l.high

abbrev pub decreases-halves : goal.decreases-halves
decreases-halves l = l.high - l.low
