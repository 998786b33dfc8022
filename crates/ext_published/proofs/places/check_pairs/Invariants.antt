use Rattle.std.proofs.Common.{take}
use Rattle.std.specs.List.{AllByRecursion}
use Rattle.ext_published.specs.Places.{FitsBelow}
use Rattle.ext_published.proofs.places.check_pairs.Given as goal

-- those so far fit
abbrev pub invariant-pairs : goal.invariant-pairs
invariant-pairs l = AllByRecursion (FitsBelow l.resource) (take l.pair-index l.pairs)
