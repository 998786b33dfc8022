use Rattle.std.proofs.Common.{take}
use Rattle.ext_published.specs.declared.payload.Payload.TheVariants.{Directory}
use Rattle.ext_publish.specs.Attempting.{IsMadeOf}
use Rattle.ext_publish.proofs.counting.count_pairs.Given as goal

-- those so far are counted
abbrev pub invariant-pairs : goal.invariant-pairs
invariant-pairs l = IsMadeOf l.made (Directory (take l.pair-index l.pairs))
