use Rattle.std.proofs.Common.{take}
use Rattle.ext_homes.specs.Sought.{AreSought, Grows}
use Rattle.ext_homes.proofs.sought.mark_pairs.Given as goal

abbrev pub invariant-loop-pair : goal.invariant-loop-pair
invariant-loop-pair l = AreSought l.sought (take l.pair-index l.pairs) × Grows l.fn.sought l.sought
