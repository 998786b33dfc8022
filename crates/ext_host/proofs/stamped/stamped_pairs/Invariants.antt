use Rattle.std.proofs.Common.{◌≡◌, take}
use Rattle.ext_host.specs.Stamped.{stamps}
use Rattle.ext_host.proofs.stamped.stamped_pairs.Given as goal

abbrev pub invariant-loop-pair : goal.invariant-loop-pair
invariant-loop-pair l = l.copies.items ≡ stamps (take l.pair-index l.pairs)
