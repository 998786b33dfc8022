use Rattle.std.proofs.Common.{◌≡◌, ◌++◌, take}
use Rattle.ext_tree.proofs.copy.append_pairs.Given as goal

abbrev pub invariant-loop-pair : goal.invariant-loop-pair
invariant-loop-pair g l = l.copies.items ≡ l.fn.copies.items ++ take l.pair-index l.pairs
