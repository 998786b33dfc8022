use Rattle.std.proofs.Common.{◌≡◌, take}
use Rattle.ext_tree.specs.Tree.{all_shown}
use Rattle.ext_layer.proofs.layered.copies_of.Given as goal

abbrev pub invariant-loop-pair : goal.invariant-loop-pair
invariant-loop-pair g l = l.copies.items ≡ all_shown (take l.pair-index l.pairs)
