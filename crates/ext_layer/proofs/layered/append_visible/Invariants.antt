use Rattle.std.proofs.Common.{◌≡◌, ◌++◌, take}
use Rattle.ext_layer.specs.Overlay.{marked, visible_in}
use Rattle.ext_tree.specs.Tree.{all_shown}
use Rattle.ext_layer.proofs.layered.append_visible.Given as goal

abbrev pub invariant-loop-pair : goal.invariant-loop-pair
invariant-loop-pair g l = all_shown l.pairs.items ≡ all_shown l.fn.pairs.items ++ visible_in (marked (take l.pair-index l.more))
