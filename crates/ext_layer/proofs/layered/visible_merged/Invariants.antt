use Rattle.std.proofs.Common.{◌≡◌, ◌≤◌, ◌++◌, length, drop}
use Rattle.ext_tree.specs.Tree.{all_shown}
use Rattle.ext_layer.specs.Overlay.{marked, over, visible_in}
use Rattle.ext_layer.specs.Item.{all_seen}
use Rattle.ext_layer.proofs.layered.visible_merged.Given as goal

abbrev pub invariant-uppers : goal.invariant-uppers
invariant-uppers g l = record {
  within : l.from ≤ length l.lower;
  shown : all_shown l.pairs.items ++ visible_in (over (all_seen (drop l.item-index l.upper)) (marked (drop l.from l.lower))) ≡ visible_in (over (all_seen l.upper) (marked l.lower));
}
