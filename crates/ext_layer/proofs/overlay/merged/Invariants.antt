use Rattle.std.proofs.Common.{◌≡◌, ◌≤◌, ◌++◌, length, drop}
use Rattle.ext_layer.specs.Overlay.{over}
use Rattle.ext_layer.specs.Item.{all_seen}
use Rattle.ext_layer.proofs.overlay.merged.Given as goal

abbrev pub invariant-uppers : goal.invariant-uppers
invariant-uppers g l = record {
  within : l.from ≤ length l.lower;
  joined : all_seen l.merged.items ++ over (all_seen (drop l.item-index l.upper)) (all_seen (drop l.from l.lower)) ≡ over (all_seen l.upper) (all_seen l.lower);
}
