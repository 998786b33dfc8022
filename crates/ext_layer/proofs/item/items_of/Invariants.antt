use Rattle.std.proofs.Common.{◌≡◌, take}
use Rattle.ext_layer.specs.Overlay.{marked}
use Rattle.ext_layer.specs.Item.{all_seen}
use Rattle.ext_layer.proofs.item.items_of.Given as goal

abbrev pub invariant-loop-pair : goal.invariant-loop-pair
invariant-loop-pair g l = all_seen l.items.items ≡ marked (take l.pair-index l.pairs)
