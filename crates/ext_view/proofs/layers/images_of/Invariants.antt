use Rattle.std.proofs.Common.{take}
use Rattle.ext_view.specs.Parts.{AreEndsOf}
use Rattle.ext_view.proofs.layers.images_of.Given as goal

abbrev pub invariant-loop-item : goal.invariant-loop-item
invariant-loop-item l = AreEndsOf l.base (take l.item-index l.items) l.images.items
