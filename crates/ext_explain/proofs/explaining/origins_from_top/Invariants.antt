use Rattle.std.proofs.Common.{take}
use Rattle.ext_explain.specs.Adding.{HaveLinesInOrder}
use Rattle.ext_explain.proofs.explaining.origins_from_top.Given as goal

abbrev pub invariant-loop-item : goal.invariant-loop-item
invariant-loop-item l = HaveLinesInOrder l.base (take l.item-index l.items) l.path l.origins.items
