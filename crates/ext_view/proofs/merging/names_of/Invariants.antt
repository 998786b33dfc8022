use Rattle.std.proofs.Common.{◌≡◌, take}
use Rattle.ext_view.specs.View.{names_of}
use Rattle.ext_view.proofs.merging.names_of.Given as goal

abbrev pub invariant-loop-item : goal.invariant-loop-item
invariant-loop-item l = l.names.items ≡ names_of (take l.item-index l.items)
