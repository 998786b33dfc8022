use Rattle.std.proofs.Common.{◌≡◌, ◌≤◌, ◌++◌}
use Rattle.ext_view.specs.Matched.{AreMatched}
use Rattle.ext_view.specs.Surveying.{IsItemOf}
use Rattle.ext_view.proofs.surveying.items_of.Given as goal

abbrev pub invariant-loop-item : goal.invariant-loop-item
invariant-loop-item g l =
    (l.yielded ++ l.item-iterator.rest.items ≡ l.fn.found)
    × AreMatched (IsItemOf (g.H.Shelf.told l.fn.shelf) l.look.host.now l.look.base.now l.look.class l.look.force l.look.release.now) l.yielded l.items.items
    × g.H.Shelf.stays l.fn.shelf l.shelf
    × (g.H.Shelf.faults l.fn.shelf ≤ g.H.Shelf.faults l.shelf)
