use Rattle.std.proofs.Common.{◌≡◌, ◌≤◌, length, take}
use Rattle.ext_portext.specs.Extensions.{AreExtending}
use Rattle.ext_portext.proofs.reading.read_all.Given as goal

-- the first images are there and fit, and the shelf tells the same
abbrev pub invariant-loop-image : goal.invariant-loop-image
invariant-loop-image g l = record {
  fit : AreExtending (g.H.Shelf.told l.fn.shelf) l.look.host.now l.look.base.now l.look.release.now (take l.image-index l.images) l.all.items;
  counted : length l.all.items ≡ l.image-index;
  stays : g.H.Shelf.stays l.fn.shelf l.shelf;
  risen : g.H.Shelf.faults l.fn.shelf ≤ g.H.Shelf.faults l.shelf;
}
