use Rattle.std.proofs.Common.{◌≡◌, ◌++◌, length, map}
use Rattle.std.specs.List.{AllByRecursion}
use Rattle.std.specs.Vec.Iter.{into_iter_items, into_iter_len}
use Rattle.ext_update.specs.Drafts.{FitsAlone, HasContent, IsNewPiece, arrival_piece}
use Rattle.ext_update.proofs.fitting.arrival_pieces.Given as goal

-- the resources so far and those that are left
abbrev pub invariant-arrivals : goal.invariant-arrivals
invariant-arrivals l = record {
  split : l.fn.arrivals.items ≡ l.yielded ++ into_iter_items l.arrival-iterator;
  left : into_iter_len l.arrival-iterator ≡ length (into_iter_items l.arrival-iterator);
  so_far : l.pieces.items ≡ map arrival_piece l.yielded;
  fits : AllByRecursion FitsAlone l.yielded;
  new : AllByRecursion IsNewPiece l.pieces.items;
  contents : AllByRecursion HasContent (into_iter_items l.arrival-iterator);
}
