use Rattle.std.proofs.Common.{◌≡◌, ◌++◌, length, map}
use Rattle.std.specs.List.{AllByRecursion}
use Rattle.std.specs.Vec.Iter.{into_iter_items, into_iter_len}
use Rattle.ext_update.specs.Drafts.{IsNewPiece, IsSet, LinkFitsAlone, current_piece}
use Rattle.ext_update.proofs.fitting.link_pieces.Given as goal

-- the links so far and those that are left
abbrev pub invariant-links : goal.invariant-links
invariant-links l = record {
  split : l.fn.links.items ≡ l.yielded ++ into_iter_items l.link-iterator;
  left : into_iter_len l.link-iterator ≡ length (into_iter_items l.link-iterator);
  so_far : l.pieces.items ≡ map current_piece l.yielded;
  fits : AllByRecursion LinkFitsAlone l.yielded;
  new : AllByRecursion IsNewPiece l.pieces.items;
  set : AllByRecursion IsSet (into_iter_items l.link-iterator);
}
