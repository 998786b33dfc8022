use Rattle.std.proofs.Common.{◌≡◌, ◌++◌}
use Rattle.std.specs.List.{AllByRecursion}
use Rattle.std.specs.VecDeque.{deque_len}
use Rattle.ext_updated.specs.Putting.{IsReady, IsWithin, entries_of}
use Rattle.ext_updated.proofs.putting.append_pieces.Given as goal

-- the entries so far and those of the rest are all; where the rest may be put all may, and the rest is of the pieces
abbrev pub invariant-pieces : goal.invariant-pieces
invariant-pieces g l = record {
  entries : l.pairs.items ++ entries_of l.rest.items ≡ l.fn.pairs.items ++ entries_of l.fn.pieces.items;
  ready : AllByRecursion IsReady l.rest.items → AllByRecursion IsReady l.fn.pieces.items;
  within : IsWithin l.fn.pieces.items l.rest.items;
}

abbrev pub decreases-pieces : goal.decreases-pieces
decreases-pieces g l = deque_len l.rest
