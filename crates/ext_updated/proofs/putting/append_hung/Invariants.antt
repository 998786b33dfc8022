use Rattle.std.proofs.Common.{◌≡◌, ◌++◌, map}
use Rattle.std.specs.VecDeque.{deque_len}
use Rattle.ext_tree.specs.Grafting.{hung}
use Rattle.ext_updated.specs.Putting.{AllFitBelow, IsWithin}
use Rattle.ext_updated.proofs.putting.append_hung.Given as goal

-- the entries so far and those of the rest are all; where the rest fits all does, and the rest is of the part
abbrev pub invariant-entries : goal.invariant-entries
invariant-entries g l = record {
  entries : l.pairs.items ++ map (hung l.path) l.rest.items ≡ l.fn.pairs.items ++ map (hung l.path) l.fn.part.items;
  fits : AllFitBelow l.path l.rest.items → AllFitBelow l.path l.fn.part.items;
  within : IsWithin l.fn.part.items l.rest.items;
}

abbrev pub decreases-entries : goal.decreases-entries
decreases-entries g l = deque_len l.rest
