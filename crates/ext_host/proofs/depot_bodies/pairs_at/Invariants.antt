use Rattle.std.proofs.Common.{◌≡◌, ◌++◌, length}
use Rattle.std.specs.List.{AllByRecursion}
use Rattle.std.specs.Vec.Iter.{into_iter_items, into_iter_len}
use Rattle.ext_host.specs.DepotBodies.{FileFits, from_depot}
use Rattle.ext_host.proofs.depot_bodies.pairs_at.Given as goal

abbrev pub invariant-loop-pair : goal.invariant-loop-pair
invariant-loop-pair l = record {
  split : l.fn.pairs.items ≡ l.yielded ++ into_iter_items l.pair-iterator;
  left : into_iter_len l.pair-iterator ≡ length (into_iter_items l.pair-iterator);
  so_far : l.placed.items ≡ from_depot l.res l.yielded;
  fits : AllByRecursion (FileFits l.res) l.yielded;
}
