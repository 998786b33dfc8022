use Rattle.std.proofs.Common.{◌≡◌, ◌++◌, length, map}
use Rattle.std.specs.List.{AllByRecursion}
use Rattle.std.specs.Vec.Iter.{into_iter_items, into_iter_len}
use Rattle.ext_update.specs.Drafts.{IsOfTransfer, arrival_of}
use Rattle.ext_update.proofs.arriving.arrivals.Given as goal

-- the resources so far and those that are left
abbrev pub invariant-resources : goal.invariant-resources
invariant-resources l = record {
  split : l.fn.resources.items ≡ l.yielded ++ into_iter_items l.resource-iterator;
  left : into_iter_len l.resource-iterator ≡ length (into_iter_items l.resource-iterator);
  so_far : l.arrivals.items ≡ map (arrival_of l.transfers) l.yielded;
  transfers : AllByRecursion (IsOfTransfer l.transfers) (into_iter_items l.resource-iterator);
}
