use Rattle.std.proofs.Common.{◌≡◌, ◌++◌, length, map}
use Rattle.std.specs.List.{AllByRecursion}
use Rattle.std.specs.Vec.Iter.{into_iter_items, into_iter_len}
use Rattle.ext_text.specs.Path.{IsPath}
use Rattle.ext_tree.specs.Grafting.{hung}
use Rattle.ext_tree.proofs.graft.push_hung.Given as goal

abbrev pub invariant-loop-entry : goal.invariant-loop-entry
invariant-loop-entry g l = record {
  split : l.fn.part.items ≡ l.yielded ++ into_iter_items l.entry-iterator;
  left : into_iter_len l.entry-iterator ≡ length (into_iter_items l.entry-iterator);
  so_far : l.new.items ≡ l.fn.new.items ++ map (hung l.path) l.yielded;
  fits : AllByRecursion (λ e. IsPath (l.path ++ e.0)) l.yielded;
}
