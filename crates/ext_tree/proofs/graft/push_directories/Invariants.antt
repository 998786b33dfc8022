use Rattle.std.proofs.Common.{◌≡◌, suc, ◌-◌, ◌≤◌, ◌++◌, length}
use Rattle.ext_tree.specs.Grafting.{directories}
use Rattle.ext_tree.proofs.graft.push_directories.Given as goal

abbrev pub invariant-names : goal.invariant-names
invariant-names g l = record {
  low : l.fn.standing ≤ l.count;
  high : l.count ≤ length l.path;
  so_far : l.new.items ≡ l.fn.new.items ++ directories l.path (suc l.fn.standing) (l.count - l.fn.standing);
}

abbrev pub decreases-names : goal.decreases-names
decreases-names g l = length l.path - l.count
