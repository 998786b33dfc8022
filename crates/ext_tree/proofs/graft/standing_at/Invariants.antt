use Rattle.std.proofs.Common.{◌-◌, ◌<◌, ◌≤◌, ℕ, length, take}
use Rattle.std.specs.Prelude.{IsTrue}
use Rattle.ext_tree.specs.Tree.{is_directory_at, lookup}
use Rattle.ext_tree.proofs.graft.standing_at.Given as goal

abbrev pub invariant-names : goal.invariant-names
invariant-names g l = record {
  not_all : l.standing < length l.path;
  there : (k : ℕ) → 0 < k → k ≤ l.standing → IsTrue (is_directory_at (lookup l.entries (take k l.path)));
}

abbrev pub decreases-names : goal.decreases-names
decreases-names g l = length l.path - l.standing
