use Rattle.std.proofs.Common.{◌≡◌, ℕ, ◌<◌, false, take}
use Rattle.ext_tree.specs.Graft.{is_non_directory_at}
use Rattle.ext_tree.specs.Tree.{lookup}
use Rattle.ext_intents.proofs.import.non_directory_above.Given as goal

-- none of the shorter prefixes is one of an entry that is no directory
abbrev pub invariant-counts : goal.invariant-counts
invariant-counts l = (k : ℕ) → k < l.count → is_non_directory_at (lookup l.tree (take k l.path)) ≡ false
