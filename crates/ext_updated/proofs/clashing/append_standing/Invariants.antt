use Rattle.std.proofs.Common.{◌≡◌, ◌++◌, drop, is_some}
use Rattle.std.specs.List.{filter}
use Rattle.ext_tree.specs.Tree.{lookup}
use Rattle.ext_updated.proofs.clashing.append_standing.Given as goal

-- the paths so far and those of the rest are all
abbrev pub invariant-paths : goal.invariant-paths
invariant-paths g l = l.found.items ++ filter (λ p. is_some (lookup l.root p)) (drop l.path-index l.paths) ≡ l.initial.found.items ++ filter (λ p. is_some (lookup l.root p)) l.paths
