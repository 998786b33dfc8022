use Rattle.std.proofs.Common.{◌≡◌, ◌++◌, drop}
use Rattle.std.specs.List.{filter}
use Rattle.ext_text.specs.SortedPaths.{meets}
use Rattle.ext_updated.proofs.clashing.append_met.Given as goal

-- the paths so far and those of the rest are all
abbrev pub invariant-paths : goal.invariant-paths
invariant-paths l = l.found.items ++ filter (meets l.others) (drop l.path-index l.paths) ≡ l.initial.found.items ++ filter (meets l.others) l.paths
