use Rattle.std.proofs.Common.{◌≡◌, ◌-◌, ◌++◌, length}
use Rattle.std.specs.List.{filter}
use Rattle.ext_updated.specs.Putting.{lacks, prefixes, prefixes_from}
use Rattle.ext_updated.proofs.paths_above.append_prefixes.Given as goal

-- the paths so far and the longer ones are all
abbrev pub invariant-names : goal.invariant-names
invariant-names g l = l.paths.items ++ filter (lacks l.tree) (prefixes_from l.path l.names (length l.path - l.names)) ≡ l.initial.paths.items ++ filter (lacks l.tree) (prefixes l.path)
