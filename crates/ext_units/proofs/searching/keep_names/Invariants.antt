use Rattle.std.proofs.Common.{length}
use Rattle.ext_walk.specs.Row.{IsRow}
use Rattle.ext_units.specs.Kept.{KeepsUnits, visited_entries}
use Rattle.ext_units.proofs.searching.keep_names.Given as goal

abbrev pub invariant-names : goal.invariant-names
invariant-names g l = IsRow l.search.tree.now l.directory l.rest × KeepsUnits l.search.tree.now l.search.prefixes (visited_entries l.index l.directory l.rest) l.kept

abbrev pub decreases-names : goal.decreases-names
decreases-names g l = length l.rest
