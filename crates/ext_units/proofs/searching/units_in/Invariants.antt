use Rattle.ext_units.specs.Kept.{KeepsUnits, earlier_entries}
use Rattle.ext_units.proofs.searching.units_in.Given as goal

abbrev pub invariant-directories : goal.invariant-directories
invariant-directories g l = KeepsUnits l.search.tree.now l.search.prefixes (earlier_entries l.index) l.kept
