use Rattle.std.proofs.Common.{length}
use Rattle.ext_walk.specs.Row.{IsRow}
use Rattle.ext_find.specs.Keeps.{Keeps, passed}
use Rattle.ext_find.proofs.finding.keep_names.Given as goal

abbrev pub invariant-names : goal.invariant-names
invariant-names g l = IsRow l.search.base.now l.directory l.rest × Keeps g.C.Measured.size l.search.base.now l.search.class l.search.arch l.search.hierarchies.now (passed l.index l.directory l.rest) l.kept

abbrev pub decreases-names : goal.decreases-names
decreases-names g l = length l.rest
