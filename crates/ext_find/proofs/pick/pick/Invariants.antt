use Rattle.std.proofs.Common.{length}
use Rattle.ext_walk.specs.Row.{IsRow}
use Rattle.ext_find.specs.Pick.{IsBest}
use Rattle.ext_find.proofs.pick.pick.Given as goal

abbrev pub invariant-names : goal.invariant-names
invariant-names g l = IsRow l.base l.directory l.rest × IsBest l.base l.arch l.path l.stem l.directory l.rest l.best

abbrev pub decreases-names : goal.decreases-names
decreases-names g l = length l.rest
