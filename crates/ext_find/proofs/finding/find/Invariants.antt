use Rattle.ext_find.specs.Keeps.{Keeps, before}
use Rattle.ext_find.proofs.finding.find.Given as goal

abbrev pub invariant-directories : goal.invariant-directories
invariant-directories g l = Keeps g.C.Measured.size l.base l.fn.class l.fn.arch l.hierarchies (before l.index) l.kept
