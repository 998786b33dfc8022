use Rattle.std.proofs.Common.{drop}
use Rattle.ext_pattern.proofs.FirstLemmas.{AreAlike}
use Rattle.ext_pattern.proofs.first.first_match.Given as goal

-- the patterns that are left take the name apart as all do
abbrev pub invariant-loop-pattern : goal.invariant-loop-pattern
invariant-loop-pattern l = AreAlike (drop l.pattern-index l.patterns) l.patterns l.name
