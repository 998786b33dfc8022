use Rattle.ext_ini.proofs.RefusedLemmas.{first_refused, refusals_name}
use Rattle.ext_ini.proofs.laws.the_first_refused_whole_line_is_the_fault.Goals as goal

pub returns-clause-first : goal.returns-clause-first
returns-clause-first c = first_refused

pub returns-clause-named : goal.returns-clause-named
returns-clause-named c = refusals_name
