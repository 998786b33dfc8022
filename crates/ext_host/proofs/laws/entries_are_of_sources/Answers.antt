use Rattle.ext_host.proofs.DrawnLemmas.{entries_of_base, entries_of_cut, entries_of_graft, entries_of_part}
use Rattle.ext_host.proofs.laws.entries_are_of_sources.Goals as goal

pub returns-clause-base : goal.returns-clause-base
returns-clause-base g c = entries_of_base

pub returns-clause-part : goal.returns-clause-part
returns-clause-part g c = entries_of_part

pub returns-clause-cut : goal.returns-clause-cut
returns-clause-cut g c = entries_of_cut

pub returns-clause-graft : goal.returns-clause-graft
returns-clause-graft g c = entries_of_graft
