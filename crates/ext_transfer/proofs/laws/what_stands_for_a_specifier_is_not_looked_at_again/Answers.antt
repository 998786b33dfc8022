use Rattle.ext_transfer.proofs.ExpandLemmas.{doubled_stays, plain_stays}
use Rattle.ext_transfer.proofs.laws.what_stands_for_a_specifier_is_not_looked_at_again.Goals as goal

pub returns-clause-plain : goal.returns-clause-plain
returns-clause-plain c = plain_stays

pub returns-clause-doubled : goal.returns-clause-doubled
returns-clause-doubled c = doubled_stays
