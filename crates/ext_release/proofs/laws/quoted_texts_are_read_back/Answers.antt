use Rattle.ext_release.proofs.QuotingLemmas.{double_read_back, single_read_back}
use Rattle.ext_release.proofs.laws.quoted_texts_are_read_back.Goals as goal

pub returns-clause-double : goal.returns-clause-double
returns-clause-double c = double_read_back

pub returns-clause-single : goal.returns-clause-single
returns-clause-single c = single_read_back
