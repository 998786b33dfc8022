use Rattle.ext_feature.proofs.LawsLemmas.{all_are_on, some_are_on}
use Rattle.ext_feature.proofs.laws.without_features_all_transfers_are_on.Goals as goal

pub returns-clause-all : goal.returns-clause-all
returns-clause-all c = all_are_on

pub returns-clause-some : goal.returns-clause-some
returns-clause-some c = some_are_on
