use Rattle.ext_feature.proofs.LawsLemmas.{one_features}
use Rattle.ext_feature.proofs.laws.a_component_has_its_features_or_a_first_fault.Goals as goal

pub returns : goal.returns
returns c = one_features
