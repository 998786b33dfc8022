use Rattle.ext_top.proofs.VersionsLemmas.{protected_versions_stay}
use Rattle.ext_top.proofs.laws.protected_versions_stay.Goals as goal

pub returns : goal.returns
returns c = protected_versions_stay
