use Rattle.ext_sums.proofs.LawsLemmas.{digests_are_digests}
use Rattle.ext_sums.proofs.laws.a_listed_digest_is_one.Goals as goal

pub returns : goal.returns
returns c = digests_are_digests
