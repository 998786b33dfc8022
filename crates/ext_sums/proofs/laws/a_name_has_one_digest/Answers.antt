use Rattle.ext_sums.proofs.LawsLemmas.{one_digest_is_no_other}
use Rattle.ext_sums.proofs.laws.a_name_has_one_digest.Goals as goal

pub returns : goal.returns
returns c = one_digest_is_no_other
