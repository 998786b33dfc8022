use Rattle.ext_portext.proofs.MovedExtendedLemmas.{extended_not_given}
use Rattle.ext_portext.proofs.laws.what_is_not_given_is_a_release_file.Goals as goal

pub returns : goal.returns
returns c = extended_not_given
