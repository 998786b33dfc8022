use Rattle.ext_index_reader.proofs.ListingLemmas.{said_is_listed}
use Rattle.ext_index_reader.proofs.laws.what_is_said_is_listed.Goals as goal

pub returns : goal.returns
returns c = said_is_listed
