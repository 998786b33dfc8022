use Rattle.ext_published.proofs.PublishedLemmas.{files_have_listed_stamps}
use Rattle.ext_published.proofs.laws.a_published_directory_is_whole.Goals as goal

pub returns : goal.returns
returns c = files_have_listed_stamps
