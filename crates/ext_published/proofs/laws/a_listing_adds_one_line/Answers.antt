use Rattle.ext_published.proofs.ListingLemmas.{lines_stay, listing_adds}
use Rattle.ext_published.proofs.laws.a_listing_adds_one_line.Goals as goal

pub returns-clause-lines : goal.returns-clause-lines
returns-clause-lines c = lines_stay

pub returns-clause-adds : goal.returns-clause-adds
returns-clause-adds c = listing_adds
