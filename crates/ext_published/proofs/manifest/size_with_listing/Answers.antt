use Rattle.std.proofs.Common.{true, false, sym}
use Rattle.ext_published.proofs.ListingLemmas.{listing_size}
use Rattle.ext_published.proofs.manifest.size_with_listing.Goals as goal

pub returns-then-ends_line : goal.returns-then-ends_line
returns-then-ends_line c = listing_size c.args.old.now c.args.name.now true (sym c.if-ends_line.ensures)

pub returns-else-ends_line : goal.returns-else-ends_line
returns-else-ends_line c = listing_size c.args.old.now c.args.name.now false (sym c.if-ends_line.ensures)
