use Rattle.std.proofs.Common.{arith, sym}
use Rattle.ext_published.proofs.ListingLemmas.{ends_last}
use Rattle.ext_published.proofs.manifest.ends_line.Goals as goal

pub returns-in-len1-up : goal.returns-in-len1-up
returns-in-len1-up c = sym (ends_last c.args.text.now (omega arith))
