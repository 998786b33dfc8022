use Rattle.std.proofs.Common.{◌≡◌, take}
use Rattle.ext_history.specs.History.{files_in}
use Rattle.ext_history.proofs.listing.files_in.Given as goal

abbrev pub invariant-pairs : goal.invariant-pairs
invariant-pairs l = l.files ≡ files_in (take l.pair-index l.pairs)
