use Rattle.std.proofs.Common.{◌≡◌, map, take}
use Rattle.ext_history.specs.History.{listed}
use Rattle.ext_history.proofs.listing.all_listed.Given as goal

abbrev pub invariant-pasts : goal.invariant-pasts
invariant-pasts l = l.marks.items ≡ map listed (take l.past-index l.pasts)
